-- A station: its marks, its request and its lock records; and what it does at a note.
use Rattle.std.specs.Prelude.{ℕ, zero, suc, Bool, true, false, cond, not, ◌&&◌, ◌||◌, List, [], ◌∷◌, ◌++◌, is_some, Some, None, Option, Ok, ◌==◌, nat_lt}
use Rattle.events.specs.declared.marks.Marks.{Marks}
use Rattle.events.specs.Marks.{unmarked}
use Rattle.lines.specs.declared.note.Note.{Note}
use Rattle.lines.specs.declared.note.Note.TheVariants.{Ask, Grant, Settle}
use Rattle.rules.specs.Answers.{accepted}
use Rattle.rules.specs.Rule.{Meaning}
use Rattle.rules.specs.Semantics.{lowest}
use Rattle.protocol.specs.declared.delivery.Post.{Post}
use Rattle.protocol.specs.Outcomes.{Delivery, astray}

pub data Request : Type 0 where
  resting : Request
  -- the event, the locks had so far and the marks seen
  asking : ℕ → (ℕ → Bool) → (ℕ → Marks) → Request

pub record Station : Type 0 where
  pub marks : ℕ → Marks
  pub request : Request
  -- who has the lock of each event, and which stations wait for it
  pub holder : ℕ → Option ℕ
  pub waiting : ℕ → ℕ → Bool

-- what a station does: how it is left, what it posts, in order, and what came of the message
pub record Step : Type 0 where
  pub station : Station
  pub posts : List Post
  pub delivery : Delivery

-- ---- functions changed at one place

abbrev pub put {ℓ} : {A : Type ℓ} → (ℕ → A) → ℕ → A → ℕ → A
put f i v j = cond (j == i) v (f j)

abbrev pub put_pair {ℓ} : {A : Type ℓ} → (ℕ → ℕ → A) → ℕ → ℕ → A → ℕ → ℕ → A
put_pair f a b v x y = cond (x == a && y == b) v (f x y)

abbrev pub is : Option ℕ → ℕ → Bool
is None t = false
is (Some u) t = u == t

-- ---- who is concerned by what

-- e is an event of the station s
abbrev pub owns : Meaning → ℕ → ℕ → Bool
owns R s e = nat_lt e R.events && R.owner e == s

-- the station s owns an event of the lock set of e
abbrev pub concerned : Meaning → ℕ → ℕ → Bool
concerned R e s = is_some (lowest (λ f. R.locks e f && R.owner f == s) R.events)

-- the lowest lock of e that is not had
abbrev pub missing : Meaning → ℕ → (ℕ → Bool) → Option ℕ
missing R e had = lowest (λ f. R.locks e f && not (had f)) R.events

abbrev pub is_resting : Request → Bool
is_resting resting = true
is_resting (asking e had seen) = false

-- ---- a request begins

abbrev pub asked : Station → Request → Station
asked S q = record { marks = S.marks; request = q; holder = S.holder; waiting = S.waiting }

-- a request of e, whose lowest lock is g
abbrev pub begins : Meaning → Station → ℕ → Option ℕ → Step
begins R S e None = record { station = S; posts = []; delivery = astray }
begins R S e (Some g) =
    record {
      station = asked S (asking e (λ _. false) (λ _. unmarked));
      posts = record { to = R.owner g; note = Ask g } ∷ [];
      delivery = Ok None;
    }

-- ---- an ask

-- an ask for f from the station a, where the lock has that holder: the asker gets a free lock, and waits for another
abbrev pub asks : Station → ℕ → ℕ → Option ℕ → Step
asks S a f None =
    record {
      station = record { marks = S.marks; request = S.request; holder = put S.holder f (Some a); waiting = S.waiting };
      posts = record { to = a; note = Grant f (S.marks f) } ∷ [];
      delivery = Ok None;
    }
asks S a f (Some t) =
    record {
      station = record { marks = S.marks; request = S.request; holder = S.holder; waiting = put_pair S.waiting f a true };
      posts = [];
      delivery = Ok None;
    }

-- ---- a grant

-- a note to each station below n that passes the test, lowest first
abbrev pub to_each : (ℕ → Bool) → Note → ℕ → List Post
to_each p note zero = []
to_each p note (suc n) = to_each p note n ++ cond (p n) (record { to = n; note = note } ∷ []) []

-- after a grant is noted: the next lock is asked for; or all are had, and the station answers, rests and posts its settles
abbrev pub goes_on : Meaning → Station → ℕ → (ℕ → Bool) → (ℕ → Marks) → Option ℕ → Step
goes_on R S e had seen (Some g) =
    record { station = asked S (asking e had seen); posts = record { to = R.owner g; note = Ask g } ∷ []; delivery = Ok None }
goes_on R S e had seen None =
    record {
      station = asked S resting;
      posts = to_each (concerned R e) (Settle e (accepted (R.decides e seen))) R.stations;
      delivery = Ok (Some (record { event = e; decision = R.decides e seen }));
    }

abbrev pub had_more : (ℕ → Bool) → ℕ → ℕ → Bool
had_more had f k = had k || k == f

abbrev pub strays : Station → Step
strays S = record { station = S; posts = []; delivery = astray }

-- a grant of f with the marks x from the station a fits from the owner of f, for the lowest missing lock
abbrev pub granted : Meaning → Station → ℕ → ℕ → Marks → Request → Step
granted R S a f x resting = strays S
granted R S a f x (asking e had seen) =
    cond (is (missing R e had) f && R.owner f == a)
    (goes_on R S e (had_more had f) (put seen f x) (missing R e (had_more had f)))
    (strays S)

-- ---- a settle

-- the marks of the station b after a settle of e: if accepted, doing e changes its own events
abbrev pub marked : Meaning → Station → ℕ → ℕ → Bool → ℕ → Marks
marked R S b e ok f = cond (owns R b f && ok) (R.does e S.marks f) (S.marks f)

-- which of those that wait for the lock of f gets it next: the lowest of the numbers 0 to 7
abbrev pub next : Station → ℕ → Option ℕ
next S f = lowest (S.waiting f) 8

-- a settle from the station a frees the own events that a has locked
abbrev pub frees : Meaning → Station → ℕ → ℕ → ℕ → Bool
frees R S a b f = owns R b f && is (S.holder f) a

-- a note to the next holder, if the lock is freed and there is one
abbrev pub hand : Bool → Option ℕ → Note → List Post
hand true (Some w) note = record { to = w; note = note } ∷ []
hand true None note = []
hand false (Some w) note = []
hand false None note = []

-- the grants of the freed locks below n, lowest event first
abbrev pub hands : (ℕ → Bool) → (ℕ → Option ℕ) → (ℕ → Marks) → ℕ → List Post
hands p to m zero = []
hands p to m (suc n) = hands p to m n ++ hand (p n) (to n) (Grant n (m n))

abbrev pub settled : Meaning → Station → ℕ → ℕ → ℕ → Bool → Step
settled R S a b e ok =
    record {
      station = record {
        marks = marked R S b e ok;
        request = S.request;
        holder = λ f. cond (frees R S a b f) (next S f) (S.holder f);
        waiting = λ f w. cond (frees R S a b f && is (next S f) w) false (S.waiting f w);
      };
      posts = hands (frees R S a b) (next S) (marked R S b e ok) R.events;
      delivery = Ok None;
    }

-- ---- the step of the station b at a note from the station a: an ask fits for an own event, a settle from the event's
-- owner, and nothing else but a fitting grant does
abbrev pub step : Meaning → ℕ → Station → ℕ → Option Note → Step
step R b S a (Some (Ask f)) = cond (owns R b f) (asks S a f (S.holder f)) (strays S)
step R b S a (Some (Grant f x)) = granted R S a f x S.request
step R b S a (Some (Settle e ok)) = cond (owns R a e) (settled R S a b e ok) (strays S)
step R b S a None = strays S

-- the station s at the start: the start marks of its own events, no request, every lock free
abbrev pub fresh : Meaning → ℕ → Station
fresh R s = record { marks = λ e. cond (owns R s e) (R.start e) unmarked; request = resting; holder = λ _. None; waiting = λ _ _. false }
