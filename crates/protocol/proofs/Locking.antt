-- The protocol without queues: each station's request with its stage, the settles under way, who holds what.
use Rattle.std.proofs.Common.{◌≡◌, ℕ, ◌<◌, Bool, true, false, cond, ◌&&◌, ◌||◌, eqb, ltb, ◌⊎◌, is_some, Some, None, Option}
use Rattle.events.specs.declared.marks.Marks.{Marks}
use Rattle.rules.specs.Rule.{Meaning}
use Rattle.rules.specs.Semantics.{lowest}
use Rattle.protocol.specs.Station.{put, put_pair, is, owns, concerned}

pub data Stage : Type 0 where
  requested : Stage
  waits : Stage
  given : Marks → Stage

-- idle, or open: the event, the lowest lock that is missing, the marks seen, the stage of that lock
pub data Phase : Type 0 where
  idle : Phase
  busy : ℕ → ℕ → (ℕ → Marks) → Stage → Phase

-- a settle under way
pub data Settling : Type 0 where
  clear : Settling
  settling : ℕ → Bool → Settling

pub record Locking : Type 0 where
  pub marks : ℕ → Marks
  pub phase : ℕ → Phase
  pub holder : ℕ → Option ℕ
  pub underway : ℕ → ℕ → Settling

abbrev pub is_given : Stage → Bool
is_given (given x) = true
is_given stage = false

abbrev pub is_waiting : Stage → Bool
is_waiting waits = true
is_waiting stage = false

module _ (R : Meaning) where
  -- station in phase p has the lock of f
  unfoldable pub has : Phase → ℕ → Bool
  has idle f = false
  has (busy e g seen stage) f = (R.locks e f && ltb f g) || (is_given stage && eqb f g)

  unfoldable pub waits_for : Phase → ℕ → Bool
  waits_for idle f = false
  waits_for (busy e g seen stage) f = is_waiting stage && eqb f g

  abbrev pub covers : Settling → ℕ → Bool
  covers clear f = false
  covers (settling e ok) f = R.locks e f

abbrev pub is_settling : Settling → Bool
is_settling clear = false
is_settling (settling e ok) = true

-- the marks that are noted or on their way
unfoldable pub knows : Meaning → Phase → ℕ → Marks → Type 0
knows R idle f x = ⊥
knows R (busy e g seen (given y)) f x = ((R.locks e f ≡ true) × (f < g) × (seen f ≡ x)) ⊎ ((f ≡ g) × (y ≡ x))
knows R (busy e g seen stage) f x = (R.locks e f ≡ true) × (f < g) × (seen f ≡ x)

abbrev pub Valid : Meaning → ℕ → Phase → Type 0
Valid R s idle = Unit {0}
Valid R s (busy e g seen stage) = (e < R.events) × (R.owner e ≡ s) × (R.locks e g ≡ true)

abbrev pub Sent : Meaning → ℕ → ℕ → Settling → Type 0
Sent R a b clear = Unit {0}
Sent R a b (settling e ok) = (e < R.events) × (R.owner e ≡ a) × (a < R.stations) × (b < R.stations)

-- what the table has of f
abbrev pub view_at : Meaning → Settling → (ℕ → Marks) → ℕ → Marks
view_at R (settling e true) marks f = R.does e marks f
view_at R t marks f = marks f

abbrev pub view : Meaning → Locking → Option ℕ → ℕ → Marks
view R A None f = A.marks f
view R A (Some t) f = view_at R (A.underway t (R.owner f)) A.marks f

pub record Invariant (R : Meaning) (A : Locking) (M : ℕ → Marks) : Type 0 where
  -- a request is for an event of its station, and its missing lock is in the lock set
  pub valid : (s : ℕ) → Valid R s (A.phase s)
  -- a settle under way is of an event of its sender
  pub sent : (a b : ℕ) → Sent R a b (A.underway a b)
  -- the holder of a lock is the station that has it, or whose settle that frees it is under way
  pub holds : (t f : ℕ) → is (A.holder f) t ≡ (has R (A.phase t) f || covers R (A.underway t (R.owner f)) f)
  -- while its settle to the owner of f is under way, a station neither has nor waits for f
  pub apart : (t f : ℕ) → is_settling (A.underway t (R.owner f)) ≡ true → (has R (A.phase t) f || waits_for R (A.phase t) f) ≡ false
  -- a lock that is waited for is held
  pub held : (s f : ℕ) → waits_for R (A.phase s) f ≡ true → is_some (A.holder f) ≡ true
  -- the whole marking is the owners' marks, with the accepted settle under way applied
  pub seen : (f : ℕ) → f < R.events → M f ≡ view R A (A.holder f) f
  -- marks that are noted or on their way are those of the whole marking
  pub noted : (t f : ℕ) (x : Marks) → knows R (A.phase t) f x → x ≡ M f

-- ---- the steps

-- a station begins a request
abbrev pub begun : Locking → ℕ → ℕ → ℕ → (ℕ → Marks) → Locking
begun A s e g known = record { marks = A.marks; phase = put A.phase s (busy e g known requested); holder = A.holder; underway = A.underway }

-- an ask comes to a free lock, or to one that is held
abbrev pub ask_free : Locking → ℕ → ℕ → ℕ → (ℕ → Marks) → Locking
ask_free A a e g known = record {
  marks = A.marks;
  phase = put A.phase a (busy e g known (given (A.marks g)));
  holder = put A.holder g (Some a);
  underway = A.underway;
}

abbrev pub ask_held : Locking → ℕ → ℕ → ℕ → (ℕ → Marks) → Locking
ask_held A a e g known = record { marks = A.marks; phase = put A.phase a (busy e g known waits); holder = A.holder; underway = A.underway }

-- a grant comes, and a lock g' is missing still, or none
abbrev pub more : Locking → ℕ → ℕ → ℕ → Marks → ℕ → (ℕ → Marks) → Locking
more A b e g x g' known = record { marks = A.marks; phase = put A.phase b (busy e g' (put known g x) requested); holder = A.holder; underway = A.underway }

abbrev pub done : Meaning → Locking → ℕ → ℕ → Bool → Locking
done R A b e ok = record {
  marks = A.marks;
  phase = put A.phase b idle;
  holder = A.holder;
  underway = λ t c. cond (eqb t b && concerned R e c) (settling e ok) (A.underway t c);
}

-- a settle of e from a comes to b
abbrev pub frees_lock : Meaning → Locking → ℕ → ℕ → ℕ → Bool
frees_lock R A a b f = owns R b f && is (A.holder f) a

abbrev pub next_for : Meaning → Locking → ℕ → Option ℕ
next_for R A f = lowest (λ w. waits_for R (A.phase w) f) 8

abbrev pub hands_over : Meaning → Locking → ℕ → ℕ → ℕ → ℕ → Bool
hands_over R A a b w f = frees_lock R A a b f && is (next_for R A f) w

abbrev pub marks_after : Meaning → Locking → ℕ → ℕ → Bool → ℕ → Marks
marks_after R A b e ok f = cond (owns R b f && ok) (R.does e A.marks f) (A.marks f)

abbrev pub granting : (ℕ → Bool) → (ℕ → Marks) → Phase → Phase
granting p m (busy e g known waits) = busy e g known (cond (p g) (given (m g)) waits)
granting p m q = q

abbrev pub freed : Meaning → Locking → ℕ → ℕ → ℕ → Bool → Locking
freed R A a b e ok = record {
  marks = marks_after R A b e ok;
  phase = λ w. granting (hands_over R A a b w) (marks_after R A b e ok) (A.phase w);
  holder = λ f. cond (frees_lock R A a b f) (next_for R A f) (A.holder f);
  underway = put_pair A.underway a b clear;
}
