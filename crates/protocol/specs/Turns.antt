-- What each call of a site does: one call is one turn, and a settle is the messages that it carries.
use Rattle.std.specs.Prelude.{◌≡◌, ℕ, ◌+◌, ◌*◌, ◌/◌, ◌%◌, ◌<◌, Bool, true, false, not, ◌&&◌, ◌⊎◌, List, [], ◌∷◌, ◌++◌, length, is_some, Some, None, Option, Ok, Err, ◌==◌, nat_lt}
use Rattle.events.specs.declared.marks.Marks.{Marks}
use Rattle.lines.specs.declared.note.Note.{Note}
use Rattle.rules.specs.Rule.{Meaning}
use Rattle.rules.specs.Semantics.{lowest}
use Rattle.protocol.specs.declared.answer.Answer.{Answer}
use Rattle.protocol.specs.declared.call.Call.{Call}
use Rattle.protocol.specs.declared.call.Call.TheVariants.{Start, Request, Carry, Settle, WorkList, Tally}
use Rattle.protocol.specs.declared.answer.Answers.{Answers}
use Rattle.protocol.specs.declared.call.Reply.TheVariants.{Started, Opened, Nothing, Carried, Answered, Settled}
use Rattle.protocol.specs.declared.refusal.Refusal.{Refusal}
use Rattle.protocol.specs.declared.refusal.Refusal.TheVariants.{UnknownStation, UnknownEvent, OtherOwner, RequestOpen, MessageWaits, WrongState, ShortTable}
use Rattle.protocol.specs.Machine.{listed, tallied, unless}
use Rattle.protocol.specs.Outcomes.{Delivery, Outcome, entries}
use Rattle.protocol.specs.Queues.{Queues, room_for}
use Rattle.protocol.specs.Sites.{Site, moved}
use Rattle.protocol.specs.Station.{Step, begins, fresh, is_resting, put_pair, step}

-- a site, closed or open
pub record Status : Type 0 where
  pub is_open : Bool
  pub site : Site

-- one message carried: between whom, the answer if one was given, and the site as it is left
pub record Transfer : Type 0 where
  pub from : ℕ
  pub to : ℕ
  pub answer : Option Answer
  pub site : Site

-- one call: its outcome, the messages carried in it, and the site as it is left
pub record Turn : Type 0 where
  pub call : Call
  pub outcome : Outcome
  pub transfers : List Transfer
  pub after : Status

abbrev pub opened : Site → Status
opened S = record { is_open = true; site = S }

-- ---- what waits

abbrev pub holds_any : List (Option Note) → Bool
holds_any [] = false
holds_any (n ∷ ns) = true

-- the lowest pair 8a+b that holds a message
unfoldable pub lowest_pair : Queues → Option ℕ
lowest_pair Q = lowest (λ k. holds_any (Q (k / 8) (k % 8))) 64

abbrev pub waiting : Site → Bool
waiting S = is_some (lowest_pair S.waits)

-- ---- refusals

-- the refusals of each call, in their order 13, 17, 8, 9, 10, 11, 12
abbrev pub refusal : Meaning → Status → Call → Option Refusal
refusal R h Start = unless (not h.is_open && not (waiting h.site)) WrongState None
refusal R h (Request s e) =
    unless h.is_open WrongState
    (unless (nat_lt s R.stations) UnknownStation
    (unless (nat_lt e R.events) UnknownEvent
    (unless (R.owner e == s) OtherOwner
    (unless (is_resting (h.site.station s).request) RequestOpen None))))
refusal R h (Carry a b) = unless h.is_open WrongState (unless (nat_lt a R.stations && nat_lt b R.stations) UnknownStation None)
refusal R h (Settle n) = unless h.is_open WrongState (unless (nat_lt 7 n) ShortTable None)
refusal R h WorkList = unless h.is_open WrongState (unless (not (waiting h.site)) MessageWaits None)
refusal R h (Tally s) = unless h.is_open WrongState (unless (nat_lt s R.stations) UnknownStation None)

-- ---- one message carried

abbrev pub is_stray : Delivery → Bool
is_stray (Ok answer) = false
is_stray (Err stray) = true

-- the step is no stray one, and its posts find room
abbrev pub goes : ℕ → Queues → ℕ → Step → Bool
goes limit Q b t = not (is_stray t.delivery) && room_for limit Q b t.posts

abbrev pub answer_of : Delivery → Option Answer
answer_of (Ok answer) = answer
answer_of (Err stray) = None

-- from S the oldest message of a pair is taken, and the receiving station does its step
pub record Carries (R : Meaning) (limit : ℕ) (S : Site) (x : Transfer) : Type 0 where
  pub oldest : Option Note
  pub others : List (Option Note)
  pub waits : S.waits x.from x.to ≡ oldest ∷ others
  pub fits : goes limit (put_pair S.waits x.from x.to others) x.to (step R x.to (S.station x.to) x.from oldest) ≡ true
  pub moves : x.site ≡ moved S (put_pair S.waits x.from x.to others) x.to (step R x.to (S.station x.to) x.from oldest)
  pub answers : x.answer ≡ answer_of (step R x.to (S.station x.to) x.from oldest).delivery

-- one after another, each from the lowest pair that holds a message
abbrev pub Chain : Meaning → ℕ → Site → List Transfer → Site → Type 0
Chain R limit S [] T = T ≡ S
Chain R limit S (x ∷ xs) T =
    (lowest_pair S.waits ≡ Some (8 * x.from + x.to)) × (x.to < 8) × Carries R limit S x × Chain R limit x.site xs T

abbrev pub one_answer : Option Answer → List Answer
one_answer None = []
one_answer (Some a) = a ∷ []

abbrev pub answers_in : List Transfer → List Answer
answers_in [] = []
answers_in (x ∷ xs) = one_answer x.answer ++ answers_in xs

abbrev pub carry_outcome : Option Answer → Outcome
carry_outcome None = Ok Carried
carry_outcome (Some a) = Ok (Answered a)

-- ---- one call

-- each event's marks, as its owner has them
abbrev pub gathered : Meaning → Site → ℕ → Marks
gathered R S e = (S.station (R.owner e)).marks e

-- the station s begins a request of e by asking for the lowest event of the lock set
abbrev pub asking : Meaning → Site → ℕ → ℕ → Step
asking R S s e = begins R (S.station s) e (lowest (R.locks e) R.events)

-- what a call that is not refused does
abbrev pub Does : Meaning → ℕ → Status → Turn → Call → Type 0
Does R limit h t Start =
    (t.outcome ≡ Ok Started) × (t.transfers ≡ []) × (t.after ≡ opened (record { station = fresh R; waits = h.site.waits }))
Does R limit h t (Request s e) =
    (t.outcome ≡ Ok Opened) × (t.transfers ≡ []) × (t.after ≡ opened (moved h.site h.site.waits s (asking R h.site s e)))
Does R limit h t (Carry a b) =
    ((h.site.waits a b ≡ []) × (t.outcome ≡ Ok Nothing) × (t.transfers ≡ []) × (t.after ≡ h))
    ⊎ ((o : Option Answer) × (S : Site) × Carries R limit h.site (record { from = a; to = b; answer = o; site = S })
    × (t.outcome ≡ carry_outcome o) × (t.transfers ≡ record { from = a; to = b; answer = o; site = S } ∷ []) × (t.after ≡ opened S))
Does R limit h t (Settle n) =
    (S : Site) × Chain R limit h.site t.transfers S × (waiting S ≡ false) × (t.after ≡ opened S)
    × (answers : Answers) × (t.outcome ≡ Ok (Settled answers (length t.transfers))) × (entries answers ≡ answers_in t.transfers)
Does R limit h t WorkList = (t.outcome ≡ listed R (gathered R h.site)) × (t.transfers ≡ []) × (t.after ≡ h)
Does R limit h t (Tally s) = (t.outcome ≡ tallied R (h.site.station s).marks s) × (t.transfers ≡ []) × (t.after ≡ h)

-- a refused call changes nothing
abbrev pub Obeys : Meaning → ℕ → Status → Turn → Option Refusal → Type 0
Obeys R limit h t (Some refusal) = (t.outcome ≡ Err refusal) × (t.transfers ≡ []) × (t.after ≡ h)
Obeys R limit h t None = Does R limit h t t.call

-- the turn is what its call does at h
abbrev pub Serves : Meaning → ℕ → Status → Turn → Type 0
Serves R limit h t = Obeys R limit h t (refusal R h t.call)

-- turns, one after another
abbrev pub Follow : Meaning → ℕ → Status → List Turn → Status → Type 0
Follow R limit h [] g = g ≡ h
Follow R limit h (t ∷ ts) g = Serves R limit h t × Follow R limit t.after ts g
