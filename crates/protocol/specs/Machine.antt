-- One table for the whole case, as a reader of the answers can follow it: the whole marking and each station's open request.
-- It is fed the calls and, for each carry and settle, the events answered in it.
use Rattle.std.specs.Prelude.{◌≡◌, ℕ, Bool, cond, not, ◌&&◌, List, [], ◌∷◌, is_some, Some, None, Option, Ok, Err, ◌==◌, nat_lt}
use Rattle.events.specs.declared.marks.Marks.{Marks}
use Rattle.rules.specs.Answers.{accepted}
use Rattle.rules.specs.Rule.{Meaning}
use Rattle.protocol.specs.declared.answer.Answer.{Answer}
use Rattle.protocol.specs.declared.call.Call.{Call}
use Rattle.protocol.specs.declared.call.Call.TheVariants.{Start, Request, Carry, Settle, WorkList, Tally}
use Rattle.protocol.specs.declared.call.Reply.TheVariants.{Started, Opened, Answered, Settled, Listed, Tallied}
use Rattle.protocol.specs.declared.refusal.Refusal.{Refusal}
use Rattle.protocol.specs.declared.refusal.Refusal.TheVariants.{UnknownStation, UnknownEvent, OtherOwner, RequestOpen, WrongState}
use Rattle.protocol.specs.EventSets.{is_enabled, is_owed, set_of}
use Rattle.protocol.specs.Outcomes.{Outcome, entries}
use Rattle.protocol.specs.Station.{owns, put}

pub record Machine : Type 0 where
  pub marking : ℕ → Marks
  -- the event that each station's open request is for
  pub asked : ℕ → Option ℕ

-- fresh, it has the start marks and no open request
abbrev pub new_machine : Meaning → Machine
new_machine R = record { marking = R.start; asked = λ _. None }

-- ---- requests

-- a refusal, unless the test passes, and then the later one
abbrev pub unless : Bool → Refusal → Option Refusal → Option Refusal
unless ok refusal later = cond ok later (Some refusal)

-- a request is refused 8, 9, 10 or 11, in that order, or opened
abbrev pub refuses_request : Meaning → Machine → ℕ → ℕ → Option Refusal
refuses_request R m s e =
    unless (nat_lt s R.stations) UnknownStation
    (unless (nat_lt e R.events) UnknownEvent
    (unless (R.owner e == s) OtherOwner
    (unless (not (is_some (m.asked s))) RequestOpen None)))

abbrev pub requests : Machine → ℕ → ℕ → Option Refusal → Machine
requests m s e (Some refusal) = m
requests m s e None = record { marking = m.marking; asked = put m.asked s (Some e) }

abbrev pub requested : Option Refusal → Outcome
requested (Some refusal) = Err refusal
requested None = Ok Opened

-- ---- answers

-- an answered event is decided on the whole marking,
abbrev pub decides : Meaning → Machine → ℕ → Answer
decides R m e = record { event = e; decision = R.decides e m.marking }

-- done if accepted, and its owner's request is no longer open
abbrev pub answers : Meaning → Machine → ℕ → Machine
answers R m e =
    record {
      marking = λ f. cond (accepted (R.decides e m.marking)) (R.does e m.marking f) (m.marking f);
      asked = put m.asked (R.owner e) None;
    }

-- the machine gives these answers, one after another: each event is the one that its owner's open request is for
abbrev pub Gives : Meaning → Machine → List Answer → Type 0
Gives R m [] = Unit {0}
Gives R m (a ∷ more) =
    (m.asked (R.owner a.event) ≡ Some a.event) × (a ≡ decides R m a.event) × Gives R (answers R m a.event) more

abbrev pub gave : Meaning → Machine → List Answer → Machine
gave R m [] = m
gave R m (a ∷ more) = gave R (answers R m a.event) more

-- the answers in the outcome of a call
abbrev pub answers_of : Outcome → List Answer
answers_of (Ok (Answered a)) = a ∷ []
answers_of (Ok (Settled answers messages)) = entries answers
answers_of _ = []

-- ---- a list of calls beside the machine; there is none before the start

-- what the machine says of the outcome of a call
abbrev pub Says : Meaning → Option Machine → Call → Outcome → Type 0
Says R None Start o = Unit {0}
Says R None (Request s e) o = o ≡ Err WrongState
Says R None (Carry a b) o = o ≡ Err WrongState
Says R None (Settle n) o = o ≡ Err WrongState
Says R None WorkList o = o ≡ Err WrongState
Says R None (Tally s) o = o ≡ Err WrongState
Says R (Some m) Start o = o ≡ Err WrongState
Says R (Some m) (Request s e) o = o ≡ requested (refuses_request R m s e)
Says R (Some m) (Carry a b) o = Gives R m (answers_of o)
Says R (Some m) (Settle n) o = Gives R m (answers_of o)
Says R (Some m) WorkList o = answers_of o ≡ []
Says R (Some m) (Tally s) o = answers_of o ≡ []

abbrev pub starts : Meaning → Outcome → Option Machine
starts R (Ok Started) = Some (new_machine R)
starts R _ = None

-- how the machine goes on: no refusal, work list or tally changes it
abbrev pub hears : Meaning → Machine → Call → Outcome → Machine
hears R m Start o = m
hears R m (Request s e) o = requests m s e (refuses_request R m s e)
hears R m (Carry a b) o = gave R m (answers_of o)
hears R m (Settle n) o = gave R m (answers_of o)
hears R m WorkList o = m
hears R m (Tally s) o = m

abbrev pub heard : Meaning → Option Machine → Call → Outcome → Option Machine
heard R None Start o = starts R o
heard R None (Request s e) o = None
heard R None (Carry a b) o = None
heard R None (Settle n) o = None
heard R None WorkList o = None
heard R None (Tally s) o = None
heard R (Some m) c o = Some (hears R m c o)

-- the machine, fed the calls and the events answered in them, gives the same answers and the same refusals
abbrev pub Replays : Meaning → Option Machine → List Call → List Outcome → Type 0
Replays R m [] [] = Unit {0}
Replays R m [] (o ∷ os) = ⊥
Replays R m (c ∷ cs) [] = ⊥
Replays R m (c ∷ cs) (o ∷ os) = Says R m c o × Replays R (heard R m c o) cs os

-- ---- lists

-- the work list of a marking: its enabled and its owed events
abbrev pub listed : Meaning → (ℕ → Marks) → Outcome
listed R M = Ok (Listed (set_of (is_enabled R M) R.events) (set_of (is_owed M) R.events))

-- the tally of the station s: its own owed events
abbrev pub tallied : Meaning → (ℕ → Marks) → ℕ → Outcome
tallied R M s = Ok (Tallied (set_of (λ e. owns R s e && is_owed M e) R.events))
