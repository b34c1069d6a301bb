-- What a call of a table tells, and the marking that it leaves.
use Rattle.std.specs.Prelude.{◌≡◌, ℕ, cond, Ok, Err, Decides, nat_lt}
use Rattle.events.specs.Members.{member}
use Rattle.events.specs.Sets.{EventSet}
use Rattle.events.specs.declared.marks.Marks.{Marks}
use Rattle.protocol.specs.Outcomes.{Outcome}
use Rattle.protocol.specs.declared.call.Reply.TheVariants.{Answered, Listed}
use Rattle.protocol.specs.declared.refusal.Refusal.TheVariants.{UnknownEvent}
use Rattle.rules.specs.Rule.{Meaning}
use Rattle.rules.specs.Words.{Owed}
use Rattle.runs.specs.declared.table.TableCall.{TableCall}
use Rattle.runs.specs.declared.table.TableCall.TheVariants.{Request, WorkList}
use Rattle.tables.specs.Runs.{accepts, next}

-- an event that the rule has is answered on the marking, and another is refused 9
abbrev pub told : Meaning → (ℕ → Marks) → ℕ → Outcome
told R M e = cond (nat_lt e R.events) (Ok (Answered (record { event = e; decision = R.decides e M }))) (Err UnknownEvent)

-- these are the enabled events and the owed ones
abbrev pub Lists : Meaning → (ℕ → Marks) → EventSet → EventSet → Type 0
Lists R M enabled owed = ((k : ℕ) → member enabled.bits k ≡ accepts R M k) × ((k : ℕ) → Decides (member owed.bits k) (Owed M k))

abbrev pub Tells : Meaning → (ℕ → Marks) → TableCall → Outcome → Type 0
Tells R M (Request e) o = o ≡ told R M e
Tells R M WorkList o = (enabled : EventSet) × (owed : EventSet) × (o ≡ Ok (Listed enabled owed)) × Lists R M enabled owed

abbrev pub leaves : Meaning → (ℕ → Marks) → TableCall → ℕ → Marks
leaves R M (Request e) = next R M e
leaves R M WorkList = M
