-- What each call gives, as an outcome.
use Rattle.std.specs.Prelude.{List, Ok, Err, Result}
use Rattle.events.specs.Sets.{EventSet}
use Rattle.protocol.specs.Outcomes.{Outcome}
use Rattle.protocol.specs.declared.answer.Answer.{Answer}
use Rattle.protocol.specs.declared.call.Reply.TheVariants.{Started, Opened, Settled, Listed, Tallied}
use Rattle.protocol.specs.declared.refusal.Refusal.{Refusal}
use Rattle.site.specs.Replies.{carry_reply}
use Rattle.site.specs.declared.site.CarryAnswer.{CarryAnswer}
use Rattle.site.specs.declared.site.Settlement.{Settlement}
use Rattle.site.specs.declared.site.WorkList.{WorkList}

abbrev pub starting : {X : Type 0} → Result X Refusal → Outcome
starting (Ok x) = Ok Started
starting (Err refusal) = Err refusal

abbrev pub opening : {X : Type 0} → Result X Refusal → Outcome
opening (Ok x) = Ok Opened
opening (Err refusal) = Err refusal

abbrev pub carrying : Result CarryAnswer Refusal → Outcome
carrying (Ok answer) = Ok (carry_reply answer)
carrying (Err refusal) = Err refusal

-- a settle, with its table
abbrev pub settling : Result Settlement Refusal → List Answer → Outcome
settling (Ok s) table = Ok (Settled (record { table = table; count = s.answers }) s.messages)
settling (Err refusal) table = Err refusal

abbrev pub listing : Result WorkList Refusal → Outcome
listing (Ok w) = Ok (Listed w.enabled w.owed)
listing (Err refusal) = Err refusal

abbrev pub tallying : Result EventSet Refusal → Outcome
tallying (Ok owed) = Ok (Tallied owed)
tallying (Err refusal) = Err refusal
