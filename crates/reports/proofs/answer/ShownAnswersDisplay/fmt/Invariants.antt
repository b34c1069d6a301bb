use Rattle.std.proofs.Common.{◌∷◌, get_or, take}
use Rattle.std.specs.Fmt.{HasWritten, IsPlainFormatter}
use Rattle.protocol.specs.declared.answer.Answer.{Answer}
use Rattle.protocol.specs.Outcomes.{entries}
use Rattle.reports.specs.Texts.{answers_text}
use Rattle.reports.proofs.answer.ShownAnswersDisplay.fmt.Given as goal

abbrev pub invariant-loop-answer : goal.invariant-loop-answer
invariant-loop-answer g l =
    (d : Answer) → IsPlainFormatter l.fn.f → HasWritten g.W.Write.write_str_gives l.fn.f (answers_text (get_or (entries l.self.0) 0 d ∷ take l.answer-index l.rest)) l.f
