-- What is printed of the calls of a line and of their answers.
use Rattle.std.specs.Prelude.{ℕ, List, ◌++◌, Some, None, Ok, Err, codes, decimal}
use Rattle.lines.specs.Refusals.{post_number}
use Rattle.lines.specs.declared.message.Message.{Message}
use Rattle.lines.specs.declared.play.LineAnswer.{LineAnswer}
use Rattle.lines.specs.declared.play.LineAnswer.TheVariants.{Counted, Posted, Taken}
use Rattle.lines.specs.declared.play.LineCall.{LineCall}
use Rattle.lines.specs.declared.play.LineCall.TheVariants.{Count, Post, Take}

-- K E X: the kind, the event and the extra
abbrev pub message_text : Message → List ℕ
message_text m = decimal m.kind ++ (codes " " ++ (decimal m.event ++ (codes " " ++ decimal m.extra)))

abbrev pub call_text : LineCall → List ℕ
call_text (Post from to m) = codes "post " ++ (decimal from ++ (codes " " ++ (decimal to ++ (codes ": " ++ message_text m))))
call_text (Take from to) = codes "take " ++ (decimal from ++ (codes " " ++ decimal to))
call_text (Count from to) = codes "count " ++ (decimal from ++ (codes " " ++ decimal to))

abbrev pub answer_text : LineAnswer → List ℕ
answer_text (Posted (Ok done)) = codes "posted"
answer_text (Posted (Err full)) = codes "refused " ++ decimal (post_number full)
answer_text (Taken (Some m)) = message_text m
answer_text (Taken None) = codes "nothing"
answer_text (Counted n) = decimal n
