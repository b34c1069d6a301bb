-- What a call of a site came to, and what came of a message.
use Rattle.std.specs.Prelude.{List, length, take, Option, Err, Result}
use Rattle.protocol.specs.declared.answer.Answer.{Answer}
use Rattle.protocol.specs.declared.answer.Answers.{Answers}
use Rattle.protocol.specs.declared.call.Reply.{Reply}
use Rattle.protocol.specs.declared.delivery.StrayMessage.{StrayMessage}
use Rattle.protocol.specs.declared.refusal.Refusal.{Refusal}

abbrev pub Outcome : Type 0
Outcome = Result Reply Refusal

abbrev pub Delivery : Type 0
Delivery = Result (Option Answer) StrayMessage

-- the message is stray
abbrev pub astray : Delivery
astray = Err (record {})

-- the answers that were given
abbrev pub entries : Answers → List Answer
entries a = take a.count a.table

-- these answers and no other entries
abbrev pub all_of : List Answer → Answers
all_of answers = record { table = answers; count = length answers }
