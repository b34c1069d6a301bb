-- What is printed of the calls of a site and of their outcomes.
use Rattle.std.specs.Prelude.{ℕ, List, [], ◌∷◌, ◌++◌, Result, Ok, Err, codes, decimal, filter}
use Rattle.std.specs.List.{range_with_len, flat_map}
use Rattle.events.specs.Members.{member}
use Rattle.events.specs.Sets.{EventSet}
use Rattle.rules.specs.Answers.{answer}
use Rattle.protocol.specs.Refusals.{refusal_number}
use Rattle.protocol.specs.declared.answer.Answer.{Answer}
use Rattle.protocol.specs.declared.call.Call.{Call}
use Rattle.protocol.specs.declared.call.Call.TheVariants.{Start, Request, Carry, Settle, WorkList, Tally}
use Rattle.protocol.specs.declared.call.Reply.{Reply}
use Rattle.protocol.specs.declared.call.Reply.TheVariants.{Started, Opened, Nothing, Carried, Answered, Settled, Listed, Tallied}
use Rattle.protocol.specs.declared.refusal.Refusal.{Refusal}
use Rattle.protocol.specs.Outcomes.{entries}

-- E N W: the event, the number of what is answered, and the event that it names
abbrev pub answer_text : Answer → List ℕ
answer_text a = decimal a.event ++ (codes " " ++ (decimal (answer a.decision a.event).0 ++ (codes " " ++ decimal (answer a.decision a.event).1)))

-- '; E N W'
abbrev pub next_text : Answer → List ℕ
next_text a = codes "; " ++ answer_text a

-- ': E N W; E N W', and nothing for no answer
abbrev pub answers_text : List Answer → List ℕ
answers_text [] = []
answers_text (a ∷ rest) = codes ": " ++ (answer_text a ++ flat_map next_text rest)

-- the members of a set below n, lowest first
unfoldable pub members_below : EventSet → ℕ → List ℕ
members_below s n = filter (λ e. member s.bits e) (range_with_len 0 n)

-- ' E'
abbrev pub number_text : ℕ → List ℕ
number_text e = codes " " ++ decimal e

-- ' E E E', and ' none' for no event
abbrev pub list_text : List ℕ → List ℕ
list_text [] = codes " none"
list_text (e ∷ rest) = flat_map number_text (e ∷ rest)

-- the events of a set, of which it has room for 64
abbrev pub events_text : EventSet → List ℕ
events_text s = list_text (members_below s 64)

abbrev pub call_text : Call → List ℕ
call_text Start = codes "b"
call_text (Request station event) = codes "q " ++ (decimal station ++ (codes " " ++ decimal event))
call_text (Carry from to) = codes "t " ++ (decimal from ++ (codes " " ++ decimal to))
call_text (Settle room) = codes "z"
call_text WorkList = codes "w"
call_text (Tally station) = codes "y " ++ decimal station

-- what a call gives that is not refused
abbrev pub reply_text : Reply → List ℕ
reply_text Started = codes "started"
reply_text Opened = codes "open"
reply_text Nothing = codes "nothing waits"
reply_text Carried = codes "carried"
reply_text (Answered a) = codes "answer " ++ answer_text a
reply_text (Settled answers messages) =
    decimal answers.count ++ (codes " answers, " ++ (decimal messages ++ (codes " messages" ++ answers_text (entries answers))))
reply_text (Listed enabled owed) = codes "enabled" ++ (events_text enabled ++ (codes "; owed" ++ events_text owed))
reply_text (Tallied owed) = codes "owed" ++ events_text owed

abbrev pub outcome_text : Result Reply Refusal → List ℕ
outcome_text (Ok reply) = reply_text reply
outcome_text (Err refusal) = codes "refused " ++ decimal (refusal_number refusal)
