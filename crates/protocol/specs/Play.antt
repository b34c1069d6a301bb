-- A site played: the outcomes of a list of calls, as a function of them.
use Rattle.std.specs.Prelude.{ℕ, zero, suc, ◌/◌, ◌%◌, false, cond, List, [], ◌∷◌, length, Some, None, Option, Ok, Err}
use Rattle.lines.specs.declared.note.Note.{Note}
use Rattle.rules.specs.Rule.{Meaning}
use Rattle.protocol.specs.declared.call.Call.{Call}
use Rattle.protocol.specs.declared.call.Call.TheVariants.{Start, Request, Carry, Settle, WorkList, Tally}
use Rattle.protocol.specs.declared.call.Reply.TheVariants.{Started, Opened, Nothing, Settled}
use Rattle.protocol.specs.declared.refusal.Refusal.{Refusal}
use Rattle.protocol.specs.Machine.{listed, tallied}
use Rattle.protocol.specs.Outcomes.{Outcome, all_of, entries}
use Rattle.protocol.specs.Queues.{Queues}
use Rattle.protocol.specs.Sites.{Site, fresh_site, moved}
use Rattle.protocol.specs.Station.{Step, fresh, put_pair, step}
use Rattle.protocol.specs.Turns.{Status, Transfer, Turn, answer_of, answers_in, asking, carry_outcome, gathered, goes, lowest_pair, opened, refusal}

abbrev pub transfer_of : ℕ → Site → Queues → ℕ → ℕ → Step → Option Transfer
transfer_of limit S Q a b t = cond (goes limit Q b t) (Some (record { from = a; to = b; answer = answer_of t.delivery; site = moved S Q b t })) None

abbrev pub transfer : Meaning → ℕ → Site → ℕ → ℕ → List (Option Note) → Option Transfer
transfer R limit S a b [] = None
transfer R limit S a b (n ∷ ns) = transfer_of limit S (put_pair S.waits a b ns) a b (step R b (S.station b) a n)

abbrev pub transfer_at : Meaning → ℕ → Site → Option ℕ → Option Transfer
transfer_at R limit S None = None
transfer_at R limit S (Some k) = transfer R limit S (k / 8) (k % 8) (S.waits (k / 8) (k % 8))

-- at most n messages more, each from the lowest pair that holds one
abbrev pub chain_of : Meaning → ℕ → ℕ → Option Transfer → List Transfer
chain_of R limit zero o = []
chain_of R limit (suc n) None = []
chain_of R limit (suc n) (Some x) = x ∷ chain_of R limit n (transfer_at R limit x.site (lowest_pair x.site.waits))

abbrev pub end_of : Site → List Transfer → Site
end_of S [] = S
end_of S (x ∷ xs) = end_of x.site xs

abbrev pub turn_of : Call → Outcome → List Transfer → Status → Turn
turn_of c o xs g = record { call = c; outcome = o; transfers = xs; after = g }

abbrev pub carry_turn : Call → Status → Option Transfer → Turn
carry_turn c h None = turn_of c (Ok Nothing) [] h
carry_turn c h (Some x) = turn_of c (carry_outcome x.answer) (x ∷ []) (opened x.site)

abbrev pub settle_turn : Call → Status → List Transfer → Turn
settle_turn c h xs = turn_of c (Ok (Settled (all_of (answers_in xs)) (length xs))) xs (opened (end_of h.site xs))

abbrev pub doing : Meaning → ℕ → Status → Call → Turn
doing R limit h Start = turn_of Start (Ok Started) [] (opened (record { station = fresh R; waits = h.site.waits }))
doing R limit h (Request s e) = turn_of (Request s e) (Ok Opened) [] (opened (moved h.site h.site.waits s (asking R h.site s e)))
doing R limit h (Carry a b) = carry_turn (Carry a b) h (transfer R limit h.site a b (h.site.waits a b))
doing R limit h (Settle n) = settle_turn (Settle n) h (chain_of R limit 1152 (transfer_at R limit h.site (lowest_pair h.site.waits)))
doing R limit h WorkList = turn_of WorkList (listed R (gathered R h.site)) [] h
doing R limit h (Tally s) = turn_of (Tally s) (tallied R (h.site.station s).marks s) [] h

abbrev pub play : Meaning → ℕ → Status → Call → Option Refusal → Turn
play R limit h c (Some refused) = turn_of c (Err refused) [] h
play R limit h c None = doing R limit h c

abbrev pub plays : Meaning → ℕ → Status → List Call → List Outcome
plays R limit h [] = []
plays R limit h (c ∷ cs) = (play R limit h c (refusal R h c)).outcome ∷ plays R limit (play R limit h c (refusal R h c)).after cs

-- a site as it is put together over an empty line
abbrev pub new_site : Meaning → Status
new_site R = record { is_open = false; site = fresh_site R }

-- an outcome without the entries of the table that hold no answer
abbrev pub plain : Outcome → Outcome
plain (Ok (Settled answers messages)) = Ok (Settled (all_of (entries answers)) messages)
plain outcome = outcome
