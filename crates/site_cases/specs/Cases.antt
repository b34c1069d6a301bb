-- The worked cases of sites. A case joins the table as one row more.
use Rattle.std.specs.Prelude.{ℕ, List, [], ◌∷◌, Ok, Err}
use Rattle.std.specs.List.{AllByRecursion}
use Rattle.graph.specs.declared.kind.Kind.TheVariants.{Condition, Response}
use Rattle.graph.specs.Content.{Content}
use Rattle.protocol.specs.declared.answer.Answer.{Answer}
use Rattle.protocol.specs.declared.call.Call.TheVariants.{Start, Request, Carry, Settle, WorkList}
use Rattle.protocol.specs.declared.call.Reply.TheVariants.{Started, Opened, Carried, Settled, Listed}
use Rattle.protocol.specs.Outcomes.{Outcome, all_of}
use Rattle.protocol.specs.declared.refusal.Refusal.TheVariants.{UnknownStation, UnknownEvent, OtherOwner, RequestOpen}
use Rattle.rules.specs.declared.decision.Decision.TheVariants.{Accepted, Unmet}
use Rattle.cases.specs.Rows.{relation}
use Rattle.site_cases.specs.Rows.{Holds, Row, site, site_graph}

-- event 1 needs event 0 and event 2 needs event 1, and after event 0 event 1 is owed; station 0 owns 0 and 2, station 1 owns 1
abbrev pub chained : Content
chained = site_graph 2 (0 ∷ 1 ∷ 0 ∷ []) (relation Condition 0 1 ∷ relation Condition 1 2 ∷ relation Response 0 1 ∷ [])

abbrev pub done : ℕ → Answer
done e = record { event = e; decision = Accepted }

abbrev pub unmet_by : ℕ → ℕ → Answer
unmet_by k e = record { event = e; decision = Unmet k }

abbrev pub settled : List Answer → ℕ → Outcome
settled answers messages = Ok (Settled (all_of answers) messages)

abbrev pub rows : List Row
rows =
    -- a site: event 1 is refused 22 naming 0, for 6 messages; then 0 is done for 6; enabled are 0 and 1, owed is 1
    site chained (Start ∷ Request 1 1 ∷ Settle 8 ∷ Request 0 0 ∷ Settle 8 ∷ WorkList ∷ [])
    (Ok Started ∷ Ok Opened ∷ settled (unmet_by 0 1 ∷ []) 6 ∷ Ok Opened ∷ settled (done 0 ∷ []) 6 ∷ Ok (Listed (record { bits = 3 }) (record { bits = 2 })) ∷ [])
    -- two requests, of which the later is carried first: it is refused, and the earlier one is done
    ∷ site chained (Start ∷ Request 0 0 ∷ Request 1 1 ∷ Carry 1 0 ∷ Settle 8 ∷ []) (Ok Started ∷ Ok Opened ∷ Ok Opened ∷ Ok Carried ∷ settled (unmet_by 0 1 ∷ done 0 ∷ []) 11 ∷ [])
    -- the same with the earlier one carried first: both are done
    ∷ site chained (Start ∷ Request 0 0 ∷ Request 1 1 ∷ Carry 0 0 ∷ Settle 8 ∷ []) (Ok Started ∷ Ok Opened ∷ Ok Opened ∷ Ok Carried ∷ settled (done 0 ∷ done 1 ∷ []) 11 ∷ [])
    -- requests that are refused 8, 9 and 10, and 11 after one is open
    ∷ site chained (Start ∷ Request 5 0 ∷ Request 0 9 ∷ Request 0 1 ∷ Request 0 0 ∷ Request 0 2 ∷ [])
    (Ok Started ∷ Err UnknownStation ∷ Err UnknownEvent ∷ Err OtherOwner ∷ Ok Opened ∷ Err RequestOpen ∷ [])
    ∷ []

abbrev pub SiteCases : Type 0
SiteCases = AllByRecursion Holds rows
