-- A site beside one table, over a list of acts; and what is claimed of every such run.
use Rattle.std.proofs.Common.{◌≡◌, ℕ, zero, suc, ◌+◌, ◌/◌, ◌%◌, ◌<◌, ◌≤◌, Bool, true, false, cond, not, ◌&&◌, ◌||◌, eqb, ltb, List, [], ◌∷◌, length, is_some, Some, None, Option, Ok, Err}
use Rattle.lines.specs.declared.note.Note.{Note}
use Rattle.rules.specs.Rule.{Meaning, Lawful}
use Rattle.rules.specs.Semantics.{lowest}
use Rattle.protocol.specs.declared.answer.Answer.{Answer}
use Rattle.protocol.specs.Outcomes.{Delivery, astray}
use Rattle.protocol.specs.Station.{Request, resting, asking, Step, put_pair, is, is_resting, begins, step}
use Rattle.protocol.specs.Queues.{Queues, room_for}
use Rattle.protocol.specs.Sites.{Site, moved, fresh_site}
use Rattle.protocol.specs.Costs.{total, count, cost}
use Rattle.protocol.specs.Machine.{Machine, new_machine, requests, decides, answers}
use Rattle.protocol.specs.Turns.{lowest_pair, is_stray}

pub record Both : Type 0 where
  pub site : Site
  pub table : Machine
  -- the answers of the site, latest first
  pub said : List Answer
  -- those of the table
  pub judged : List Answer
  pub strays : Bool
  pub carries : ℕ
  -- the cost of what was answered
  pub costs : ℕ

-- ---- the site

-- there is no delivery where no message waited
pub record Out : Type 0 where
  pub site : Site
  pub delivery : Option Delivery

-- the posts of a step must all find room
abbrev pub moves : ℕ → Site → Queues → ℕ → Step → Out
moves limit S Q b t =
    cond (room_for limit Q b t.posts) (record { site = moved S Q b t; delivery = Some t.delivery })
    (record { site = record { station = S.station; waits = Q }; delivery = Some astray })

abbrev pub carry : Meaning → ℕ → Site → ℕ → ℕ → List (Option Note) → Out
carry R limit S a b [] = record { site = S; delivery = None }
carry R limit S a b (m ∷ q) = moves limit S (put_pair S.waits a b q) b (step R b (S.station b) a m)

abbrev pub request : Meaning → ℕ → Site → ℕ → ℕ → Out
request R limit S s e = cond (ltb e R.events && eqb (R.owner e) s && is_resting (S.station s).request)
    (moves limit S S.waits s (begins R (S.station s) e (lowest (R.locks e) R.events)))
    (record { site = S; delivery = None })

-- ---- the table

-- the table takes a request where the event is there, the station owns it and has none open
abbrev pub table_opens : Meaning → Machine → ℕ → ℕ → Machine
table_opens R t s e = cond (ltb e R.events && eqb (R.owner e) s && not (is_some (t.asked s))) (requests t s e None) t

-- an answered event must be the one that its owner's open request is for
abbrev pub expects : Meaning → Machine → ℕ → Bool
expects R t e = is (t.asked (R.owner e)) e

abbrev pub table_answers : Meaning → Machine → ℕ → Machine
table_answers R t e = cond (expects R t e) (answers R t e) t

abbrev pub judges : Meaning → Machine → ℕ → List Answer → List Answer
judges R t e js = cond (expects R t e) (decides R t e ∷ js) js

-- ---- both

abbrev pub after : Meaning → Both → Site → Option Delivery → Both
after R B S None = record { site = S; table = B.table; said = B.said; judged = B.judged; strays = B.strays; carries = B.carries; costs = B.costs }
after R B S (Some (Ok None)) = record { site = S; table = B.table; said = B.said; judged = B.judged; strays = B.strays; carries = suc B.carries; costs = B.costs }
after R B S (Some (Ok (Some a))) = record {
  site = S;
  table = table_answers R B.table a.event;
  said = a ∷ B.said;
  judged = judges R B.table a.event B.judged;
  strays = B.strays;
  carries = suc B.carries;
  costs = B.costs + cost R a.event;
}
after R B S (Some (Err stray)) = record { site = S; table = B.table; said = B.said; judged = B.judged; strays = true; carries = suc B.carries; costs = B.costs }

-- a message was stray
abbrev pub lost : Option Delivery → Bool
lost None = false
lost (Some delivery) = is_stray delivery

pub data Act : Type 0 where
  opening : ℕ → ℕ → Act
  carrying : ℕ → ℕ → Act
  emptying : Act

abbrev pub carry_one : Meaning → ℕ → Both → ℕ → ℕ → Both
carry_one R limit B a b =
    after R B (carry R limit B.site a b (B.site.waits a b)).site (carry R limit B.site a b (B.site.waits a b)).delivery

-- what the requests so far cost: those answered, and those open
abbrev pub open_cost : Meaning → Option ℕ → ℕ
open_cost R None = 0
open_cost R (Some e) = cost R e

abbrev pub due : Meaning → Both → ℕ
due R B = B.costs + total (λ s. open_cost R (B.table.asked s)) R.stations

-- carrying from the lowest pair that holds a message, until none waits
abbrev pub carry_lowest : Meaning → ℕ → Both → Option ℕ → Both
carry_lowest R limit B None = B
carry_lowest R limit B (Some k) = carry_one R limit B (k / 8) (k % 8)

abbrev pub settles : Meaning → ℕ → ℕ → Both → Both
settles R limit zero B = B
settles R limit (suc n) B = settles R limit n (carry_lowest R limit B (lowest_pair B.site.waits))

abbrev pub act : Meaning → ℕ → Both → Act → Both
act R limit B (opening s e) = record {
  site = (request R limit B.site s e).site;
  table = table_opens R B.table s e;
  said = B.said;
  judged = B.judged;
  strays = B.strays || lost (request R limit B.site s e).delivery;
  carries = B.carries;
  costs = B.costs;
}
act R limit B (carrying a b) = carry_one R limit B a b
act R limit B emptying = settles R limit (due R B) B

abbrev pub run : Meaning → ℕ → Both → List Act → Both
run R limit B [] = B
run R limit B (a ∷ rs) = run R limit (act R limit B a) rs

abbrev pub fresh_both : Meaning → Both
fresh_both R = record { site = fresh_site R; table = new_machine R; said = []; judged = []; strays = false; carries = 0; costs = 0 }

abbrev pub opens : Request → Option ℕ
opens resting = None
opens (asking e had seen) = Some e

abbrev pub Quiet : Meaning → Both → Type 0
Quiet R B = (a b : ℕ) → a < R.stations → b < R.stations → B.site.waits a b ≡ []

-- the requests that are open
abbrev pub open_count : Meaning → Both → ℕ
open_count R B = count (λ s. is_some (B.table.asked s)) R.stations

-- a carry brings the messages carried one nearer to what is due
abbrev pub Spent : Meaning → Both → Both → Type 0
Spent R B C = (C.carries ≡ suc B.carries) × (due R C ≡ due R B) × (length C.said + open_count R C ≡ length B.said + open_count R B)

pub record Agrees (R : Meaning) (limit : ℕ) (B : Both) : Type 0 where
  pub answers : B.said ≡ B.judged
  pub no_stray : B.strays ≡ false
  pub same : (s : ℕ) → opens (B.site.station s).request ≡ B.table.asked s
  pub room : (a b : ℕ) → length (B.site.waits a b) ≤ 3
  pub within : B.carries ≤ due R B
  pub ends : B.carries ≡ due R B → Quiet R B
  pub spends : (a b : ℕ) → (B.site.waits a b ≡ [] → ⊥) → Spent R B (carry_one R limit B a b)

pub record Rests (R : Meaning) (B : Both) : Type 0 where
  pub no_request : (s : ℕ) → (B.site.station s).request ≡ resting
  pub free : (f : ℕ) → (B.site.station (R.owner f)).holder f ≡ None
  pub marks : (f : ℕ) → f < R.events → (B.site.station (R.owner f)).marks f ≡ B.table.marking f
  pub counted : B.carries ≡ B.costs
  pub all : B.carries ≡ due R B

-- a settle ends with nothing waiting, takes what is left of what is due, and answers each open request
pub record Settled (R : Meaning) (B C : Both) : Type 0 where
  pub quiet : Quiet R C
  pub taken : C.carries ≡ due R B
  pub told : length C.said ≡ length B.said + open_count R B
  pub few : open_count R B ≤ R.stations

abbrev pub OneTable : Type 0
OneTable = (R : Meaning) → Lawful R → R.stations ≤ 8 → (limit : ℕ) → 3 ≤ limit → (acts : List Act) →
    Agrees R limit (run R limit (fresh_both R) acts) × (Quiet R (run R limit (fresh_both R) acts) → Rests R (run R limit (fresh_both R) acts)) ×
    ((n : ℕ) → due R (run R limit (fresh_both R) acts) ≤ n + (run R limit (fresh_both R) acts).carries → Settled R (run R limit (fresh_both R) acts) (settles R limit n (run R limit (fresh_both R) acts)))
