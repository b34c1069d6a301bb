-- What is promised of every list of calls of a site, refused ones included: nobody who reads the answers can tell it
-- from one table.
use Rattle.std.specs.Prelude.{◌≡◌, ℕ, suc, ◌+◌, ◌<◌, ◌≤◌, false, cond, List, [], ◌∷◌, ◌++◌, map, length, Some, None, Option, Ok, Err, ◌≢◌}
use Rattle.std.specs.List.{AllByRecursion}
use Rattle.events.specs.Marks.{unmarked}
use Rattle.lines.specs.Lists.{inside}
use Rattle.rules.specs.Rule.{Lawful, Meaning}
use Rattle.protocol.specs.declared.answer.Answer.{Answer}
use Rattle.protocol.specs.declared.call.Call.{Call}
use Rattle.protocol.specs.declared.call.Call.TheVariants.{Start, Request, Carry, Settle, WorkList, Tally}
use Rattle.protocol.specs.declared.answer.Answers.{Answers}
use Rattle.protocol.specs.declared.call.Reply.TheVariants.{Settled}
use Rattle.protocol.specs.declared.refusal.Refusal.TheVariants.{Stray}
use Rattle.protocol.specs.Costs.{costs}
use Rattle.protocol.specs.Machine.{Machine, Replays, answers_of, gave, heard, listed, tallied}
use Rattle.protocol.specs.Outcomes.{Outcome}
use Rattle.protocol.specs.Play.{plain, plays}
use Rattle.protocol.specs.Served.{Served}
use Rattle.protocol.specs.Sites.{Site}
use Rattle.protocol.specs.Station.{owns, resting}
use Rattle.protocol.specs.Turns.{Follow, Status, Transfer, Turn, one_answer}

-- no message waits
abbrev pub Still : Site → Type 0
Still S = (a b : ℕ) → S.waits a b ≡ []

-- ---- moments

-- a moment since the start: the site, the machine beside it, the answers and the number of messages carried so far
pub record Moment : Type 0 where
  pub site : Site
  pub machine : Machine
  pub answers : List Answer
  pub carried : ℕ

-- after one message more
abbrev pub later : Meaning → Moment → Transfer → Moment
later R m x =
    record {
      site = x.site;
      machine = gave R m.machine (one_answer x.answer);
      answers = m.answers ++ one_answer x.answer;
      carried = suc m.carried;
    }

abbrev pub after_each : Meaning → Moment → List Transfer → List Moment
after_each R m [] = []
after_each R m (x ∷ xs) = later R m x ∷ after_each R (later R m x) xs

abbrev pub during : Meaning → Option Moment → List Transfer → List Moment
during R None xs = []
during R (Some m) xs = after_each R m xs

-- after one call more; there is no moment before the start
abbrev pub moment_of : Site → List Answer → ℕ → Option Machine → Option Moment
moment_of S given n None = None
moment_of S given n (Some m) = Some (record { site = S; machine = m; answers = given; carried = n })

abbrev pub turned : Meaning → Option Moment → Turn → Option Moment
turned R None t = moment_of t.after.site [] 0 (heard R None t.call t.outcome)
turned R (Some m) t =
    moment_of t.after.site (m.answers ++ answers_of t.outcome) (m.carried + length t.transfers)
    (heard R (Some m.machine) t.call t.outcome)

abbrev pub if_any : Option Moment → List Moment
if_any None = []
if_any (Some m) = m ∷ []

-- all moments: after each carry, alone or within a settle, and after each call
abbrev pub moments : Meaning → Option Moment → List Turn → List Moment
moments R o [] = []
moments R o (t ∷ ts) = during R o t.transfers ++ (if_any (turned R o t) ++ moments R (turned R o t) ts)

-- ---- what holds where no message waits

pub record AtRest (R : Meaning) (m : Moment) : Type 0 where
  -- no request is open,
  pub no_request : (s : ℕ) → (m.site.station s).request ≡ resting
  pub none_asked : (s : ℕ) → m.machine.asked s ≡ None
  -- no lock is held,
  pub no_lock : (s e : ℕ) → (m.site.station s).holder e ≡ None
  -- and each station's marking is the whole marking cut to its own events
  pub cut : (s e : ℕ) → (m.site.station s).marks e ≡ cond (owns R s e) (m.machine.marking e) unmarked

-- work lists and tallies made there give what is enabled and owed in the whole marking
abbrev pub Lists : Meaning → Moment → Call → Outcome → Type 0
Lists R m Start o = Unit {0}
Lists R m (Request s e) o = Unit {0}
Lists R m (Carry a b) o = Unit {0}
Lists R m (Settle n) o = Unit {0}
Lists R m WorkList o = Still m.site → o ≡ listed R m.machine.marking
Lists R m (Tally s) o = Still m.site → s < R.stations → o ≡ tallied R m.machine.marking s

abbrev pub ListsAt : Meaning → Option Moment → Turn → Type 0
ListsAt R None t = Unit {0}
ListsAt R (Some m) t = Lists R m t.call t.outcome

abbrev pub ListsAll : Meaning → Option Moment → List Turn → Type 0
ListsAll R o [] = Unit {0}
ListsAll R o (t ∷ ts) = ListsAt R o t × ListsAll R (turned R o t) ts

-- ---- the promise

-- (a) the answers are those of one table
pub record SameAnswers (R : Meaning) (calls : List Call) (outcomes : List Outcome) (turns : List Turn) : Type 0 where
  -- the machine, fed the calls and the answered events, gives the same answers and refuses the same requests and starts
  pub replays : Replays R None calls outcomes
  -- 14 never comes back
  pub never_stray : AllByRecursion (λ o. o ≢ Err Stray) outcomes
  -- a settle gives at most eight answers, and leaves nothing waiting
  pub few : AllByRecursion (λ t. length (answers_of t.outcome) ≤ 8) turns
  pub ends : AllByRecursion (λ t. (answers : Answers) (n : ℕ) → t.outcome ≡ Ok (Settled answers n) → Still t.after.site) turns

-- (b) at every moment at which no message waits, within a settle too
pub record RestsAgree (R : Meaning) (turns : List Turn) : Type 0 where
  pub rests : AllByRecursion (λ m. Still m.site → AtRest R m) (moments R None turns)
  pub lists : ListsAll R None turns

-- (c) messages: at every moment at which none waits those carried are what the answers cost, and no pair ever holds more than three
pub record Counted (R : Meaning) (turns : List Turn) : Type 0 where
  pub cost : AllByRecursion (λ m. Still m.site → m.carried ≡ costs R m.answers) (moments R None turns)
  pub room : AllByRecursion (λ m. (a b : ℕ) → length (m.site.waits a b) ≤ 3) (moments R None turns)

-- a site as it is put together: closed, and its line has no messages but between the stations 0 to 7
pub record Closed (h : Status) : Type 0 where
  pub shut : h.is_open ≡ false
  pub within : (a b : ℕ) → inside a b ≡ false → h.site.waits a b ≡ []

-- the calls, made from `before` on, had these outcomes and left `now`
pub record Promise (R : Meaning) (limit : ℕ) (before : Status) (calls : List Call) (outcomes : List Outcome) (now : Status) : Type 0 where
  -- the turns that the calls took: each does what its call does, a settle by its carries
  pub turns : List Turn
  pub made : map (λ (t : Turn). t.call) turns ≡ calls
  pub given : map (λ (t : Turn). t.outcome) turns ≡ outcomes
  pub closed : Closed before
  pub follow : Follow R limit before turns now
  pub answers : SameAnswers R calls outcomes turns
  pub rests : RestsAgree R turns
  pub counts : Counted R turns

-- ---- laws

-- a rule as the promise asks for it
pub record Proper (R : Meaning) : Type 0 where
  pub lawful : Lawful R
  pub stations : R.stations ≤ 8
  pub events : R.events ≤ 64

-- the promise holds of a closed site and no calls, and lasts by one call more that is served
pub record Kept : Type 0 where
  pub begins : (R : Meaning) → Proper R → (limit : ℕ) → 3 ≤ limit → (h : Status) → Closed h → Promise R limit h [] [] h
  pub goes_on : (R : Meaning) → Proper R → (limit : ℕ) → 3 ≤ limit → (before h g : Status) (calls : List Call) (outcomes : List Outcome) (call : Call) (outcome : Outcome)
      → Promise R limit before calls outcomes h → Served R limit h call outcome g → Promise R limit before (calls ++ (call ∷ [])) (outcomes ++ (outcome ∷ [])) g

-- the promise leaves one list of outcomes, the one that is played
abbrev pub Determined : Type 0
Determined = (R : Meaning) → Proper R → (limit : ℕ) → 3 ≤ limit → (h g : Status) (calls : List Call) (outcomes : List Outcome)
    → Promise R limit h calls outcomes g → map plain outcomes ≡ map plain (plays R limit h calls)
