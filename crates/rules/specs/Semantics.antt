-- What the relations of a graph make of its events: decisions, effects and lock sets.
use Rattle.std.specs.Prelude.{ℕ, zero, suc, Bool, true, false, cond, not, ◌&&◌, ◌||◌, List, [], ◌∷◌, length, Some, None, Option, ◌==◌, nat_lt}
use Rattle.events.specs.Members.{named}
use Rattle.events.specs.declared.marks.Marks.{Marks}
use Rattle.graph.specs.Content.{Content, event_at}
use Rattle.graph.specs.Kinds.{kind_number}
use Rattle.graph.specs.Releases.{barred}
use Rattle.graph.specs.declared.kind.Kind.{Kind}
use Rattle.graph.specs.declared.kind.Kind.TheVariants.{Condition, Milestone, Response, Include, Exclude}
use Rattle.graph.specs.declared.relation.Relation.{Relation}
use Rattle.graph.specs.declared.release.Release.{Release}
use Rattle.rules.specs.Rule.{Meaning}
use Rattle.rules.specs.declared.decision.Decision.{Decision}
use Rattle.rules.specs.declared.decision.Decision.TheVariants.{Accepted, Excluded, Unmet, Held}

-- for each kind, which events are related to which
abbrev pub Relations : Type 0
Relations = Kind → ℕ → ℕ → Bool

-- the lowest number so far, or else n if it passes
abbrev pub lowest_step : Option ℕ → Bool → ℕ → Option ℕ
lowest_step (Some k) b n = Some k
lowest_step None true n = Some n
lowest_step None false n = None

-- the lowest number below n that passes the test
unfoldable pub lowest : (ℕ → Bool) → ℕ → Option ℕ
lowest p zero = None
lowest p (suc n) = lowest_step (lowest p n) (p n) n

-- a condition source of e that is included and not executed
abbrev pub unmet : Relations → ℕ → (ℕ → Marks) → ℕ → Bool
unmet rel e M a = rel Condition a e && ((M a).included && not (M a).executed)

-- a milestone source of e that is included and pending
abbrev pub holding : Relations → ℕ → (ℕ → Marks) → ℕ → Bool
holding rel e M a = rel Milestone a e && ((M a).included && (M a).pending)

-- the decision of e: whether e is included, then its unmet condition, then its holding milestone
abbrev pub decided : Bool → ℕ → Option ℕ → Option ℕ → Decision
decided false e c m = Excluded e
decided true e (Some a) m = Unmet a
decided true e None (Some a) = Held a
decided true e None None = Accepted

abbrev pub decides : Relations → ℕ → ℕ → (ℕ → Marks) → Decision
decides rel n e M = decided (M e).included e (lowest (unmet rel e M) n) (lowest (holding rel e M) n)

-- the marks of k after doing e, where they were x
abbrev pub leaves : Relations → ℕ → ℕ → Marks → Marks
leaves rel e k x =
    record {
      executed = k == e || x.executed;
      pending = rel Response e k || (not (k == e) && x.pending);
      included = not (rel Exclude e k) && (rel Include e k || x.included);
    }

-- whether the lock set of e has k, where the events are those below n
abbrev pub locked : Relations → ℕ → ℕ → ℕ → Bool
locked rel n e k =
    ((((named n e k || rel Condition k e) || rel Response e k) || rel Include e k) || rel Exclude e k) || rel Milestone k e

-- The rule of the relations. An event that the graph lacks has owner 0 and an empty lock set, and doing it changes nothing.
abbrev pub rule_of : Content → Relations → Meaning
rule_of c rel =
    record {
      stations = c.stations;
      events = length c.events;
      owner = λ e. (event_at c.events e).owner;
      start = λ e. (event_at c.events e).marks;
      locks = locked rel (length c.events);
      decides = decides rel (length c.events);
      does = λ e M k. cond (nat_lt e (length c.events)) (leaves rel e k (M k)) (M k);
    }

-- whether the relation is of the kind, from a to b
abbrev pub is : Kind → ℕ → ℕ → Relation → Bool
is kind a b r = kind_number kind == kind_number r.kind && (a == r.from && b == r.to)

-- whether one of the relations is of the kind, from a to b
unfoldable pub related : List Relation → Relations
related [] kind a b = false
related (r ∷ rs) kind a b = is kind a b r || related rs kind a b

-- the relations that a release reads: release 4 reads no milestones
abbrev pub read : Release → List Relation → Relations
read release rs kind a b = not (barred release kind) && related rs kind a b

-- the rule of a release over what a graph holds
abbrev pub meant : Release → Content → Meaning
meant release c = rule_of c (read release c.relations)
