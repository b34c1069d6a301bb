-- What a release asks of decisions, effects and lock sets, in the words of the graph's relations.
use Rattle.std.specs.Prelude.{◌≡◌, ℕ, ◌<◌, ◌≤◌, true, false, ◌⊎◌, List, length, Decides, ◌≢◌}
use Rattle.events.specs.declared.marks.Marks.{Marks}
use Rattle.graph.specs.Content.{Content, event_at, relation_at}
use Rattle.graph.specs.Releases.{barred}
use Rattle.graph.specs.declared.kind.Kind.{Kind}
use Rattle.graph.specs.declared.kind.Kind.TheVariants.{Condition, Milestone, Response, Include, Exclude}
use Rattle.graph.specs.declared.relation.Relation.{Relation}
use Rattle.graph.specs.declared.release.Release.{Release}
use Rattle.rules.specs.Answers.{accepted}
use Rattle.rules.specs.Rule.{Meaning}
use Rattle.rules.specs.declared.decision.Decision.{Decision}
use Rattle.rules.specs.declared.decision.Decision.TheVariants.{Accepted, Excluded, Unmet, Held}

-- for each kind, which events are related to which
abbrev pub Links : Type 1
Links = Kind → ℕ → ℕ → Type 0

-- one of the relations is of the kind, from a to b
abbrev pub Related : List Relation → Links
Related rs kind a b = (i : ℕ) × (i < length rs) × (relation_at rs i ≡ record { kind = kind; from = a; to = b })

-- the same for the kinds that the release has: release 4 has no milestones
abbrev pub RelatedIn : Release → List Relation → Links
RelatedIn release rs kind a b = (barred release kind ≡ false) × Related rs kind a b

-- a condition source of e that is included and not executed
abbrev pub UnmetCondition : Links → ℕ → (ℕ → Marks) → ℕ → Type 0
UnmetCondition L e M a = L Condition a e × ((M a).included ≡ true) × ((M a).executed ≡ false)

-- a milestone source of e that is included and pending
abbrev pub HoldingMilestone : Links → ℕ → (ℕ → Marks) → ℕ → Type 0
HoldingMilestone L e M a = L Milestone a e × ((M a).included ≡ true) × ((M a).pending ≡ true)

-- no event is such
abbrev pub NoneOf : (ℕ → Type 0) → Type 0
NoneOf P = (a : ℕ) → P a → ⊥

-- k is the lowest such event
abbrev pub LowestOf : (ℕ → Type 0) → ℕ → Type 0
LowestOf P k = P k × ((j : ℕ) → j < k → P j → ⊥)

-- e is included, no condition is unmet and no milestone holds it
abbrev pub Enabled : Links → ℕ → (ℕ → Marks) → Type 0
Enabled L e M = ((M e).included ≡ true) × NoneOf (UnmetCondition L e M) × NoneOf (HoldingMilestone L e M)

-- the decision of e that is right: 21 comes before 22 and 22 before 23, and the lowest event in the way is named
abbrev pub Right : Links → ℕ → (ℕ → Marks) → Decision → Type 0
Right L e M Accepted = Enabled L e M
Right L e M (Excluded k) = (k ≡ e) × ((M e).included ≡ false)
Right L e M (Unmet k) = ((M e).included ≡ true) × LowestOf (UnmetCondition L e M) k
Right L e M (Held k) = ((M e).included ≡ true) × NoneOf (UnmetCondition L e M) × LowestOf (HoldingMilestone L e M) k

-- the marks y of k after doing e, where they were x: e is executed and its pending mark goes before responses come
pub record After (L : Links) (e k : ℕ) (x y : Marks) : Type 0 where
  pub executed : Decides y.executed ((k ≡ e) ⊎ (x.executed ≡ true))
  pub pending : Decides y.pending (L Response e k ⊎ ((k ≢ e) × (x.pending ≡ true)))
  pub included : Decides y.included ((L Exclude e k → ⊥) × (L Include e k ⊎ (x.included ≡ true)))

-- k is owed: pending and included
abbrev pub Owed : (ℕ → Marks) → ℕ → Type 0
Owed M k = ((M k).pending ≡ true) × ((M k).included ≡ true)

-- the lock set of e: e, its condition and milestone sources, its response, include and exclude targets
abbrev pub Locks : Links → ℕ → ℕ → Type 0
Locks L e k =
    (((((k ≡ e) ⊎ L Condition k e) ⊎ L Response e k) ⊎ L Include e k) ⊎ L Exclude e k) ⊎ L Milestone k e

-- the rule R says of a graph what the release asks
pub record Rightful (release : Release) (c : Content) (R : Meaning) : Type 0 where
  pub stations : R.stations ≡ c.stations
  pub events : R.events ≡ length c.events
  pub owner : (e : ℕ) → R.owner e ≡ (event_at c.events e).owner
  pub start : (e : ℕ) → R.start e ≡ (event_at c.events e).marks
  pub decides : (e : ℕ) (M : ℕ → Marks) → Right (RelatedIn release c.relations) e M (R.decides e M)
  -- and no other decision is right
  pub only : (e : ℕ) (M : ℕ → Marks) (d : Decision) → Right (RelatedIn release c.relations) e M d → d ≡ R.decides e M
  pub enables : (e : ℕ) (M : ℕ → Marks) → Decides (accepted (R.decides e M)) (Enabled (RelatedIn release c.relations) e M)
  pub does : (e : ℕ) (M : ℕ → Marks) (k : ℕ) → e < R.events → After (RelatedIn release c.relations) e k (M k) (R.does e M k)
  pub locks : (e k : ℕ) → e < R.events → Decides (R.locks e k) (Locks (RelatedIn release c.relations) e k)
  -- of an event that the graph lacks
  pub lacks_locks : (e k : ℕ) → R.events ≤ e → R.locks e k ≡ false
  pub lacks_effect : (e : ℕ) (M : ℕ → Marks) (k : ℕ) → R.events ≤ e → R.does e M k ≡ M k
