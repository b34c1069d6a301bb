-- What the loop over the events keeps.
use Rattle.std.proofs.Common.{◌≡◌, ℕ, cond, ltb}
use Rattle.events.specs.Marks.{marks, unmarked}
use Rattle.graph.specs.Content.{event_at}
use Rattle.graph.specs.Held.{content}
use Rattle.rules.proofs.release_rule.ReleaseRuleRule.start.Given as goal

-- the events below the number have their marks, the others none
abbrev pub invariant-loop-number : goal.invariant-loop-number
invariant-loop-number l = (k : ℕ) → marks l.start k ≡ cond (ltb k l.number) (event_at (content l.self.graph).events k).marks unmarked
