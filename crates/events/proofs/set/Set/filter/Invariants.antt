use Rattle.events.proofs.Filtering.{Gathers}
use Rattle.events.proofs.set.Set.filter.Given as goal

-- the numbers before the turn have been tested
abbrev pub invariant-loop-number : goal.invariant-loop-number
invariant-loop-number g l = Gathers (λ k b. g.F.Fn.post l.fn.test (k, tt) b) (g.W.Word.number l.fn.self.bits) l.number (g.W.Word.number l.passing.bits)
