use Rattle.std.proofs.Common.{◌≡◌, ◌+◌, ◌*◌, Bool, true, false, cond, [], refl, arith, rules}
use Rattle.lines.specs.Lists.{inside}
use Rattle.lines.proofs.Placing.{stations}
use Rattle.memory_line.specs.Held.{held_at}
use Rattle.memory_line.proofs.memory_line.MemoryLine.new.Goals as goal

pub returns : goal.returns
returns c a b = go (inside a b) refl
  where
    go : (i : Bool) → inside a b ≡ i → cond i (held_at c.from_fn.result (8 * a + b)) [] ≡ []
    go true u =
        let w = stations a b u in
        let made = c.from_fn.ensures.items.at (8 * a + b) record { items = [] } (omega arith) in
        search rules
    go false u = refl
