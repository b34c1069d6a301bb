-- The first pair found is the lowest.
use Rattle.std.proofs.Common.{rules, ◌≡◌, ◌<◌, length, get_or, ap, ◌∙◌, arith}
use Rattle.site.proofs.LowestPairs.{found-at, none-lowest}
use Rattle.site.proofs.Stationing.{numbered}
use Rattle.site.proofs.pairs.lowest_pair.Goals as goal

pub returns-then-count-gt0 : goal.returns-then-count-gt0
returns-then-count-gt0 g c =
    let W = g.L.Line.waits c.args.line.now in
    let i = c.loop-from.from-index in
    let j = c.loop-b.b in
    let few : i < 8 = omega (arith, ap length c.all-from-items.ensures) in
    let less : j < 8 = omega arith in
    let a : get_or c.all-from-items.result i c.from-item.result ≡ i = ap (λ xs. get_or xs i c.from-item.result) c.all-from-items.ensures ∙ numbered i c.from-item.result few in
    let b : c.in_ok-to.to ≡ j = search rules in
    let n : c.count.result ≡ length (W i j) = c.count.ensures ∙ ap (λ x. length (W x j)) (c.from-a.ensures.0 ∙ a) in
    rw (a, b) (found-at W i j few less (omega (arith, n)) c.loop-b.invariant, less)

pub returns : goal.returns
returns g c =
    let l = ap length c.all-from-items.ensures in
    none-lowest (g.L.Line.waits c.args.line.now) (λ k m. c.loop-from.invariant k (omega arith))
