use Rattle.std.proofs.Common.{◌≡◌, ◌<◌, ◌≤◌, ◌==◌, true, false, length, subst, sym, ◌∙◌, arith}
use Rattle.std.specs.Fmt.{HasWritten}
use Rattle.std.proofs.lemmas.Bool.Decides.{nat_tests}
use Rattle.std.proofs.lemmas.Grind.{put_two}
use Rattle.fompaqi.proofs.Showing.{shown-all, shown-long, shown-short}
use Rattle.fompaqi.proofs.shown.ShownLineDisplay.fmt.Goals as goal

pub returns-in_ok-write_str-clause-writes : goal.returns-in_ok-write_str-clause-writes
returns-in_ok-write_str-clause-writes g c plain ok =
    let bytes = c.args.self.now.0.now in
    let least = c.min.ensures in
    let sum = c.split_at.ensures.back_len in
    let some : (length c.split_at.result.1.now == 0) ≡ false = sym c.is_empty.ensures ∙ c.if-not-is_empty.true in
    let long : 120 < length bytes = grind (arith, nat_tests) in
    let first = c.loop-byte.invariant plain in
    put_two _ _ _ _ _ _ _ first (c.in_ok-write_str.ensures.writes first.plain ok)
    (shown-long bytes _ long (shown-all bytes _ _ _ least c.split_at.ensures.front c.loop-byte-test.false))

pub returns-else-not-is_empty-clause-writes : goal.returns-else-not-is_empty-clause-writes
returns-else-not-is_empty-clause-writes g c plain ok =
    let bytes = c.args.self.now.0.now in
    let least = c.min.ensures in
    let sum = c.split_at.ensures.back_len in
    let none : (length c.split_at.result.1.now == 0) ≡ true = sym c.is_empty.ensures ∙ c.if-not-is_empty.false in
    let short : length bytes ≤ 120 = grind (arith, nat_tests) in
    subst (λ text. HasWritten g.W.Write.write_str_gives c.args.f.now text c.loop-byte.f)
    (shown-short bytes _ short (shown-all bytes _ _ _ least c.split_at.ensures.front c.loop-byte-test.false)) (c.loop-byte.invariant plain)
