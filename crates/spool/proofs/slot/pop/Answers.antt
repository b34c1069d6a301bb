use Rattle.std.proofs.Common.{◌≡◌, ◌-◌, length, get_or, sym, refl, ap, ◌∙◌, subst, arith}
use Rattle.lines.specs.Lists.{oldest, younger}
use Rattle.spool.proofs.Slots.{empty-slot}
use Rattle.spool.proofs.Popping.{popped, popped-laid, popped-slot}
use Rattle.spool.proofs.slot.pop.Goals as goal

pub returns-then-count-eq0 : goal.returns-then-count-eq0
returns-then-count-eq0 c =
    let z = empty-slot c.args.slot.now 0 c.if-count-eq0.true in
    record { answer = sym (ap oldest z); list = subst (λ l. l ≡ younger l) (sym z) refl; slot = c.requires.1 }

pub returns : goal.returns
returns c =
    let old = c.args.slot.now in
    let w = c.copy_within.ensures in
    let f = c.fill.ensures in
    let n : length c.copy_within.new.self - 10 ≡ 3 = omega arith in
    let p = popped old c.copy_within.new.self c.fill.new.self (length c.copy_within.new.self - 10) c.requires.0 (w.len ∙ c.requires.0) n (f.after (λ y e. e))
    (λ k g h. w.by_index.0 k 0 g (omega arith) ∙ ap (λ x. get_or old x 0) (omega arith)) in
    let s = popped-slot old _ p c.requires.1 c.if-count-eq0.false in
    record { answer = sym (ap oldest s); list = sym (ap younger s); slot = popped-laid old _ p c.requires.1 c.if-count-eq0.false }
