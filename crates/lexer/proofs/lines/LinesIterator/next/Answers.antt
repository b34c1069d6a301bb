use Rattle.std.proofs.Common.{◌≡◌, ◌<◌, ◌∷◌, length, ap, subst, sym, refl, arith, rules}
use Rattle.std.proofs.lemmas.List.{length-append}
use Rattle.lexer.specs.Lines.{lines}
use Rattle.lexer.specs.Parts.{StandIn}
use Rattle.lexer.specs.declared.part.Part.{Part}
use Rattle.lexer.proofs.Cuts.{lines-cut, lines-cut_all}
use Rattle.lexer.proofs.lines.LinesIterator.next.Goals as goal
use Rattle.lexer.proofs.lines.LinesIterator.next.Goals.{in-Some, in-None}

pub returns-clause-steps : goal.returns-clause-steps
returns-clause-steps c =
    let whole = c.args.self.now.rest in
    let line = c.cut.result.0 in
    let places = c.cut.ensures.places in
    let some : 0 < length whole.bytes.now = search rules in
    let Rest : Part → Type 0 = λ next. (lines whole.bytes.now ≡ line.bytes.now ∷ lines next.bytes.now) × (length next.bytes.now < length whole.bytes.now) × StandIn whole next.at next.bytes.now in
    let rest : Rest c.match-split_first.self =
    elim c.match-split_first.branch [
      | in-Some w ↦
          subst Rest (sym w.self-is) (
            lines-cut c.cut.ensures.cut w.in-Some.ensures.bytes,
            omega (arith, ap length w.in-Some.ensures.bytes, ap length c.cut.ensures.cut.is, length-append line.bytes.now c.cut.result.1.bytes.now),
            λ text short h. w.in-Some.ensures.places.1 text short (places.1 text short h),
          )
      | in-None w ↦
          subst Rest (sym w.self-is)
          (lines-cut_all c.cut.ensures.cut some w.in-None.ensures.bytes, omega (arith, some, w.in-None.ensures.bytes), places.1)
    ] in
    record { line = rest.0; shorter = rest.1; number = c.saturating_add-self.ensures; counted = refl; place = places.0; next_place = rest.2 }
