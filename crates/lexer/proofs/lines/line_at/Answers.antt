use Rattle.std.proofs.Common.{◌≡◌, ◌-◌, ◌<◌, ◌≤◌, ◌∙◌, [], ap, sym, List, length, get_or, Some, None, Option, ℕ, ⊎_elim, arith}
use Rattle.std.specs.List.{slice_get}
use Rattle.std.specs.Option.{option_map}
use Rattle.std.proofs.lemmas.Option.{get_or_from_slice_get, slice_get_cases, slice_get_within}
use Rattle.std.proofs.lemmas.Iterator.Consumers.{YieldsList-from_shown, nth_from_yields_List}
use Rattle.lexer.specs.declared.lines.Line.{Line}
use Rattle.lexer.specs.declared.lines.Lines.{Lines}
use Rattle.lexer.specs.Lines.{TakesLine, lines}
use Rattle.lexer.proofs.lines.line_at.Goals as goal
use Rattle.lexer.proofs.lines.line_at.Goals.{After-nth}

past : (xs : List (List ℕ)) (k : ℕ) → slice_get xs k ≡ None → length xs ≤ k
past xs k none = ⊎_elim (λ w. absurd (let z : ◌≡◌ {A = Option (List ℕ)} (Some w.0) None = sym w.2 ∙ none in cc)) (λ w. w.0) (slice_get_cases xs k).1

read : Line → List ℕ
read l = l.part.bytes.now

module _ (c : After-nth) where
  -- the lines are given in order
  there : slice_get (lines c.args.text.now) c.in_ok-checked_sub.field-0 ≡ option_map read c.nth.result
  unfolding read
  there =
      sym
      (nth_from_yields_List c.nth.result c.nth.new.self c.in_ok-checked_sub.field-0 c.nth.ensures.ran
      (YieldsList-from_shown TakesLine read (λ (s : Lines). lines s.rest.bytes.now) (λ s t h. ap length h.0) (λ s l t h. h.line) c.new.result)
      ∙ (λ i. slice_get (lines (c.new.ensures.0 i)) c.in_ok-checked_sub.field-0))

  gone : c.nth.result ≡ None → length (lines c.args.text.now) ≤ c.in_ok-checked_sub.field-0
  gone e = past _ _ (there ∙ ap (option_map read) e)

  found : (l : Line) → c.nth.result ≡ Some l → (c.in_ok-checked_sub.field-0 < length (lines c.args.text.now)) × (l.part.bytes.now ≡ get_or (lines c.args.text.now) c.in_ok-checked_sub.field-0 [])
  unfolding read
  found l e =
      let at : slice_get (lines c.args.text.now) c.in_ok-checked_sub.field-0 ≡ Some l.part.bytes.now = there ∙ ap (option_map read) e in
      let ls = lines c.args.text.now in
      let k = c.in_ok-checked_sub.field-0 in
      (slice_get_within ls k _ at, sym (get_or_from_slice_get ls k _ [] at))

pub returns-in_err-line : goal.returns-in_err-line
returns-in_err-line c =
    let past = gone (goal.at.returns-in_err-line c).After-nth c.in_err-line.was in
    rw c.from_residual-in_err-line.ensures (λ some. omega (arith, past, c.in_ok-checked_sub.ensures))

pub returns : goal.returns
returns c =
    let at = found (goal.at.returns c).After-nth c.in_ok-line.line c.in_ok-line.was in
    let k : c.in_ok-checked_sub.field-0 ≡ c.args.number - 1 = omega (arith, c.in_ok-checked_sub.ensures) in
    (omega (arith, c.in_ok-checked_sub.ensures), omega (arith, at.0, c.in_ok-checked_sub.ensures), at.1 ∙ ap (λ n. get_or (lines c.args.text.now) n []) k)
