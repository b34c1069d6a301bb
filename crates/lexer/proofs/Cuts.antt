-- Where a list of bytes is cut at the first byte of a kind: lines at byte 10, words at byte 32.
use Rattle.std.proofs.Common.{◌≡◌, ℕ, ◌<◌, List, [], ◌∷◌, ◌++◌, length, get_or, take, drop, sym, refl, ap, ◌∙◌, subst, add-zero, append-nil, arith}
use Rattle.std.proofs.ByRecursion.{All-from_get_or}
use Rattle.std.proofs.lemmas.List.{get_or-drop, get_or-take, length-drop, length-take-le, nil_from_length, take-append-drop}
use Rattle.std.proofs.lemmas.Bool.{cond-false, ne_eqb}
use Rattle.lexer.specs.Bytes.{FirstAt}
use Rattle.lexer.specs.Parts.{Cut, StopAt, Without}
use Rattle.lexer.specs.Lines.{lines, onto}

pub cut_at : {s : ℕ} {bytes : List ℕ} {r : ℕ} (front tail : List ℕ) → FirstAt bytes s r → front ≡ take r bytes → tail ≡ drop r bytes → Cut s bytes front tail
cut_at {s} {bytes} {r} front tail at a b =
    record {
      is = sym (take-append-drop r bytes) ∙ (λ i. sym a i ++ sym b i);
      free =
          subst (Without s) (sym a)
          (All-from_get_or _ (take r bytes) 0
          (λ i h.
          let k : i < r = subst (λ m. i < m) (length-take-le r bytes at.within) h in
          subst (λ x. x ≡ s → ⊥) (sym (get_or-take r bytes i 0 k)) (at.before i k)));
      stop =
          λ some.
          ap (λ l. get_or l 0 0) b ∙ get_or-drop r bytes 0 0 ∙ ap (λ i. get_or bytes i 0) (add-zero r)
          ∙ at.found (omega (arith, ap length b ∙ length-drop r bytes));
    }

-- a list is cut at its first s in one way
pub cut-unique : (s : ℕ) (a b x y : List ℕ) → Without s a → Without s b → StopAt s x → StopAt s y → a ++ x ≡ b ++ y → (a ≡ b) × (x ≡ y)
cut-unique s [] [] x y wa wb sx sy e = (refl, e)
cut-unique s [] (b ∷ bs) x y wa wb sx sy e = absurd (wb.0 (sym (ap (λ l. get_or l 0 0) e) ∙ sx (subst (λ l. 0 < length l) (sym e) (omega arith))))
cut-unique s (a ∷ more) [] x y wa wb sx sy e = absurd (wa.0 (ap (λ l. get_or l 0 0) e ∙ sy (subst (λ l. 0 < length l) e (omega arith))))
cut-unique s (a ∷ more) (b ∷ bs) x y wa wb sx sy e =
    let h : a ≡ b = cc in
    let t : more ++ x ≡ bs ++ y = cc in
    let r = cut-unique s more bs x y wa.1 wb.1 sx sy t in
    ((λ i. h i ∷ r.0 i), r.1)

pub lines-ended : (l x : List ℕ) → Without 10 l → lines (l ++ 10 ∷ x) ≡ l ∷ lines x
lines-ended [] x w = refl
lines-ended (b ∷ l) x w = cond-false _ _ _ (ne_eqb b 10 w.0) ∙ ap (onto b) (lines-ended l x w.1)

pub lines-last : (l : List ℕ) → Without 10 l → 0 < length l → lines l ≡ l ∷ []
lines-last [] w h = absurd (omega arith)
lines-last (b ∷ []) w h = cond-false _ _ _ (ne_eqb b 10 w.0)
lines-last (b ∷ c ∷ l) w h = cond-false _ _ _ (ne_eqb b 10 w.0) ∙ ap (onto b) (lines-last (c ∷ l) w.1 (omega arith))

-- the first line of a text, before its end of line or the end of the text
pub lines-cut : {text l tail rest : List ℕ} {b : ℕ} → Cut 10 text l tail → tail ≡ b ∷ rest → lines text ≡ l ∷ lines rest
lines-cut {text} {l} {tail} {rest} {b} cut e =
    let ends : b ≡ 10 = ap (λ t. get_or t 0 0) (sym e) ∙ cut.stop (subst (λ t. 0 < length t) (sym e) (omega arith)) in
    ap lines (cut.is ∙ (λ i. l ++ e i) ∙ (λ i. l ++ ends i ∷ rest)) ∙ lines-ended l rest cut.free

pub lines-cut_all : {text l tail : List ℕ} → Cut 10 text l tail → 0 < length text → length tail ≡ 0 → lines text ≡ l ∷ lines tail
lines-cut_all {text} {l} {tail} cut some none =
    let gone = nil_from_length tail none in
    let whole : text ≡ l = cut.is ∙ (λ i. l ++ gone i) ∙ append-nil l in
    ap lines whole ∙ lines-last l cut.free (subst (λ t. 0 < length t) whole some) ∙ (λ i. l ∷ lines (sym gone i))
