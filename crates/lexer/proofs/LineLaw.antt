-- The lines of a text put together are the text, and no other lines are.
use Rattle.std.proofs.Common.{◌≡◌, ℕ, List, [], ◌∷◌, ◌++◌, sym, refl, ap, ◌∙◌, subst, inl, inr, ⊎_elim, append_assoc, arith}
use Rattle.std.specs.List.{AllByRecursion}
use Rattle.std.proofs.lemmas.List.{same_from_push}
use Rattle.std.proofs.lemmas.Bool.{cases_eq, cond-true, cond-false, ne_eqb, eq-eqb}
use Rattle.lexer.specs.Lines.{Lasting, LinesAreTheText, MakeUp, OnlyLines, ended, lines, onto}
use Rattle.lexer.specs.Parts.{Without}
use Rattle.lexer.proofs.Cuts.{lines-ended, lines-last}

-- one more byte, which ends no line
more : (b : ℕ) (text : List ℕ) (ls : List (List ℕ)) → (b ≡ 10 → ⊥) → MakeUp ls text → MakeUp (onto b ls) (b ∷ text)
more b text [] ne (w, h) = (((ne, tt), tt), inr (⊎_elim (λ e. (λ i. b ∷ e i ++ 10 ∷ [])) (λ p. absurd p.1) h, omega arith))
more b text (l ∷ []) ne (w, h) = (((ne, w.0), w.1), ⊎_elim (λ e. inl (λ i. b ∷ e i)) (λ p. inr ((λ i. b ∷ p.0 i), omega arith)) h)
more b text (l ∷ m ∷ ls) ne (w, h) = (((ne, w.0), w.1), ⊎_elim (λ e. inl (λ i. b ∷ e i)) (λ p. inr ((λ i. b ∷ p.0 i), p.1)) h)

lasting-more : (ls : List (List ℕ)) → Lasting ls → Lasting ([] ∷ ls)
lasting-more [] h = absurd h
lasting-more (l ∷ ls) h = h

-- one more empty line
blank-line : (text : List ℕ) (ls : List (List ℕ)) → MakeUp ls text → MakeUp ([] ∷ ls) (10 ∷ text)
blank-line text ls (w, h) = ((tt, w), ⊎_elim (λ e. inl (λ i. 10 ∷ e i)) (λ p. inr ((λ i. 10 ∷ p.0 i), lasting-more ls p.1)) h)

pub lines-stand : LinesAreTheText
lines-stand [] = (tt, inl refl)
lines-stand (b ∷ bs) =
    ⊎_elim
    (λ (e : b ≡ 10). subst (λ ls. MakeUp ls (b ∷ bs)) (sym (cond-true _ _ _ (eq-eqb b 10 e))) (subst (λ x. MakeUp ([] ∷ lines bs) (x ∷ bs)) (sym e) (blank-line bs (lines bs) (lines-stand bs))))
    (λ ne. subst (λ ls. MakeUp ls (b ∷ bs)) (sym (cond-false _ _ _ (ne_eqb b 10 ne))) (more b bs (lines bs) ne (lines-stand bs)))
    (cases_eq b 10)

-- the lines put together with an end of line between them only
joined : List ℕ → List (List ℕ) → List ℕ
joined l [] = l
joined l (m ∷ ls) = l ++ 10 ∷ joined m ls

ended-joined : (l : List ℕ) (ls : List (List ℕ)) → ended (l ∷ ls) ≡ joined l ls ++ 10 ∷ []
unfolding joined
ended-joined l [] = refl
ended-joined l (m ∷ ls) = (λ i. l ++ 10 ∷ ended-joined m ls i) ∙ sym (append_assoc l (10 ∷ joined m ls) (10 ∷ []))

lines-joined : (l : List ℕ) (ls : List (List ℕ)) → AllByRecursion (Without 10) (l ∷ ls) → Lasting (l ∷ ls) → lines (joined l ls) ≡ l ∷ ls
unfolding joined
lines-joined l [] w h = lines-last l w.0 h
lines-joined l (m ∷ ls) w h = lines-ended l (joined m ls) w.0 ∙ (λ i. l ∷ lines-joined m ls w.1 h i)

lines-of-ended : (ls : List (List ℕ)) → AllByRecursion (Without 10) ls → lines (ended ls) ≡ ls
lines-of-ended [] w = refl
lines-of-ended (l ∷ ls) w = lines-ended l (ended ls) w.0 ∙ (λ i. l ∷ lines-of-ended ls w.1 i)

pub only-lines : OnlyLines
only-lines text ls (w, inl e) = sym (lines-of-ended ls w) ∙ ap lines e
only-lines text [] (w, inr p) = absurd p.1
only-lines text (l ∷ ls) (w, inr p) = sym (lines-joined l ls w p.1) ∙ ap lines (same_from_push (joined l ls) text 10 10 (sym (ended-joined l ls) ∙ p.0)).0
