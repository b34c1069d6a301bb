-- How much of a line is shown, and that a short line of printable bytes is shown as it is.
use Rattle.std.proofs.Common.{◌≡◌, ℕ, ◌<◌, ◌≤◌, min, true, List, [], ◌∷◌, ◌++◌, map, length, take, codes, sym, refl, ap, ◌∙◌, ap₂, append-nil}
use Rattle.std.proofs.lemmas.List.{take_all, take_min}
use Rattle.std.proofs.lemmas.Bool.{and_parts, cond-false, cond-true, le-ltb, lt-ltb}
use Rattle.lexer.specs.Bytes.{clean}
use Rattle.fompaqi.specs.Shown.{shown_byte, shown_line}

-- at the end of the bytes that are shown, all of these have been
pub shown-all : (bytes front : List ℕ) (n i : ℕ) → n ≡ min 120 (length bytes) → front ≡ take n bytes → length front ≤ i → map shown_byte (take i front) ≡ map shown_byte (take 120 bytes)
shown-all bytes front n i least front-is end =
    ap (map shown_byte) (take_all i front end ∙ front-is ∙ ap (λ k. take k bytes) least ∙ take_min 120 bytes)

pub shown-long : (bytes shown : List ℕ) → 120 < length bytes → shown ≡ map shown_byte (take 120 bytes) → shown ++ codes " ..." ≡ shown_line bytes
shown-long bytes shown l e = ap₂ (λ a b. a ++ b) e (sym (cond-true _ (codes " ...") [] (lt-ltb 120 (length bytes) l)))

pub shown-short : (bytes shown : List ℕ) → length bytes ≤ 120 → shown ≡ map shown_byte (take 120 bytes) → shown ≡ shown_line bytes
shown-short bytes shown l e =
    sym (append-nil shown) ∙ ap₂ (λ a b. a ++ b) e (sym (cond-false _ (codes " ...") [] (le-ltb 120 (length bytes) l)))

clean-shown : (bytes : List ℕ) → clean bytes ≡ true → map shown_byte bytes ≡ bytes
clean-shown [] e = refl
clean-shown (b ∷ bs) e = let p = and_parts _ _ e in ap₂ (λ x xs. x ∷ xs) (cond-true _ b 63 p.0) (clean-shown bs p.1)

pub shown-same : (bytes : List ℕ) → clean bytes ≡ true → length bytes ≤ 120 → shown_line bytes ≡ bytes
shown-same bytes e l =
    sym (shown-short bytes bytes l (sym (clean-shown bytes e) ∙ ap (map shown_byte) (sym (take_all 120 bytes l))))
