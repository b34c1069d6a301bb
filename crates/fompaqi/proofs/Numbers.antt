-- The numbers of a call, which are the fields of a line that are below 256.
use Rattle.std.proofs.Common.{◌≡◌, ℕ, ◌<◌, List, [], ◌∷◌, length, get_or, Result, Ok, Err, Option, None, OkIff, MatchOption, refl, sym, ap, ◌∙◌, arith}
use Rattle.std.specs.Result.{result_ok}
use Rattle.text.specs.Declarations.{NoFields, Small, field, fields}
use Rattle.text.proofs.FieldLaws.{field-is}
use Rattle.text.proofs.Writings.{two-same}
use Rattle.fompaqi.specs.Scripts.{NoNumber, NoNumbers}

pub none_one : (rest : List ℕ) → NoFields 1 rest → NoNumber rest
none_one rest h n l e = h (n ∷ []) refl (omega arith, tt) e

pub none_two : (rest : List ℕ) → NoFields 2 rest → NoNumbers rest
none_two rest h a b la lb e = h (a ∷ b ∷ []) refl (omega arith, (omega arith, tt)) e

one_byte : {E : Type 0} (rest : List ℕ) (n : ℕ) (r : Result ℕ E) → n < 1000 → rest ≡ field n → OkIff r (n < 256) n → MatchOption (result_ok r) (NoNumber rest) (λ k. (k < 256) × (rest ≡ field k))
one_byte rest n (Ok k) l e p = let same = p.1 in let small = p.0 in (omega arith, e ∙ ap field (sym same))
one_byte rest n (Err x) l e large = λ m small h. large (let same = field-is n m l (omega arith) (sym e ∙ h) in omega arith)

pub one_number : {E : Type 0} (rest ns : List ℕ) (r : Result ℕ E) → length ns ≡ 1 → Small ns → rest ≡ fields ns → OkIff r (get_or ns 0 0 < 256) (get_or ns 0 0) → MatchOption (result_ok r) (NoNumber rest) (λ k. (k < 256) × (rest ≡ field k))
one_number rest [] r l s e p = absurd (omega arith)
one_number rest (n ∷ []) r l s e p = one_byte rest n r s.0 e p
one_number rest (n ∷ m ∷ ns) r l s e p = absurd (omega arith)

pub too_large : {E : Type 0} (n : ℕ) (r : Result ℕ E) (o : Option ℕ) → OkIff r (n < 256) n → o ≡ None → o ≡ result_ok r → n < 256 → ⊥
too_large n (Ok k) o p none is small = let same = sym none ∙ is in cc
too_large n (Err x) o large none is small = large small

pub first_large : (rest ns : List ℕ) → length ns ≡ 2 → Small ns → rest ≡ fields ns → (get_or ns 0 0 < 256 → ⊥) → NoNumbers rest
first_large rest (a ∷ b ∷ []) l s e large x y lx ly h =
    large (let same = two-same a b x y (s.0, s.1.0) (omega arith, omega arith) (sym e ∙ h) in omega arith)
first_large rest [] l s e large x y lx ly h = absurd (omega arith)
first_large rest (a ∷ []) l s e large x y lx ly h = absurd (omega arith)
first_large rest (a ∷ b ∷ d ∷ ns) l s e large x y lx ly h = absurd (omega arith)

pub second_large : (rest ns : List ℕ) → length ns ≡ 2 → Small ns → rest ≡ fields ns → (get_or ns 1 0 < 256 → ⊥) → NoNumbers rest
second_large rest (a ∷ b ∷ []) l s e large x y lx ly h =
    large (let same = two-same a b x y (s.0, s.1.0) (omega arith, omega arith) (sym e ∙ h) in omega arith)
second_large rest [] l s e large x y lx ly h = absurd (omega arith)
second_large rest (a ∷ []) l s e large x y lx ly h = absurd (omega arith)
second_large rest (a ∷ b ∷ d ∷ ns) l s e large x y lx ly h = absurd (omega arith)
