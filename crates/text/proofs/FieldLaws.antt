-- The fields of a line: each is read in one way, and what is not there is not written.
use Rattle.std.proofs.Common.{◌≡◌, ℕ, suc, ◌+◌, ◌-◌, ◌<◌, append_assoc, subst, take, true, false, List, [], ◌∷◌, ◌++◌, length, Some, None, Option, sym, refl, ap, ◌∙◌, append-nil, arith, MatchOption}
use Rattle.std.proofs.ByRecursion.{All-append}
use Rattle.std.proofs.Math.ListN.{set}
use Rattle.std.proofs.lemmas.List.{length-set, take_more_set}
use Rattle.std.proofs.lemmas.Bool.{both_ways}
use Rattle.graph.specs.declared.kind.Kind.{Kind}
use Rattle.lexer.specs.Numbers.{digits, shaped, valued}
use Rattle.lexer.specs.Words.{Stop}
use Rattle.text.specs.declared.declaration.Declaration.TheVariants.{Stations, Event, Relation}
use Rattle.text.specs.Declarations.{NoDeclaration, NoField, NoFields, Small, field, fields, letter_of}
use Rattle.lexer.specs.Parts.{Cut}
use Rattle.lexer.proofs.Cuts.{cut-unique}
use Rattle.lexer.proofs.Numerals.{digits-shaped, shaped-digits}

-- a word that is a number is a field, and any other is none
module _ (line rest word tail : List ℕ) (first : line ≡ 32 ∷ rest) (cut : Cut 32 rest word tail) where
  pub field-none : shaped word ≡ false → NoField line
  field-none bad n tail' lt s' e' =
      let e = cut.is in
      let t : word ++ tail ≡ digits n ++ tail' = cc in
      let d = digits-shaped n lt in
      let u = cut-unique 32 word (digits n) tail tail' cut.free d.2 cut.stop s' t in
      both_ways _ bad (ap shaped u.0 ∙ d.0)

  field-some : (n : ℕ) → shaped word ≡ true → n ≡ valued word → (n < 1000) × (line ≡ field n ++ tail) × Stop tail
  field-some n good v =
      let p = shaped-digits word good in
      (omega (arith, p.0), first ∙ (λ i. 32 ∷ cut.is i) ∙ (λ i. 32 ∷ p.1 i ++ tail) ∙ (λ i. 32 ∷ digits (sym v i) ++ tail), cut.stop)

  -- what is read of a word that is a number
  pub field-read : shaped word ≡ true → (o : Option ℕ) → MatchOption o (shaped word ≡ false) (λ n. (shaped word ≡ true) × (n ≡ valued word)) → MatchOption o (NoField line) (λ n. (n < 1000) × (line ≡ field n ++ tail) × Stop tail)
  field-read good None h = absurd (both_ways _ h good)
  field-read good (Some n) h = field-some n good h.1

-- a line has its first field in one way
pub field-same : (n m : ℕ) (t u : List ℕ) → n < 1000 → m < 1000 → Stop t → Stop u → field n ++ t ≡ field m ++ u → (n ≡ m) × (t ≡ u)
field-same n m t u ln lm st su e =
    let dn = digits-shaped n ln in
    let dm = digits-shaped m lm in
    let tail : digits n ++ t ≡ digits m ++ u = cc in
    let c = cut-unique 32 (digits n) (digits m) t u dn.2 dm.2 st su tail in
    (sym dn.1 ∙ ap valued c.0 ∙ dm.1, c.1)

stop-none : Stop []
stop-none h = absurd (omega arith)

-- a field that stands alone is one number
pub field-is : (n m : ℕ) → n < 1000 → m < 1000 → field n ≡ field m → n ≡ m
field-is n m ln lm e = (field-same n m [] [] ln lm stop-none stop-none (append-nil (field n) ∙ e ∙ sym (append-nil (field m)))).0

-- the first of the fields, and the others
fields-more : (n : ℕ) (ns : List ℕ) → fields (n ∷ ns) ≡ field n ++ fields ns
fields-more n [] = sym (append-nil (field n))
fields-more n (m ∷ ns) = refl

fields-stop : (ns : List ℕ) → Stop (fields ns)
fields-stop [] some = absurd (omega arith)
fields-stop (n ∷ []) some = refl
fields-stop (n ∷ m ∷ ns) some = refl

-- where no field begins, none of so many stand
none-first : (k : ℕ) (rest : List ℕ) → NoField rest → NoFields (suc k) rest
none-first k rest none [] long small e = absurd (omega arith)
none-first k rest none (n ∷ ns) long small e = none n (fields ns) small.0 (fields-stop ns) (e ∙ fields-more n ns)

-- after a field, no further ones
none-more : (k : ℕ) (rest tail : List ℕ) (a : ℕ) → a < 1000 → rest ≡ field a ++ tail → Stop tail → NoFields k tail → NoFields (suc k) rest
none-more k rest tail a lt is stop none [] long small e = absurd (omega arith)
none-more k rest tail a lt is stop none (n ∷ ns) long small e =
    none ns (omega arith) small.1 (field-same a n tail (fields ns) lt small.0 stop (fields-stop ns) (sym is ∙ e ∙ fields-more n ns)).1

-- one more field at the end
fields_push : (ns : List ℕ) (n : ℕ) → fields (ns ++ n ∷ []) ≡ fields ns ++ field n
fields_push [] n = refl
fields_push (m ∷ []) n = refl
fields_push (m ∷ k ∷ ns) n = ap (λ l. field m ++ l) (fields_push (k ∷ ns) n) ∙ sym (append_assoc (field m) (fields (k ∷ ns)) (field n))

-- the first i of so many numbers are those of the fields that were read, and rest is left
pub record Reading (count : ℕ) (whole rest numbers : List ℕ) (i : ℕ) : Type 0 where
  pub long : length numbers ≡ count
  pub small : Small (take i numbers)
  pub is : whole ≡ fields (take i numbers) ++ rest
  pub none : NoFields (count - i) rest → NoFields count whole

module _ {count : ℕ} {whole rest numbers : List ℕ} {i : ℕ} (r : Reading count whole rest numbers i) where
  pub reading-stuck : i < count → NoField rest → NoFields count whole
  reading-stuck lt none =
      let k : count - i ≡ suc (count - i - 1) = omega arith in
      r.none (subst (λ n. NoFields n rest) (sym k) (none-first _ rest none))

  pub reading-more : (n : ℕ) (tail : List ℕ) → i < count → n < 1000 → rest ≡ field n ++ tail → Stop tail → Reading count whole tail (set numbers i n) (i + 1)
  reading-more n tail lt small is stop =
      let long = r.long in
      let on = take_more_set numbers i n (omega arith) in
      let k : count - i ≡ suc (count - (i + 1)) = omega arith in
      record {
        long = length-set numbers i n ∙ long;
        small = subst Small (sym on) (All-append (λ m. m < 1000) (take i numbers) (n ∷ []) r.small (small, tt));
        is =
            r.is ∙ ap (λ l. fields (take i numbers) ++ l) is ∙ sym (append_assoc (fields (take i numbers)) (field n) tail)
            ∙ ap (λ l. l ++ tail) (sym (ap fields on ∙ fields_push (take i numbers) n));
        none = λ none. r.none (subst (λ m. NoFields m rest) (sym k) (none-more _ rest tail n small is stop none));
      }

-- a line whose fields are not those of its letter writes no declaration
pub none-related : (k : Kind) (rest : List ℕ) → NoFields 2 rest → NoDeclaration (letter_of k ∷ rest)
none-related k rest none (Relation j a b) fit e = let t : rest ≡ field a ++ field b = cc in none (a ∷ b ∷ []) refl (fit.0, (fit.1, tt)) t
none-related k rest none d fit e = grind arith

pub none-headed : (rest : List ℕ) → NoFields 2 rest → NoDeclaration (115 ∷ rest)
none-headed rest none (Stations n r) fit e = let t : rest ≡ field n ++ field r = cc in none (n ∷ r ∷ []) refl (fit.0, (fit.1, tt)) t
none-headed rest none d fit e = grind arith

pub none-marked : (rest : List ℕ) → NoFields 3 rest → NoDeclaration (101 ∷ rest)
none-marked rest none (Event m o s) fit e =
    let t : rest ≡ field m ++ (field o ++ field s) = cc in
    none (m ∷ o ∷ s ∷ []) refl (fit.0, (fit.1, (fit.2, tt))) t
none-marked rest none d fit e = grind arith
