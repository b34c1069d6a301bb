-- A refused text has one fault.
use Rattle.std.proofs.Common.{◌≡◌, ℕ, suc, ◌+◌, ◌⊎◌, List, [], ◌∷◌, ◌++◌, map, length, Some, None, Ok, Err, Option, Result, sym, refl, ap, ◌∙◌, subst, inl, inr, ⊎_elim, arith, MatchResult}
use Rattle.std.specs.List.{AllByRecursion}
use Rattle.std.proofs.lemmas.Bool.{both_ways}
use Rattle.graph.specs.declared.graph.Graph.{Graph}
use Rattle.graph.specs.Content.{Content}
use Rattle.graph.specs.Held.{content}
use Rattle.text.specs.declared.declaration.Declaration.{Declaration}
use Rattle.text.specs.declared.fault.GraphFault.{GraphFault}
use Rattle.text.specs.declared.fault.Report.{Report}
use Rattle.lexer.specs.Bytes.{clean}
use Rattle.text.specs.Faults.{told}
use Rattle.text.specs.Declarations.{Fits, numbered, related, written}
use Rattle.text.specs.Reading.{Faulty, FirstFault, Refused, SoFar, Unfinished, Writes, breaks, declared}
use Rattle.text.proofs.Writings.{clean-written, declarations-same, fits-declared, follows, map_same, no-fault, not-refused, one-writing, split-map, written_same}

-- of two such beginnings of one list, one goes on from the other
one_way : {A B : Type 0} (f : A → B) (P : A → Type 0) → ((x y : A) → P x → P y → f x ≡ f y → x ≡ y) → (xs ys : List A) (l m : B) (ls ms : List B) → AllByRecursion P xs → AllByRecursion P ys → map f xs ++ l ∷ ls ≡ map f ys ++ m ∷ ms →
    ((xs ≡ ys) × (l ≡ m)) ⊎ (((i : A) × (zs : List A) × (ys ≡ xs ++ i ∷ zs) × (l ≡ f i) × P i) ⊎ ((i : A) × (zs : List A) × (xs ≡ ys ++ i ∷ zs) × (m ≡ f i) × P i))
one_way f P inj [] [] l m ls ms px py e = let h : l ≡ m = cc in inl (refl, h)
one_way f P inj [] (y ∷ ys) l m ls ms px py e = let h : l ≡ f y = cc in inr (inl (y, ys, refl, h, py.0))
one_way f P inj (x ∷ xs) [] l m ls ms px py e = let h : m ≡ f x = cc in inr (inr (x, xs, refl, h, px.0))
one_way f P inj (x ∷ xs) (y ∷ ys) l m ls ms px py e =
    let h : f x ≡ f y = cc in
    let t : map f xs ++ l ∷ ls ≡ map f ys ++ m ∷ ms = cc in
    let s = inj x y px.0 py.0 h in
    ⊎_elim
    (λ r. inl ((λ j. s j ∷ r.0 j), r.1))
    (λ q. ⊎_elim
    (λ r. inr (inl (r.0, r.1, (λ j. sym s j ∷ r.2 j), r.3, r.4)))
    (λ r. inr (inr (r.0, r.1, (λ j. s j ∷ r.2 j), r.3, r.4)))
    q)
    (one_way f P inj xs ys l m ls ms px.1 py.1 t)

declared_same : (a b : Option Content) → declared a ≡ declared b → a ≡ b
declared_same None None e = refl
declared_same None (Some b) e = absurd (let z : ◌≡◌ {A = ℕ} 0 (suc (length (numbered 0 b.events ++ map related b.relations))) = ap length e in omega arith)
declared_same (Some a) None e = absurd (let z : ◌≡◌ {A = ℕ} (suc (length (numbered 0 a.events ++ map related a.relations))) 0 = ap length e in omega arith)
declared_same (Some a) (Some b) e = ap (λ c. Some c) (declarations-same a b e)

-- a line that a longer sound beginning writes has no fault
no-later : (a b : Option Content) (d : Declaration) (zs : List Declaration) (l : List ℕ) (k : ℕ) (p : Report) → SoFar b → declared b ≡ declared a ++ d ∷ zs → l ≡ written d → Fits d → Faulty a l k p → ⊥
no-later a None d zs l k p s e is fit bad = absurd (none (declared a) d zs e)
  where
    none : (xs : List Declaration) (d : Declaration) (zs : List Declaration) → [] ≡ xs ++ d ∷ zs → ⊥
    none [] d zs e = let z : ◌≡◌ {A = ℕ} 0 (suc (length zs)) = ap length e in omega arith
    none (x ∷ xs) d zs e = let z : ◌≡◌ {A = ℕ} 0 (suc (length (xs ++ d ∷ zs))) = ap length e in omega arith
no-later a (Some b) d zs l k p s e is fit bad = no-fault a d l k p is fit (follows a b d zs s e) bad

-- one line, after the same lines, has one fault
same_line : (a : Option Content) (l : List ℕ) (k : ℕ) (p q : Report) → Faulty a l k p → Faulty a l k q → p ≡ q
same_line a l k p q (inl (inl x)) (inl (inl y)) = x.1 ∙ sym y.1
same_line a l k p q (inl (inl x)) (inl (inr y)) = absurd (both_ways _ x.0 y.0)
same_line a l k p q (inl (inr x)) (inl (inl y)) = absurd (both_ways _ y.0 x.0)
same_line a l k p q (inl (inr x)) (inl (inr y)) = x.2 ∙ sym y.2
same_line a l k p q (inl (inl x)) (inr y) = absurd (both_ways _ x.0 (ap clean y.2 ∙ clean-written y.0 y.1))
same_line a l k p q (inl (inr x)) (inr y) = absurd (x.1 y.0 y.1 y.2)
same_line a l k p q (inr x) (inl (inl y)) = absurd (both_ways _ y.0 (ap clean x.2 ∙ clean-written x.0 x.1))
same_line a l k p q (inr x) (inl (inr y)) = absurd (y.1 x.0 x.1 x.2)
same_line a l k p q (inr x) (inr y) =
    let d = written_same x.0 y.0 x.1 y.1 (sym x.2 ∙ y.2) in
    x.4 ∙ (λ i. record { number = breaks a (d i); layer = 3; line = k }) ∙ sym y.4

firsts : {ls : List (List ℕ)} {p q : Report} → FirstFault ls p → FirstFault ls q → p ≡ q
firsts {ls} {p} {q} f g =
    ⊎_elim
    (λ r.
    let same = declared_same f.before g.before r.0 in
    same_line g.before g.line _ p q (subst (λ b. Faulty b g.line (length (declared b) + 1) p) same (subst (λ l. Faulty f.before l (length (declared f.before) + 1) p) r.1 f.faulty)) g.faulty)
    (λ o. ⊎_elim
    (λ r. absurd (no-later f.before g.before r.0 r.1 f.line _ p g.sound r.2 r.3 r.4 f.faulty))
    (λ r. absurd (no-later g.before f.before r.0 r.1 g.line _ q f.sound r.2 r.3 r.4 g.faulty))
    o)
    (one_way written Fits written_same (declared f.before) (declared g.before) f.line g.line f.rest g.rest (fits-declared f.before f.sound) (fits-declared g.before g.sound) (sym f.split ∙ g.split))

-- a text with a faulty line does not end too soon
apart : {ls : List (List ℕ)} {p q : Report} → FirstFault ls p → Unfinished ls q → ⊥
apart {ls} {p} f u =
    let r = split-map written Fits written_same (declared u.before) (declared f.before) f.line f.rest (fits-declared u.before u.sound) (fits-declared f.before f.sound) (sym u.all ∙ f.split) in
    no-later f.before u.before r.0 r.1 f.line _ p u.sound r.2 r.3 r.4 f.faulty

ends : {ls : List (List ℕ)} {p q : Report} → Unfinished ls p → Unfinished ls q → p ≡ q
ends u v =
    let same = map_same written Fits written_same (declared u.before) (declared v.before) (fits-declared u.before u.sound) (fits-declared v.before v.sound) (sym u.all ∙ v.all) in
    u.told ∙ (λ i. record { number = 4; layer = 3; line = length (same i) + 1 }) ∙ sym v.told

one-fault : (text : List ℕ) (p q : Report) → Refused text p → Refused text q → p ≡ q
one-fault text p q (inl a) (inl b) = a.1 ∙ sym b.1
one-fault text p q (inl a) (inr b) = absurd (omega arith)
one-fault text p q (inr a) (inl b) = absurd (omega arith)
one-fault text p q (inr (s, inl f)) (inr (t, inl g)) = firsts f g
one-fault text p q (inr (s, inl f)) (inr (t, inr u)) = absurd (apart f u)
one-fault text p q (inr (s, inr u)) (inr (t, inl f)) = absurd (apart f u)
one-fault text p q (inr (s, inr u)) (inr (t, inr v)) = ends u v

-- what a reader answers that is right at all
module _ (text : List ℕ) where
  pub exact : (r : Result Graph GraphFault) → MatchResult r (λ g. Writes text (content g)) (λ f. Refused text (told f)) → (c : Content) → Writes text c → MatchResult r (λ g. content g ≡ c) (λ _. ⊥)
  exact (Ok g) h c w = one-writing text (content g) c h w
  exact (Err f) h c w = not-refused text c (told f) w h

  pub single : (r : Result Graph GraphFault) → MatchResult r (λ g. Writes text (content g)) (λ f. Refused text (told f)) → (p : Report) → Refused text p → MatchResult r (λ _. ⊥) (λ f. told f ≡ p)
  single (Ok g) h p bad = not-refused text (content g) p h bad
  single (Err f) h p bad = one-fault text (told f) p h bad
