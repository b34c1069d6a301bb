-- A line that keeps one list at each place: a change at one place is a change of one pair's list.
use Rattle.std.proofs.Common.{◌≡◌, ℕ, ◌+◌, ◌*◌, ◌<◌, Bool, true, false, cond, ◌&&◌, eqb, ltb, List, [], ◌∷◌, ◌++◌, length, sym, refl, ap, ◌∙◌, ap₂, inl, inr, arith}
use Rattle.std.proofs.lemmas.Bool.{and_parts, cases_Bool, cond-true, eqb-true, ltb-true}
use Rattle.std.proofs.lemmas.Bool.Decides.{nat_tests}
use Rattle.lines.specs.declared.message.Message.{Message}
use Rattle.lines.specs.Lists.{fits, inside, placed, posted, same, taken, younger}

pub stations : (a b : ℕ) → inside a b ≡ true → (a < 8) × (b < 8)
stations a b h = let p = and_parts (ltb a 8) (ltb b 8) h in (ltb-true a 8 p.0, ltb-true b 8 p.1)

apart : (from to a b : ℕ) → to < 8 → b < 8 → same from to a b ≡ false → 8 * a + b ≡ 8 * from + to → ⊥
apart from to a b l m n e = let z : ◌≡◌ {A = ℕ} 0 1 = grind (arith, nat_tests) in omega arith

-- the list of a pair is the one at its place
pub at_place : (at : ℕ → List Message) (from to p : ℕ) → inside from to ≡ true → p ≡ 8 * from + to → placed at from to ≡ at p
at_place at from to p t e = cond-true (inside from to) (at (8 * from + to)) [] t ∙ ap at (sym e)

pub fits-place : (limit : ℕ) (at : ℕ → List Message) (from to p : ℕ) → inside from to ≡ true → p ≡ 8 * from + to → fits limit (placed at) from to ≡ ltb (length (at p)) limit
fits-place limit at from to p t e = ap₂ (λ i l. i && ltb (length l) limit) t (at_place at from to p t e)

-- what stands at the other places is as it was
abbrev pub Elsewhere : (ℕ → List Message) → (ℕ → List Message) → ℕ → Type 0
Elsewhere old new p = (q : ℕ) → q < 64 → (q ≡ p → ⊥) → new q ≡ old q

others : (old new : ℕ → List Message) (from to p : ℕ) → inside from to ≡ true → p ≡ 8 * from + to → Elsewhere old new p
    → (a b : ℕ) → same from to a b ≡ false → placed new a b ≡ placed old a b
others old new from to p t e h a b n = go (inside a b) refl
  where
    go : (i : Bool) → inside a b ≡ i → cond i (new (8 * a + b)) [] ≡ cond i (old (8 * a + b)) []
    go true u =
        let w = stations a b u in
        let ne = apart from to a b (stations from to t).1 w.1 n in
        h (8 * a + b) (omega arith) (λ q. ne (q ∙ e))
    go false u = refl

-- one pair's list becomes f of itself, and no other changes
changed : (f : List Message → List Message) (old new : ℕ → List Message) (from to p : ℕ) → inside from to ≡ true → p ≡ 8 * from + to → Elsewhere old new p
    → new p ≡ f (old p) → (a b : ℕ) → placed new a b ≡ cond (same from to a b) (f (placed old a b)) (placed old a b)
changed f old new from to p t e h s a b =
    elim (cases_Bool (same from to a b)) [
      | inl u ↦
          (let q = and_parts (eqb a from) (eqb b to) u in
          let ea = eqb-true a from q.0 in
          let eb = eqb-true b to q.1 in
          let was : old p ≡ placed old a b = sym (at_place old from to p t e) ∙ ap₂ (placed old) (sym ea) (sym eb) in
          ap₂ (placed new) ea eb ∙ at_place new from to p t e ∙ s ∙ ap f was ∙ sym (cond-true (same from to a b) (f (placed old a b)) (placed old a b) u))
      | inr u ↦ others old new from to p t e h a b u ∙ ap (λ x. cond x (f (placed old a b)) (placed old a b)) (sym u)
    ]

pub one-posted : (limit : ℕ) (old new : ℕ → List Message) (from to p : ℕ) (m : Message) → inside from to ≡ true → p ≡ 8 * from + to → Elsewhere old new p
    → new p ≡ cond (ltb (length (old p)) limit) (old p ++ m ∷ []) (old p) → (a b : ℕ) → placed new a b ≡ posted limit (placed old) from to m a b
one-posted limit old new from to p m t e h s a b =
    let f : List Message → List Message = λ l. cond (ltb (length (old p)) limit) (l ++ m ∷ []) l in
    changed f old new from to p t e h s a b ∙ swap (same from to a b) (ltb (length (old p)) limit)
    ∙ ap (λ x. cond (x && same from to a b) (placed old a b ++ m ∷ []) (placed old a b)) (sym (fits-place limit old from to p t e))
  where
    swap : (x y : Bool) → cond x (cond y (placed old a b ++ m ∷ []) (placed old a b)) (placed old a b) ≡ cond (y && x) (placed old a b ++ m ∷ []) (placed old a b)
    swap x y = grind arith

pub one-taken : (old new : ℕ → List Message) (from to p : ℕ) → inside from to ≡ true → p ≡ 8 * from + to → Elsewhere old new p
    → new p ≡ younger (old p) → (a b : ℕ) → placed new a b ≡ taken (placed old) from to a b
one-taken old new = changed younger old new
