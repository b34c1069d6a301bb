-- The search for a relation that clashes with a new one.
use Rattle.std.proofs.Common.{◌≡◌, ℕ, zero, suc, ◌<◌, Bool, true, false, List, [], ◌∷◌, ◌++◌, length, subst, arith}
use Rattle.std.proofs.lemmas.List.{get_or_append_left}
use Rattle.std.proofs.lemmas.Bool.{both_ways, or_parts}
use Rattle.graph.specs.declared.relation.Relation.{Relation}
use Rattle.graph.specs.Content.{Apart, blank, clash, relation_at}
use Rattle.graph.specs.Declarations.{clashing}
use Rattle.graph.proofs.Tables.{push}

-- whether the relation clashes with one of those
abbrev pub met : List Relation → Relation → Bool
met rs r = clashing rs r.kind r.from r.to

unmet : (rs : List Relation) (r : Relation) → met rs r ≡ false → (i : ℕ) → i < length rs → clash (relation_at rs i) r ≡ false
unmet [] r e i h = absurd (omega arith)
unmet (q ∷ rs) r e zero h = (or_parts _ _ e).0
unmet (q ∷ rs) r e (suc i) h = unmet rs r (or_parts _ _ e).1 i (omega arith)

-- a relation that clashes with none may join
pub apart-push : (rs : List Relation) (r : Relation) → met rs r ≡ false → Apart rs → Apart (rs ++ r ∷ [])
apart-push rs r none h i j ij jn =
    let kept : i < length rs → relation_at (rs ++ r ∷ []) i ≡ relation_at rs i = λ l. get_or_append_left rs (r ∷ []) blank i l in
    push blank (λ k x. i < k → clash (relation_at (rs ++ r ∷ []) i) x ≡ true → ⊥) rs r
    (λ k kn ik e. h i k ik kn (subst (λ y. clash y (relation_at rs k) ≡ true) (kept (omega arith)) e))
    (λ ik e. both_ways _ (unmet rs r none i ik) (subst (λ y. clash y r ≡ true) (kept ik) e))
    j jn ij
