-- The relations of a list, as tests and in words.
use Rattle.std.specs.Prelude.{◌≡◌, ℕ, ◌<◌, true, List, Decides, refl}
use Rattle.std.proofs.Common.{ap, ◌∙◌, arith}
use Rattle.std.proofs.lemmas.Bool.Decides.{nat_tests, Decides-and, Decides-by_or, Decides-like}
use Rattle.std.proofs.lemmas.Bool.{not-true, not_from_false}
use Rattle.std.proofs.lemmas.List.{get_or_default}
use Rattle.graph.specs.Content.{EndsIn, blank}
use Rattle.graph.specs.Kinds.{kind_number}
use Rattle.graph.specs.declared.kind.Kind.{Kind}
use Rattle.graph.specs.declared.relation.Relation.{Relation}
use Rattle.graph.specs.declared.release.Release.{Release}
use Rattle.rules.specs.Semantics.{Relations, is, read, related}
use Rattle.rules.specs.Words.{Links, Related, RelatedIn}

same_kind : (k l : Kind) → kind_number k ≡ kind_number l → k ≡ l
same_kind k l h = grind arith

same_parts : (k l : Kind) (a b x y : ℕ) → k ≡ l → a ≡ x → b ≡ y → ◌≡◌ {A = Relation} record { kind = l; from = x; to = y } record { kind = k; from = a; to = b }
same_parts k l a b x y p q r = cc

is-tells : (k : Kind) (a b : ℕ) (r : Relation) → Decides (is k a b r) (r ≡ record { kind = k; from = a; to = b })
is-tells k a b r = (
  λ t.
      let s : kind_number k ≡ kind_number r.kind = grind (arith, nat_tests) in
      let x : a ≡ r.from = grind (arith, nat_tests) in
      let y : b ≡ r.to = grind (arith, nat_tests) in
      same_parts k r.kind a b r.from r.to (same_kind k r.kind s) x y,
  λ q.
      let u = ap (λ (x : Relation). kind_number x.kind) q in
      let v = ap (λ (x : Relation). x.from) q in
      let w = ap (λ (x : Relation). x.to) q in
      grind (arith, nat_tests),
)

pub related-tells : (rs : List Relation) (k : Kind) (a b : ℕ) → Decides (related rs k a b) (Related rs k a b)
unfolding related
related-tells rs k a b =
    let R : Relation = record { kind = k; from = a; to = b } in
    Decides-like _ (λ h. (h.0, h.1, h.2 blank)) (λ h. (h.0, h.1, λ d. get_or_default rs h.0 d blank h.1 ∙ h.2))
    (Decides-by_or (is k a b) (λ r. r ≡ R) (λ l. related l k a b) (is-tells k a b) refl (λ _ _. refl) rs)

-- the tests say what the words say
abbrev pub Telling : Relations → Links → Type 0
Telling rel L = (k : Kind) (a b : ℕ) → Decides (rel k a b) (L k a b)

pub read-tells : (v : Release) (rs : List Relation) → Telling (read v rs) (RelatedIn v rs)
read-tells v rs k a b = Decides-and _ _ (not-true _, not_from_false _) (related-tells rs k a b)

-- relations are between the events below n
abbrev pub Within : ℕ → Relations → Type 0
Within n rel = (k : Kind) (a b : ℕ) → rel k a b ≡ true → (a < n) × (b < n)

pub read-within : (v : Release) (n : ℕ) (rs : List Relation) → EndsIn n rs → Within n (read v rs)
read-within v n rs ends k a b t =
    let h = ((read-tells v rs k a b).0 t).1 in
    let e = ends h.0 h.1 in
    let p = ap (λ (r : Relation). r.from) h.2 in
    let q = ap (λ (r : Relation). r.to) h.2 in
    (omega (arith, e.0), omega (arith, e.1))
