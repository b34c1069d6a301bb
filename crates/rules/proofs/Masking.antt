-- Masks hold the relations that were added.
use Rattle.std.proofs.Common.{◌≡◌, ℕ, ◌+◌, ◌<◌, ◌≤◌, Bool, false, ◌&&◌, ◌||◌, ltb, List, length, drop, replicate, ap, ◌∙◌, inl, inr, arith}
use Rattle.std.proofs.lemmas.List.{at_drop_all, at_drop_more, get_or_past, get_or-replicate, length-replicate}
use Rattle.std.proofs.lemmas.Bool.{cases_lt}
use Rattle.std.proofs.lemmas.Bool.Decides.{nat_tests}
use Rattle.events.proofs.MemberLaws.{member-past}
use Rattle.events.specs.Members.{NoMember, member}
use Rattle.events.specs.Sets.{EventSet}
use Rattle.graph.specs.Content.{EndsIn, blank, relation_at}
use Rattle.graph.specs.declared.kind.Kind.{Kind}
use Rattle.graph.specs.declared.relation.Relation.{Relation}
use Rattle.rules.specs.Cells.{cell, none}
use Rattle.rules.specs.Semantics.{is, related}

no_member : NoMember 0
no_member k = member-past 0 0 k (omega arith) (omega arith)

-- past the last event there is no set
pub cell-past : (sets : List EventSet) (a b : ℕ) → length sets ≤ a → cell sets a b ≡ false
cell-past sets a b h = ap (λ s. member s.bits b) (get_or_past sets a none h) ∙ no_member b

pub cell-fresh : (n : ℕ) (s : EventSet) → NoMember s.bits → (a b : ℕ) → cell (replicate n s) a b ≡ false
cell-fresh n s h a b =
    elim (cases_lt a n) [
      | inl l ↦ ap (λ x. member x.bits b) (get_or-replicate n a s none l) ∙ h b
      | inr l ↦ let long = length-replicate n s in cell-past (replicate n s) a b (omega arith)
    ]

related-more : (rs : List Relation) (i : ℕ) (k : Kind) (a b : ℕ) → i < length rs → related (drop i rs) k a b ≡ (is k a b (relation_at rs i) || related (drop (i + 1) rs) k a b)
unfolding related
related-more rs i k a b l = at_drop_more (λ l. related l k a b) rs i blank l

related-all : (rs : List Relation) (i : ℕ) (k : Kind) (a b : ℕ) → length rs ≤ i → related (drop i rs) k a b ≡ false
unfolding related
related-all rs i k a b l = at_drop_all (λ l. related l k a b) rs i l

-- one relation more is added, and those that are left with what the masks have make up all
module _ (rs : List Relation) (n i : ℕ) (k : Kind) (a b : ℕ) (had all : Bool) (before : (had || related (drop i rs) k a b) ≡ all) where
  pub add-one-more : (has : Bool) → n ≤ 64 → EndsIn n rs → i < length rs → has ≡ (had || (is k a b (relation_at rs i) && (ltb a 64 && ltb b 64))) → (has || related (drop (i + 1) rs) k a b) ≡ all
  add-one-more has few ends l now =
      let e = ends i l in
      let x = e.0 in
      let y = e.1 in
      let more = related-more rs i k a b l in
      grind (arith, nat_tests)

  pub all-added : length rs ≤ i → had ≡ all
  all-added l = let none_left = related-all rs i k a b l in grind (arith, nat_tests)
