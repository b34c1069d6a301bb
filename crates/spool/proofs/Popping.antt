-- The bytes of a pair after its oldest message was taken.
use Rattle.std.proofs.Common.{◌≡◌, ℕ, zero, suc, ◌+◌, ◌-◌, ◌<◌, ◌≤◌, List, ◌∷◌, get_or, set, take, drop, replicate, length, sym, refl, ap, ◌∙◌, inl, inr, zero-add, arith, get_or-set_other, get_or-set_same}
use Rattle.std.proofs.lemmas.Bool.{cases_lt}
use Rattle.std.proofs.lemmas.List.{get_or-replicate, places}
use borrow.Rule.Slice.PartMut.{put_mid}
use Rattle.spool.specs.Slots.{Slot, message_at, messages, slot_at}
use Rattle.spool.proofs.Parts.{before-part, length-put, within-part}
use Rattle.spool.proofs.Slots.{messages-moved}

-- the count is one less, the bytes stand three places lower, and zeros follow
pub record Popped (old new : List ℕ) : Type 0 where
  pub count : get_or new 0 0 ≡ get_or old 0 0 - 1
  pub moved : (k : ℕ) → 1 ≤ k → k < 10 → get_or new k 0 ≡ get_or old (k + 3) 0
  pub cleared : (k : ℕ) → 10 ≤ k → k < 13 → get_or new k 0 ≡ 0

-- mid is old with its bytes from 4 on copied to 1, zs are the zeros from 10 on
pub popped : (old mid zs : List ℕ) (n : ℕ) → length old ≡ 13 → length mid ≡ 13 → n ≡ 3 → zs ≡ replicate (length (take n (drop 10 mid))) 0
    → ((k : ℕ) → 1 ≤ k → k < 10 → get_or mid k 0 ≡ get_or old (k + 3) 0) → Popped old (set (put_mid 10 n mid zs) 0 (get_or old 0 0 - 1))
popped old mid zs n l m three z h =
    let new = put_mid 10 n mid zs in
    let part : length (take n (drop 10 mid)) ≡ 3 = grind (arith, places) in
    let long : length zs ≡ n = grind (arith, places) in
    let all = length-put 10 n mid zs (omega arith) long in
    let v = get_or old 0 0 - 1 in
    record {
      count = get_or-set_same new 0 v 0 (omega arith);
      moved = λ k g f. get_or-set_other new 0 k v 0 (λ e. omega arith) ∙ before-part 10 n mid zs k (omega arith) f ∙ h k g f;
      cleared = λ k g f. get_or-set_other new 0 k v 0 (λ e. omega arith) ∙ within-part 10 n mid zs k (omega arith) long g (omega arith)
          ∙ ap (λ l. get_or l (k - 10) 0) z ∙ get_or-replicate _ (k - 10) 0 0 (omega arith);
    }

messages-first : (n : ℕ) (bs : List ℕ) (i : ℕ) → (n ≡ 0 → ⊥) → messages n bs i ≡ message_at bs i ∷ messages (n - 1) bs (i + 3)
unfolding messages
messages-first zero bs i h = absurd (h refl)
messages-first (suc n) bs i h = ap (λ x. message_at bs i ∷ messages x bs (i + 3)) (omega arith)

module _ (old new : List ℕ) (p : Popped old new) (s : Slot old 0) (some : get_or old 0 0 ≡ 0 → ⊥) where
  pub popped-slot : slot_at old 0 ≡ message_at old 1 ∷ slot_at new 0
  popped-slot =
      let f = s.few in
      let n = get_or old 0 0 in
      messages-first n old 1 some
      ∙ ap (λ r. message_at old 1 ∷ r)
      (messages-moved (n - 1) old new 4 1
      (λ k h. ap (λ x. get_or old x 0) (omega arith) ∙ sym (p.moved (1 + k) (omega arith) (omega arith)))
      ∙ ap (λ x. messages x new 1) (sym p.count))

  pub popped-laid : Slot new 0
  popped-laid =
      let f = s.few in
      let c = p.count in
      record {
        few = omega arith;
        zeros = λ k g h. elim (cases_lt k 10) [
          | inl x ↦ ap (λ y. get_or new y 0) (zero-add k) ∙ p.moved k (omega arith) x ∙ ap (λ y. get_or old y 0) (sym (zero-add (k + 3))) ∙ s.zeros (k + 3) (omega arith) (omega arith)
          | inr x ↦ ap (λ y. get_or new y 0) (zero-add k) ∙ p.cleared k x h
        ];
      }
