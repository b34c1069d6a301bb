-- The bytes of a pair after a message was put at its end.
use Rattle.std.proofs.Common.{◌≡◌, ℕ, ◌+◌, ◌*◌, ◌<◌, ◌≤◌, ◌⊎◌, List, [], ◌∷◌, ◌++◌, length, get_or, set, ap, ◌∙◌, ap₂, sym, inl, inr, zero-add, arith, get_or-set_other, get_or-set_same}
use Rattle.lines.specs.declared.message.Message.{Message}
use Rattle.spool.specs.Slots.{Slot, message_at, messages, slot_at}
use Rattle.spool.proofs.Parts.{after-part, before-part, length-put, within-part}
use Rattle.spool.proofs.Slots.{message-eq, messages-moved, messages-more}
use borrow.Rule.Slice.PartMut.{put_mid}

-- the count is one more, the message stands after the others, and the other bytes are as they were
pub record Pushed (old new : List ℕ) (m : Message) : Type 0 where
  pub count : get_or new 0 0 ≡ get_or old 0 0 + 1
  pub last : message_at new (1 + 3 * get_or old 0 0) ≡ m
  pub others : (k : ℕ) → 1 ≤ k → (k < 1 + 3 * get_or old 0 0) ⊎ (4 + 3 * get_or old 0 0 ≤ k) → get_or new k 0 ≡ get_or old k 0

-- the three bytes after the others are those of m
pub pushed : (old : List ℕ) (n : ℕ) (ys : List ℕ) (m : Message) → length old ≡ 13 → get_or old 0 0 < 4 → n ≡ 3 → ys ≡ m.kind ∷ m.event ∷ m.extra ∷ []
    → Pushed old (set (put_mid (1 + 3 * get_or old 0 0) n old ys) 0 (get_or old 0 0 + 1)) m
pushed old n ys m l f three e =
    let c = get_or old 0 0 in
    let a = 1 + 3 * c in
    let new = put_mid a n old ys in
    let long : length ys ≡ n = ap length e ∙ sym three in
    let all = length-put a n old ys (omega arith) long in
    let byte : (j : ℕ) → j < 3 → get_or (set new 0 (c + 1)) (a + j) 0 ≡ get_or (m.kind ∷ m.event ∷ m.extra ∷ []) j 0 =
    λ j h. get_or-set_other new 0 (a + j) (c + 1) 0 (λ q. omega arith) ∙ within-part a n old ys (a + j) (omega arith) long (omega arith) (omega arith)
    ∙ ap₂ (λ l x. get_or l x 0) e (omega arith) in
    record {
      count = get_or-set_same new 0 (c + 1) 0 (omega arith);
      last = message-eq (ap (λ x. get_or (set new 0 (c + 1)) x 0) (omega arith) ∙ byte 0 (omega arith)) (byte 1 (omega arith)) (byte 2 (omega arith));
      others = λ k g o. get_or-set_other new 0 k (c + 1) 0 (λ q. omega arith)
          ∙ elim o [
            | inl x ↦ before-part a n old ys k (omega arith) x
            | inr x ↦ after-part a n old ys k (omega arith) long (omega arith)
          ];
    }

module _ (old new : List ℕ) (m : Message) (p : Pushed old new m) where
  pub pushed-slot : slot_at new 0 ≡ slot_at old 0 ++ m ∷ []
  pushed-slot =
      let n = get_or old 0 0 in
      ap (λ x. messages x new 1) p.count ∙ messages-more n new 1
      ∙ ap₂ (λ x y. x ++ y ∷ [])
      (messages-moved n new old 1 1 (λ k h. p.others (1 + k) (omega arith) (inl (omega arith))))
      p.last

  pub pushed-laid : get_or old 0 0 < 4 → Slot old 0 → Slot new 0
  pushed-laid l s =
      let c = p.count in
      record { few = omega arith; zeros = λ k g h. ap (λ y. get_or new y 0) (zero-add k) ∙ p.others k (omega arith) (inr (omega arith)) ∙ ap (λ y. get_or old y 0) (sym (zero-add k)) ∙ s.zeros k (omega arith) h }
