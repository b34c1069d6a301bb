-- The bytes of pairs: what they say, and that a change of one pair leaves the others.
use Rattle.std.proofs.Common.{◌≡◌, ℕ, zero, suc, ◌+◌, ◌*◌, ◌<◌, ◌≤◌, Bool, true, false, cond, ◌⊎◌, List, [], ◌∷◌, ◌++◌, length, get_or, take, drop, sym, refl, ap, ◌∙◌, subst, ap₂, inl, inr, add-zero, arith}
use Rattle.std.proofs.lemmas.Bool.{cases_eq, cases_lt}
use Rattle.std.proofs.lemmas.List.{places}
use borrow.Rule.Slice.PartMut.{put_mid}
use Rattle.lines.proofs.Placing.{Elsewhere, stations}
use Rattle.lines.specs.Lists.{inside}
use Rattle.lines.specs.declared.message.Message.{Message}
use Rattle.spool.proofs.Parts.{after-part, before-part, length-put, within-part}
use Rattle.spool.specs.Slots.{Cleared, Laid, SameAround, SameBeyond, Slot, message_at, messages, slot_at, slots, spooled}

pub length-messages : (n : ℕ) (bs : List ℕ) (i : ℕ) → length (messages n bs i) ≡ n
unfolding messages
length-messages zero bs i = refl
length-messages (suc n) bs i = ap suc (length-messages n bs (i + 3))

pub message-eq : {k e x k' e' x' : ℕ} → k ≡ k' → e ≡ e' → x ≡ x' → ◌≡◌ {A = Message} record { kind = k; event = e; extra = x } record { kind = k'; event = e'; extra = x' }
message-eq p q r = cc

-- messages depend on their own bytes, wherever they lie
pub messages-moved : (n : ℕ) (bs cs : List ℕ) (i j : ℕ) → ((k : ℕ) → k < 3 * n → get_or bs (i + k) 0 ≡ get_or cs (j + k) 0) → messages n bs i ≡ messages n cs j
unfolding messages
messages-moved zero bs cs i j h = refl
messages-moved (suc n) bs cs i j h =
    ap₂ (λ a l. a ∷ l)
    (message-eq (ap (λ x. get_or bs x 0) (sym (add-zero i)) ∙ h 0 (omega arith) ∙ ap (λ x. get_or cs x 0) (add-zero j)) (h 1 (omega arith)) (h 2 (omega arith)))
    (messages-moved n bs cs (i + 3) (j + 3) (λ k l. ap (λ x. get_or bs x 0) (omega arith) ∙ h (3 + k) (omega arith) ∙ ap (λ x. get_or cs x 0) (omega arith)))

pub messages-more : (n : ℕ) (bs : List ℕ) (i : ℕ) → messages (n + 1) bs i ≡ messages n bs i ++ message_at bs (i + 3 * n) ∷ []
unfolding messages
messages-more zero bs i = ap (λ x. message_at bs x ∷ []) (omega arith)
messages-more (suc n) bs i =
    let e : suc n + 1 ≡ suc (n + 1) = omega arith in
    ap (λ x. messages x bs i) e
    ∙ ap (λ l. message_at bs i ∷ l) (messages-more n bs (i + 3) ∙ ap (λ x. messages n bs (i + 3) ++ message_at bs x ∷ []) (omega arith))

-- the 13 bytes from j are those that stand from i
abbrev pub Alike : List ℕ → ℕ → List ℕ → ℕ → Type 0
Alike bs i cs j = (k : ℕ) → k < 13 → get_or cs (j + k) 0 ≡ get_or bs (i + k) 0

-- such a pair has the same messages and keeps its layout
module _ (bs cs : List ℕ) (i j : ℕ) (h : Alike bs i cs j) where
  count_same : get_or cs j 0 ≡ get_or bs i 0
  count_same = ap (λ x. get_or cs x 0) (sym (add-zero j)) ∙ h 0 (omega arith) ∙ ap (λ x. get_or bs x 0) (add-zero i)

  pub slot_kept : get_or bs i 0 ≤ 4 → slot_at cs j ≡ slot_at bs i
  slot_kept f =
      let e = count_same in
      messages-moved (get_or cs j 0) cs bs (j + 1) (i + 1)
      (λ k l. ap (λ x. get_or cs x 0) (omega arith) ∙ h (1 + k) (omega arith) ∙ ap (λ x. get_or bs x 0) (omega arith))
      ∙ ap (λ n. messages n bs (i + 1)) e

  pub slot_same : Slot bs i → Slot cs j
  slot_same s =
      let e = count_same in
      record { few = omega (arith, s.few); zeros = λ k l m. h k m ∙ s.zeros k (omega arith) m }

-- another pair's bytes lie outside those of the pair p
pub far : (q p k : ℕ) → k < 13 → (q ≡ p → ⊥) → (13 * q + k < 13 * p) ⊎ (13 * p + 13 ≤ 13 * q + k)
far q p k l n = elim (cases_lt q p) [ inl x ↦ inl (omega arith) | inr x ↦ inr (omega arith) ]

-- a change within the 13 bytes of the pair p
module _ (bs cs : List ℕ) (p : ℕ) (h : SameAround (13 * p) bs cs) where
  laid_kept : p < 64 → Laid bs → length cs ≡ length bs → Slot cs (13 * p) → Laid cs
  laid_kept l s n t =
      record {
        room = omega (arith, s.room);
        slots = λ q m. elim (cases_eq q p) [
          | inl e ↦ subst (λ x. Slot cs (13 * x)) (sym e) t
          | inr d ↦ slot_same bs cs (13 * q) (13 * q) (λ k f. h (13 * q + k) (far q p k f d)) (s.slots q m)
        ];
      }

  beyond-kept : p < 64 → SameBeyond bs cs
  beyond-kept l k m = h k (inr (omega arith))

  elsewhere : Laid bs → Elsewhere (slots bs) (slots cs) p
  elsewhere s q l n = slot_kept bs cs (13 * q) (13 * q) (λ k f. h (13 * q + k) (far q p k f n)) (s.slots q l).few

-- ---- the 13 bytes of the pair p as a slice of their own, n of them, and what is written there

module _ (bs : List ℕ) (p n : ℕ) (s : Laid bs) (l : p < 64) (e : n ≡ 13) where
  alike : Alike bs (13 * p) (take n (drop (13 * p) bs)) 0
  alike k h = let r = s.room in grind (arith, places)

  pub length-part : length (take n (drop (13 * p) bs)) ≡ 13
  length-part = let r = s.room in grind (arith, places)

  pub part_laid : Slot (take n (drop (13 * p) bs)) 0
  part_laid = slot_same bs (take n (drop (13 * p) bs)) (13 * p) 0 alike (s.slots p l)

  pub part_kept : slot_at (take n (drop (13 * p) bs)) 0 ≡ slots bs p
  part_kept = slot_kept bs (take n (drop (13 * p) bs)) (13 * p) 0 alike (s.slots p l).few

  module _ (cs : List ℕ) (m : length cs ≡ length (take n (drop (13 * p) bs))) (t : Slot cs 0) where
    long : length cs ≡ n
    long = m ∙ length-part ∙ sym e

    around : SameAround (13 * p) bs (put_mid (13 * p) n bs cs)
    around k o =
        let r = s.room in
        elim o [
          | inl x ↦ before-part (13 * p) n bs cs k (omega arith) x
          | inr x ↦ after-part (13 * p) n bs cs k (omega arith) long (omega arith)
        ]

    put-alike : Alike cs 0 (put_mid (13 * p) n bs cs) (13 * p)
    put-alike k h =
        let r = s.room in
        within-part (13 * p) n bs cs (13 * p + k) (omega arith) long (omega arith) (omega arith) ∙ ap (λ x. get_or cs x 0) (omega arith)

    pub put-laid : Laid (put_mid (13 * p) n bs cs)
    put-laid =
        let r = s.room in
        laid_kept bs (put_mid (13 * p) n bs cs) p around l s (length-put (13 * p) n bs cs (omega arith) long)
        (slot_same cs (put_mid (13 * p) n bs cs) 0 (13 * p) put-alike t)

    pub put-beyond : SameBeyond bs (put_mid (13 * p) n bs cs)
    put-beyond = beyond-kept bs (put_mid (13 * p) n bs cs) p around l

    pub put-elsewhere : Elsewhere (slots bs) (slots (put_mid (13 * p) n bs cs)) p
    put-elsewhere = elsewhere bs (put_mid (13 * p) n bs cs) p around s

    pub put-list : slots (put_mid (13 * p) n bs cs) p ≡ slot_at cs 0
    put-list = slot_kept cs (put_mid (13 * p) n bs cs) 0 (13 * p) put-alike t.few

-- ---- cleared memory

pub zeroed-laid : (bs : List ℕ) → 832 ≤ length bs → Cleared bs → Laid bs
zeroed-laid bs l h =
    record {
      room = l;
      slots = λ p m. record { few = omega (arith, h (13 * p) (omega arith)); zeros = λ k f g. h (13 * p + k) (omega arith) };
    }

pub empty-slot : (bs : List ℕ) (i : ℕ) → get_or bs i 0 ≡ 0 → slot_at bs i ≡ []
unfolding messages
empty-slot bs i h = ap (λ n. messages n bs (i + 1)) h

pub cleared : (bs : List ℕ) → Cleared bs → (a b : ℕ) → spooled bs a b ≡ []
cleared bs h a b = go (inside a b) refl
  where
    go : (i : Bool) → inside a b ≡ i → cond i (slot_at bs (13 * (8 * a + b))) [] ≡ []
    go true u = let w = stations a b u in empty-slot bs (13 * (8 * a + b)) (h (13 * (8 * a + b)) (omega arith))
    go false u = refl
