-- The bytes of a pair are exactly its list, zeros included.
use Rattle.std.proofs.Common.{◌≡◌, ℕ, zero, suc, ◌+◌, ◌-◌, ◌*◌, ◌<◌, ◌≤◌, List, [], ◌∷◌, ◌++◌, length, get_or, take, drop, replicate, sym, refl, ap, ◌∙◌, ap₂, arith}
use Rattle.std.proofs.lemmas.List.{drop_more}
use Rattle.lines.proofs.Placing.{at_place, stations}
use Rattle.spool.specs.Slots.{ExactLayout, Slot, bytes_of, layout, messages, slots}
use Rattle.spool.proofs.Slots.{length-messages}

-- n bytes from i, one after another
part : ℕ → List ℕ → ℕ → List ℕ
part zero bs i = []
part (suc n) bs i = get_or bs i 0 ∷ part n bs (i + 1)

part-is : (n : ℕ) (bs : List ℕ) (i : ℕ) → i + n ≤ length bs → take n (drop i bs) ≡ part n bs i
unfolding part
part-is zero bs i h = refl
part-is (suc n) bs i h = ap (take (suc n)) (drop_more bs i 0 (omega arith)) ∙ ap (λ l. get_or bs i 0 ∷ l) (part-is n bs (i + 1) (omega arith))

part-zeros : (n : ℕ) (bs : List ℕ) (i : ℕ) → ((k : ℕ) → k < n → get_or bs (i + k) 0 ≡ 0) → part n bs i ≡ replicate n 0
unfolding part
part-zeros zero bs i h = refl
part-zeros (suc n) bs i h =
    ap₂ (λ x l. x ∷ l) (ap (λ x. get_or bs x 0) (omega arith) ∙ h 0 (omega arith))
    (part-zeros n bs (i + 1) (λ k l. ap (λ x. get_or bs x 0) (omega arith) ∙ h (k + 1) (omega arith)))

-- messages, and what follows them
part-messages : (n m : ℕ) (bs : List ℕ) (i : ℕ) → part (3 * n + m) bs i ≡ bytes_of (messages n bs i) ++ part m bs (i + 3 * n)
unfolding part messages
part-messages zero m bs i = ap₂ (λ x y. part x bs y) (omega arith) (omega arith)
part-messages (suc n) m bs i =
    let e : 3 * suc n + m ≡ suc (suc (suc (3 * n + m))) = omega arith in
    let f : i + 1 + 1 + 1 ≡ i + 3 = omega arith in
    let g : i + 3 + 3 * n ≡ i + 3 * suc n = omega arith in
    let two : i + 1 + 1 ≡ i + 2 = omega arith in
    ap (λ x. part x bs i) e
    ∙ ap₂ (λ x l. get_or bs i 0 ∷ get_or bs (i + 1) 0 ∷ get_or bs x 0 ∷ l) two
    (ap (part (3 * n + m) bs) f ∙ part-messages n m bs (i + 3) ∙ ap (λ x. bytes_of (messages n bs (i + 3)) ++ part m bs x) g)

slot-exact : (bs : List ℕ) (i n : ℕ) → n ≡ get_or bs i 0 → Slot bs i → i + 13 ≤ length bs → take 13 (drop i bs) ≡ layout (messages n bs (i + 1))
unfolding part
slot-exact bs i n e s l =
    let f = s.few in
    let c : 12 ≡ 3 * n + (12 - 3 * n) = omega arith in
    part-is 13 bs i l
    ∙ ap₂ (λ x r. x ∷ r) (sym e ∙ sym (length-messages n bs (i + 1)))
    (ap (λ x. part x bs (i + 1)) c ∙ part-messages n (12 - 3 * n) bs (i + 1)
    ∙ ap (λ z. bytes_of (messages n bs (i + 1)) ++ z)
    (part-zeros (12 - 3 * n) bs (i + 1 + 3 * n) (λ k h. ap (λ x. get_or bs x 0) (omega arith) ∙ s.zeros (1 + 3 * n + k) (omega arith) (omega arith))
    ∙ ap (λ x. replicate (12 - 3 * x) 0) (sym (length-messages n bs (i + 1)))))

pub exact-layout : ExactLayout
exact-layout bs s a b t =
    let w = stations a b t in
    let r = s.room in
    slot-exact bs (13 * (8 * a + b)) (get_or bs (13 * (8 * a + b)) 0) refl (s.slots (8 * a + b) (omega arith)) (omega arith)
    ∙ ap layout (sym (at_place (slots bs) a b (8 * a + b) t refl))
