-- The lowest pair that holds a message.
use Rattle.std.proofs.Common.{◌≡◌, ℕ, ◌+◌, ◌*◌, ◌/◌, ◌%◌, ◌<◌, Bool, true, false, List, [], is_some, Some, None, Option, refl, subst₂, arith}
use Rattle.lines.specs.declared.note.Note.{Note}
use Rattle.rules.specs.Lowest.{Tells, lowest-tells}
use Rattle.protocol.specs.Queues.{Queues}
use Rattle.protocol.specs.Sites.{Site}
use Rattle.protocol.specs.Turns.{holds_any, lowest_pair, waiting}
use Rattle.protocol.specs.Promise.{Still}

abbrev pub holds_at : Queues → ℕ → Bool
holds_at Q k = holds_any (Q (k / 8) (k % 8))

pub pair-tells : (Q : Queues) → Tells (holds_at Q) 64 (lowest_pair Q)
unfolding lowest_pair
pair-tells Q = lowest-tells (holds_at Q) 64

pub filled : (q : List (Option Note)) → holds_any q ≡ true → q ≡ [] → ⊥
filled q h e = grind arith

emptied : (q : List (Option Note)) → holds_any q ≡ false → q ≡ []
emptied q h = grind arith

pub none_below : (Q : Queues) → Tells (holds_at Q) 64 None → (a b : ℕ) → a < 8 → b < 8 → Q a b ≡ []
none_below Q t a b la lb =
    let h = t (8 * a + b) (omega arith) in
    let d : (8 * a + b) / 8 ≡ a = omega arith in
    let m : (8 * a + b) % 8 ≡ b = omega arith in
    emptied (Q a b) (subst₂ (λ x y. holds_any (Q x y) ≡ false) d m h)

none-tells : (p : ℕ → Bool) (n : ℕ) (o : Option ℕ) → is_some o ≡ false → Tells p n o → Tells p n None
none-tells p n None h t = t
none-tells p n (Some k) h t = absurd (grind arith)

pub none-waits : (S : Site) → waiting S ≡ false → (a b : ℕ) → a < 8 → b < 8 → S.waits a b ≡ []
none-waits S h = none_below S.waits (none-tells (holds_at S.waits) 64 (lowest_pair S.waits) h (pair-tells S.waits))

pub still-none : (S : Site) → Still S → waiting S ≡ false
still-none S still = go (lowest_pair S.waits) (pair-tells S.waits)
  where
    go : (x : Option ℕ) → Tells (holds_at S.waits) 64 x → is_some x ≡ false
    go None t = refl
    go (Some k) t = absurd (filled (S.waits (k / 8) (k % 8)) t.0 (still (k / 8) (k % 8)))
