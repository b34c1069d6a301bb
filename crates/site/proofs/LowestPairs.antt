-- The lowest pair that holds a message, found by counts.
use Rattle.std.proofs.Common.{◌≡◌, ℕ, ◌+◌, ◌*◌, ◌/◌, ◌%◌, ◌<◌, ◌≤◌, true, false, List, [], ◌∷◌, map, length, is_some, Some, None, Option, sym, refl, subst₂, arith, MatchOption}
use Rattle.lines.specs.Lists.{Lists}
use Rattle.lines.specs.Messages.{reads}
use Rattle.lines.specs.declared.message.Message.{Message}
use Rattle.rules.specs.Lowest.{lowest-is}
use Rattle.protocol.proofs.Pairs.{pair-tells}
use Rattle.stations.proofs.Lowests.{none_told}
use Rattle.protocol.specs.Queues.{Queues, queues}
use Rattle.protocol.specs.Turns.{holds_any, lowest_pair}

some_read : (q : List Message) → 0 < length q → holds_any (map reads q) ≡ true
some_read [] h = absurd (omega arith)
some_read (m ∷ q) h = refl

none_read : (q : List Message) → length q ≤ 0 → holds_any (map reads q) ≡ false
none_read [] h = refl
none_read (m ∷ q) h = absurd (omega arith)

-- no message waits on the pairs before the place n
abbrev pub NoneBefore : Lists → ℕ → Type 0
NoneBefore W n = (k : ℕ) → k < n → length (W (k / 8) (k % 8)) ≤ 0

module _ (W : Lists) where
  pub none-lowest : NoneBefore W 64 → lowest_pair (queues W) ≡ None
  none-lowest h = none_told _ 64 (lowest_pair (queues W)) (pair-tells (queues W)) (λ k l. none_read (W (k / 8) (k % 8)) (h k l))

  pub found : (k : ℕ) → k < 64 → 0 < length (W (k / 8) (k % 8)) → NoneBefore W k → lowest_pair (queues W) ≡ Some k
  unfolding lowest_pair
  found k l h before = lowest-is (λ j. holds_any (queues W (j / 8) (j % 8))) 64 k (some_read (W (k / 8) (k % 8)) h) l (λ j m. none_read (W (j / 8) (j % 8)) (before j m))

  -- the pairs before the pair a, b, and then that pair
  pub found-at : (a b : ℕ) → a < 8 → b < 8 → 0 < length (W a b) → NoneBefore W (8 * a + b) → lowest_pair (queues W) ≡ Some (8 * a + b)
  found-at a b l m h before =
      let d : (8 * a + b) / 8 ≡ a = omega arith in
      let e : (8 * a + b) % 8 ≡ b = omega arith in
      found (8 * a + b) (omega arith) (subst₂ (λ x y. 0 < length (W x y)) (sym d) (sym e) h) before

-- no pair was found, so none holds a message
pub none_found : {X : Type 0} (F : X → Type 0) (Q : Queues) (o : Option X) → MatchOption o (lowest_pair Q ≡ None) F → false ≡ is_some o → lowest_pair Q ≡ None
none_found F Q None h e = h
none_found F Q (Some x) h e = let z : ◌≡◌ {A = ℕ} 0 1 = cc in absurd (omega arith)
