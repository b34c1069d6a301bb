-- Tables that are filled from the front: what holds of the elements so far holds with one more.
use Rattle.std.proofs.Common.{◌≡◌, ℕ, ◌+◌, ◌<◌, ◌≤◌, List, [], ◌∷◌, ◌++◌, length, get_or, take, set, replicate, sym, ◌∙◌, subst, ⊎_elim, arith}
use Rattle.std.proofs.lemmas.List.{get_or_append_left, get_or_at, get_or-set_other, get_or-replicate, get_or_past, length_push, length-replicate, take_more_set}
use Rattle.std.proofs.lemmas.Bool.{cases_lt}

module _ {X : Type 0} (d : X) where
  pub push : (P : ℕ → X → Type 0) (xs : List X) (x : X) → ((i : ℕ) → i < length xs → P i (get_or xs i d)) → P (length xs) x → (i : ℕ) → i < length (xs ++ x ∷ []) → P i (get_or (xs ++ x ∷ []) i d)
  push P xs x below here i h =
      ⊎_elim
      (λ l. subst (P i) (sym (get_or_append_left xs (x ∷ []) d i l)) (below i l))
      (λ g.
      let e : length xs ≡ i = omega (arith, length_push xs x) in
      subst (P i) (sym (get_or_at xs x [] d i e)) (subst (λ k. P k x) e here))
      (cases_lt i (length xs))

  -- the same for the first n places of a table
  pub fill : (P : ℕ → X → Type 0) (xs : List X) (n : ℕ) (x : X) → n < length xs → ((i : ℕ) → i < length (take n xs) → P i (get_or (take n xs) i d)) → P (length (take n xs)) x → (i : ℕ) → i < length (take (n + 1) (set xs n x)) → P i (get_or (take (n + 1) (set xs n x)) i d)
  fill P xs n x room below here = subst (λ l. (i : ℕ) → i < length l → P i (get_or l i d)) (sym (take_more_set xs n x room)) (push P (take n xs) x below here)

  -- the places past the end stay as they were
  pub past : (xs : List X) (n : ℕ) (x : X) → ((i : ℕ) → n ≤ i → get_or xs i d ≡ d) → (i : ℕ) → n + 1 ≤ i → get_or (set xs n x) i d ≡ d
  past xs n x h i l = get_or-set_other xs n i x d (λ e. omega arith) ∙ h i (omega arith)

  -- a fresh table is the default everywhere
  pub fresh : (n i : ℕ) → get_or (replicate n d) i d ≡ d
  fresh n i = ⊎_elim (λ h. get_or-replicate n i d d h) (λ h. get_or_past (replicate n d) i d (subst (λ k. k ≤ i) (sym (length-replicate n d)) h)) (cases_lt i n)
