-- The laws of runs.
use Rattle.std.proofs.Common.{◌≡◌, ℕ, zero, suc, ◌+◌, ◌<◌, ◌≤◌, Bool, true, false, cond, ◌⊎◌, List, [], ◌∷◌, length, get_or, drop, Decides, sym, refl, ap, ◌∙◌, subst, inl, inr, arith}
use Rattle.std.proofs.lemmas.List.{at_drop_all, at_drop_more}
use Rattle.std.proofs.lemmas.Bool.{and_parts, ltb-true}
use Rattle.std.proofs.lemmas.Bool.Decides.{Decides-like}
use Rattle.events.specs.declared.marks.Marks.{Marks}
use Rattle.graph.specs.Content.{Content}
use Rattle.graph.specs.declared.kind.Kind.TheVariants.{Response}
use Rattle.graph.specs.declared.release.Release.{Release}
use Rattle.rules.specs.Rule.{Meaning}
use Rattle.tables.specs.Runs.{LeftPending, PendingLasts, RunFolds, accepts, after, doing, done, next}
use Rattle.rules.specs.Words.{RelatedIn, Rightful}

-- one request, and then the events that are done later
fold_step : (R : Meaning) (M : ℕ → Marks) (e : ℕ) (later : List ℕ) (b : Bool) → doing R (λ k. cond b (R.does e M k) (M k)) later ≡ doing R M (cond b (e ∷ later) later)
unfolding doing
fold_step R M e later true = refl
fold_step R M e later false = refl

pub run-folds : RunFolds
unfolding after doing done
run-folds R M [] = refl
run-folds R M (e ∷ es) = run-folds R (next R M e) es ∙ fold_step R M e (done R (next R M e) es) (accepts R M e)

-- the accepted events are events of the rule
done-step : (n e : ℕ) (later : List ℕ) (b : Bool) → (b ≡ true → e < n) → ((j : ℕ) → j < length later → get_or later j 0 < n) → (j : ℕ) → j < length (cond b (e ∷ later) later) → get_or (cond b (e ∷ later) later) j 0 < n
done-step n e later true h below zero l = h refl
done-step n e later true h below (suc j) l = below j (omega arith)
done-step n e later false h below j l = below j l

done_below : (R : Meaning) (M : ℕ → Marks) (es : List ℕ) (j : ℕ) → j < length (done R M es) → get_or (done R M es) j 0 < R.events
unfolding done
done_below R M [] j l = absurd (omega arith)
done_below R M (e ∷ es) j l =
    done-step R.events e (done R (next R M e) es) (accepts R M e) (λ h. ltb-true e R.events (and_parts _ _ h).0) (done_below R (next R M e) es) j l

-- ---- what is left pending, one event after another

module _ (Responds : ℕ → ℕ → Type 0) (k : ℕ) where
  none-pending : (Before : Type 0) → LeftPending Responds Before [] k → Before
  none-pending Before (inl h) = h.0
  none-pending Before (inr h) = absurd (omega (arith, h.1))

  first-in : (Before : Type 0) (d : ℕ) (ds : List ℕ) → LeftPending Responds (Responds d k ⊎ ((k ≡ d → ⊥) × Before)) ds k → LeftPending Responds Before (d ∷ ds) k
  first-in Before d ds (inl (inl r, absent)) =
      inr (0, omega arith, r, elim [ zero ↦ λ l m q. omega arith | suc j ↦ λ l m. absent j (omega arith) ])
  first-in Before d ds (inl (inr (other, before), absent)) =
      inl (before, elim [ zero ↦ λ l q. other (sym q) | suc j ↦ λ l. absent j (omega arith) ])
  first-in Before d ds (inr (i, l, r, last)) =
      inr (suc i, omega arith, r, elim [ zero ↦ λ l m q. omega arith | suc j ↦ λ l m. last j (omega arith) (omega arith) ])

  first_out : (Before : Type 0) (d : ℕ) (ds : List ℕ) → LeftPending Responds Before (d ∷ ds) k → LeftPending Responds (Responds d k ⊎ ((k ≡ d → ⊥) × Before)) ds k
  first_out Before d ds (inl (before, absent)) =
      inl (inr (λ q. absent 0 (omega arith) (sym q), before), λ j l. absent (suc j) (omega arith))
  first_out Before d ds (inr (zero, l, r, last)) = inl (inl r, λ j m. last (suc j) (omega arith) (omega arith))
  first_out Before d ds (inr (suc i, l, r, last)) =
      inr (i, omega arith, r, λ j a b. last (suc j) (omega arith) (omega arith))

  same-before : (P Q : Type 0) → (P → Q) → (ds : List ℕ) → LeftPending Responds P ds k → LeftPending Responds Q ds k
  same-before P Q f ds (inl h) = inl (f h.0, h.1)
  same-before P Q f ds (inr h) = inr h

pending-by : (v : Release) (c : Content) (R : Meaning) → Rightful v c R → (k : ℕ) (M : ℕ → Marks) (ds : List ℕ) → ((j : ℕ) → j < length ds → get_or ds j 0 < R.events) → Decides (doing R M ds k).pending (LeftPending (RelatedIn v c.relations Response) ((M k).pending ≡ true) ds k)
unfolding doing
pending-by v c R right k M [] below = (λ t. inl (t, λ j l q. omega arith), none-pending (RelatedIn v c.relations Response) k _)
pending-by v c R right k M (d ∷ ds) below =
    let Resp = RelatedIn v c.relations Response in
    let now = (right.does d M k (below 0 (omega arith))).pending in
    Decides-like _
    (λ h. first-in Resp k _ d ds (same-before Resp k _ _ now.0 ds h))
    (λ h. same-before Resp k _ _ now.1 ds (first_out Resp k _ d ds h))
    (pending-by v c R right k (R.does d M) ds (λ j l. below (suc j) (omega arith)))

pub pending-lasts : PendingLasts
pending-lasts v c R right M es k =
    subst (λ N. Decides (N k).pending (LeftPending (RelatedIn v c.relations Response) ((M k).pending ≡ true) (done R M es) k))
    (sym (run-folds R M es))
    (pending-by v c R right k M (done R M es) (done_below R M es))

-- ---- a run in a loop

module _ (R : Meaning) (M : ℕ → Marks) (es : List ℕ) (i : ℕ) (end : ℕ → Marks) (rest : after R M (drop i es) ≡ end) where
  pub after_more : (S : Meaning) (N : ℕ → Marks) → S ≡ R → i < length es → ((k : ℕ) → N k ≡ next S M (get_or es i 0) k) → after R N (drop (i + 1) es) ≡ end
  unfolding after
  after_more S N same l step =
      ap (λ (X : ℕ → Marks). after R X (drop (i + 1) es)) (λ t k. (step k ∙ ap (λ Q. next Q M (get_or es i 0) k) same) t)
      ∙ sym (at_drop_more (after R M) es i 0 l) ∙ rest

  pub after-all : length es ≤ i → M ≡ end
  unfolding after
  after-all l = sym (at_drop_all (after R M) es i l) ∙ rest
