-- The rule of a release is right in the words of the graph's relations.
use Rattle.std.proofs.Common.{◌≡◌, ℕ, ◌<◌, Bool, true, false, not, length, Some, None, Decides, Option, sym, refl, ap, ◌∙◌, subst, inl, inr, arith}
use Rattle.std.proofs.lemmas.Bool.Decides.{nat_tests, Decides-eqb, Decides-and, Decides-or, Decides-not}
use Rattle.std.proofs.lemmas.Bool.{both_ways, cases_order, cond-true, cond-false, false≢true, false_from_ne_true, le-ltb, lt-ltb, not-true, not_from_false}
use Rattle.events.specs.Members.{named}
use Rattle.events.specs.declared.marks.Marks.{Marks}
use Rattle.graph.specs.Content.{Content, Sound}
use Rattle.graph.specs.declared.kind.Kind.TheVariants.{Condition, Milestone, Response, Include, Exclude}
use Rattle.graph.specs.declared.release.Release.{Release}
use Rattle.rules.specs.Answers.{accepted}
use Rattle.rules.specs.Semantics.{Relations, decided, decides, holding, leaves, locked, meant, read, unmet}
use Rattle.rules.specs.Words.{After, Enabled, HoldingMilestone, Links, Locks, LowestOf, NoneOf, RelatedIn, Right, Rightful, UnmetCondition}
use Rattle.rules.specs.declared.decision.Decision.{Decision}
use Rattle.rules.specs.declared.decision.Decision.TheVariants.{Accepted, Excluded, Unmet, Held}
use Rattle.rules.specs.Laws.{holding-within, locked-within, unmet-within}
use Rattle.rules.specs.Lowest.{Tells, lowest-tells}
use Rattle.rules.specs.Related.{Telling, Within, read-tells, read-within}

is_true : (b : Bool) → Decides b (b ≡ true)
is_true b = (λ h. h, λ h. h)

is_false : (b : Bool) → Decides (not b) (b ≡ false)
is_false b = (not-true b, not_from_false b)

flat : {P Q R : Type 0} (b : Bool) → Decides b (P × (Q × R)) → Decides b (P × Q × R)
flat b d = (λ t. let h = d.0 t in (h.0, h.1.0, h.1.1), λ h. d.1 (h.0, (h.1, h.2)))

named-tells : (n e k : ℕ) → e < n → Decides (named n e k) (k ≡ e)
named-tells n e k l = (λ t. grind (arith, nat_tests), λ q. grind (arith, nat_tests))

nothing-passes : (p : ℕ → Bool) (P : ℕ → Type 0) (n : ℕ) → ((a : ℕ) → Decides (p a) (P a)) → ((a : ℕ) → p a ≡ true → a < n) → Tells p n None → NoneOf P
nothing-passes p P n d w h a x = let t = (d a).1 x in both_ways _ (h a (w a t)) t

lowest-passes : (p : ℕ → Bool) (P : ℕ → Type 0) (n k : ℕ) → ((a : ℕ) → Decides (p a) (P a)) → Tells p n (Some k) → LowestOf P k
lowest-passes p P n k d h = ((d k).0 h.0, λ j l x. both_ways _ (h.2 j l) ((d j).1 x))

module _ (rel : Relations) (L : Links) (telling : Telling rel L) where
  locks-tells : (n e k : ℕ) → e < n → Decides (locked rel n e k) (Locks L e k)
  locks-tells n e k l =
      Decides-or _ _
      (Decides-or _ _
      (Decides-or _ _
      (Decides-or _ _ (Decides-or _ _ (named-tells n e k l) (telling Condition k e)) (telling Response e k))
      (telling Include e k))
      (telling Exclude e k))
      (telling Milestone k e)

  after-tells : (e k : ℕ) (x : Marks) → After L e k x (leaves rel e k x)
  after-tells e k x =
      record {
        executed = Decides-or _ _ (Decides-eqb k e) (is_true x.executed);
        pending = Decides-or _ _ (telling Response e k) (Decides-and _ _ (Decides-not _ (Decides-eqb k e)) (is_true x.pending));
        included = Decides-and _ _ (Decides-not _ (telling Exclude e k)) (Decides-or _ _ (telling Include e k) (is_true x.included));
      }

  unmet-tells : (e : ℕ) (M : ℕ → Marks) (a : ℕ) → Decides (unmet rel e M a) (UnmetCondition L e M a)
  unmet-tells e M a = flat _ (Decides-and _ _ (telling Condition a e) (Decides-and _ _ (is_true (M a).included) (is_false (M a).executed)))

  holding-tells : (e : ℕ) (M : ℕ → Marks) (a : ℕ) → Decides (holding rel e M a) (HoldingMilestone L e M a)
  holding-tells e M a = flat _ (Decides-and _ _ (telling Milestone a e) (Decides-and _ _ (is_true (M a).included) (is_true (M a).pending)))

module _ (rel : Relations) (L : Links) (telling : Telling rel L) (n : ℕ) (within : Within n rel) (e : ℕ) (M : ℕ → Marks) where
  right_by : (i : Bool) (c m : Option ℕ) → (M e).included ≡ i → Tells (unmet rel e M) n c → Tells (holding rel e M) n m → Right L e M (decided i e c m)
  right_by false c m i h k = (refl, i)
  right_by true (Some a) m i h k = (i, lowest-passes _ _ n a (unmet-tells rel L telling e M) h)
  right_by true None (Some a) i h k = (
    i,
    nothing-passes _ _ n (unmet-tells rel L telling e M) (unmet-within rel n within e M) h,
    lowest-passes _ _ n a (holding-tells rel L telling e M) k,
  )
  right_by true None None i h k = (
    i,
    nothing-passes _ _ n (unmet-tells rel L telling e M) (unmet-within rel n within e M) h,
    nothing-passes _ _ n (holding-tells rel L telling e M) (holding-within rel n within e M) k,
  )

  right : Right L e M (decides rel n e M)
  right = right_by (M e).included _ _ refl (lowest-tells (unmet rel e M) n) (lowest-tells (holding rel e M) n)

one-lowest : (P : ℕ → Type 0) (j k : ℕ) → LowestOf P j → LowestOf P k → j ≡ k
one-lowest P j k a b =
    elim (cases_order j k) [
      | inl q ↦ q
      | inr (inl l) ↦ absurd (b.1 j l a.0)
      | inr (inr l) ↦ absurd (a.1 k l b.0)
    ]

one_right : (L : Links) (e : ℕ) (M : ℕ → Marks) (c d : Decision) → Right L e M c → Right L e M d → c ≡ d
one_right L e M Accepted Accepted p q = refl
one_right L e M Accepted (Excluded k) p q = absurd (both_ways _ q.1 p.0)
one_right L e M Accepted (Unmet k) p q = absurd (p.1 k q.1.0)
one_right L e M Accepted (Held k) p q = absurd (p.2 k q.2.0)
one_right L e M (Excluded j) Accepted p q = absurd (both_ways _ p.1 q.0)
one_right L e M (Excluded j) (Excluded k) p q = ap Excluded (p.0 ∙ sym q.0)
one_right L e M (Excluded j) (Unmet k) p q = absurd (both_ways _ p.1 q.0)
one_right L e M (Excluded j) (Held k) p q = absurd (both_ways _ p.1 q.0)
one_right L e M (Unmet j) Accepted p q = absurd (q.1 j p.1.0)
one_right L e M (Unmet j) (Excluded k) p q = absurd (both_ways _ q.1 p.0)
one_right L e M (Unmet j) (Unmet k) p q = ap Unmet (one-lowest (UnmetCondition L e M) j k p.1 q.1)
one_right L e M (Unmet j) (Held k) p q = absurd (q.1 j p.1.0)
one_right L e M (Held j) Accepted p q = absurd (q.2 j p.2.0)
one_right L e M (Held j) (Excluded k) p q = absurd (both_ways _ q.1 p.0)
one_right L e M (Held j) (Unmet k) p q = absurd (p.1 k q.1.0)
one_right L e M (Held j) (Held k) p q = ap Held (one-lowest (HoldingMilestone L e M) j k p.2 q.2)

-- a right decision accepts exactly the enabled events
enables : (L : Links) (e : ℕ) (M : ℕ → Marks) (d : Decision) → Right L e M d → Decides (accepted d) (Enabled L e M)
enables L e M d r = (accepts d r, λ h. ap accepted (one_right L e M d Accepted r h))
  where
    accepts : (d : Decision) → Right L e M d → accepted d ≡ true → Enabled L e M
    accepts Accepted r t = r
    accepts (Excluded k) r t = absurd (false≢true t)
    accepts (Unmet k) r t = absurd (false≢true t)
    accepts (Held k) r t = absurd (false≢true t)

-- the rule of a release over a graph is right
pub rightful : (v : Release) (c : Content) → Sound c → Rightful v c (meant v c)
rightful v c s =
    let rel = read v c.relations in
    let L = RelatedIn v c.relations in
    let n = length c.events in
    let t = read-tells v c.relations in
    let w = read-within v n c.relations s.ends in
    record {
      stations = refl;
      events = refl;
      owner = λ e. refl;
      start = λ e. refl;
      decides = right rel L t n w;
      only = λ e M d h. one_right L e M d _ h (right rel L t n w e M);
      enables = λ e M. enables L e M _ (right rel L t n w e M);
      does = λ e M k l. subst (After L e k (M k)) (sym (cond-true _ _ _ (lt-ltb e n l))) (after-tells rel L t e k (M k));
      locks = locks-tells rel L t n;
      lacks_locks = λ e k l. false_from_ne_true _ (λ h. omega (arith, (locked-within rel n w e k h).0));
      lacks_effect = λ e M k l. cond-false _ _ _ (le-ltb e n l);
    }
