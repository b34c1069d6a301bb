-- The locks of a station are freed, one event after another.
use Rattle.std.proofs.Common.{◌≡◌, ℕ, zero, suc, ◌+◌, ◌<◌, ◌≤◌, Bool, true, false, cond, not, ◌&&◌, eqb, ltb, List, [], ◌++◌, length, Some, None, Option, sym, refl, ap, ◌∙◌, ap₂, inl, inr, add-one, arith}
use mathlib.Core.Path.{fun_ext}
use Rattle.std.proofs.lemmas.List.{append-nil}
use Rattle.std.proofs.lemmas.Bool.{and_from, and_left, and_right, cases_eq, ne_eqb}
use Rattle.std.proofs.lemmas.Bool.Decides.{nat_tests}
use Rattle.events.specs.Members.{LowestMember, NoMember, member}
use Rattle.events.specs.declared.marks.Marks.{Marks}
use Rattle.lines.specs.declared.note.Note.{Note}
use Rattle.lines.specs.declared.note.Note.TheVariants.{Grant}
use Rattle.protocol.specs.Station.{Station, frees, hand, hands, is, marked, next, owns, settled}
use Rattle.protocol.specs.declared.delivery.Post.{Post}
use Rattle.rules.specs.Lowest.{lowest-same}
use Rattle.rules.specs.Rule.{Meaning}
use Rattle.stations.specs.Locks.{freed, passed_on, remarked}

-- ---- the locks below n are freed, and then that of n

not-self : (n : ℕ) → ltb n n ≡ false
not-self n = grind (arith, nat_tests)

is-self : (n : ℕ) → eqb n n ≡ true
is-self n = grind (arith, nat_tests)

below_more : (n : ℕ) → ltb n (n + 1) ≡ true
below_more n = grind (arith, nat_tests)

below-same : (g n : ℕ) → (g ≡ n → ⊥) → ltb g (n + 1) ≡ ltb g n
below-same g n ne = grind (arith, nat_tests)

module _ (p : ℕ → Bool) (S : Station) (n : ℕ) where
  next-same : next (freed p S n) n ≡ next S n
  next-same = lowest-same _ _ 8 (λ w. let t = not-self n in rw t)

  pub holder-same : (T : Station) → T ≡ freed p S n → T.holder n ≡ S.holder n
  holder-same T e = let h : (freed p S n).holder n ≡ S.holder n = (let t = not-self n in rw t) in ap (λ x. x.holder n) e ∙ h

  free-holder : (g : ℕ) → p n ≡ true → (passed_on (freed p S n) n).holder g ≡ (freed p S (n + 1)).holder g
  free-holder g t =
      elim (cases_eq g n) [
        | inl q ↦ let a = is-self n in let b = below_more n in rw (q, a, b, t) next-same
        | inr ne ↦ let a = ne_eqb g n ne in let b = below-same g n ne in rw (a, b)
      ]

  free-waiting : (g w : ℕ) → p n ≡ true → (passed_on (freed p S n) n).waiting g w ≡ (freed p S (n + 1)).waiting g w
  free-waiting g w t =
      elim (cases_eq g n) [
        | inl q ↦
            let a = is-self n in
            let b = below_more n in
            let z = not-self n in rw (q, a, b, z, t) (ap (λ x. cond (is x w) false (S.waiting n w)) next-same)
        | inr ne ↦ let a = ne_eqb g n ne in let b = below-same g n ne in rw (a, b)
      ]

  -- a lock that does not pass is not freed
  kept : (g : ℕ) → p n ≡ false → (ltb g n && p g) ≡ (ltb g (n + 1) && p g)
  kept g t =
      elim (cases_eq g n) [
        | inl q ↦ let b = below_more n in let z = not-self n in rw (q, b, z, t)
        | inr ne ↦ let b = below-same g n ne in rw b
      ]

  free_one : p n ≡ true → passed_on (freed p S n) n ≡ freed p S (n + 1)
  free_one t = λ i. record {
    marks = S.marks;
    request = S.request;
    holder = λ g. free-holder g t i;
    waiting = λ g w. free-waiting g w t i;
  }

  keep_one : p n ≡ false → freed p S n ≡ freed p S (n + 1)
  keep_one t = λ i. record {
    marks = S.marks;
    request = S.request;
    holder = λ g. cond (kept g t i) (next S g) (S.holder g);
    waiting = λ g w. cond (kept g t i && is (next S g) w) false (S.waiting g w);
  }

-- ---- the turns of the loop, with what is posted

none-handed : (b : Bool) (o : Option ℕ) (note : Note) → b ≡ false → hand b o note ≡ []
none-handed true o note e = let z : true ≡ false = e in grind arith
none-handed false None note e = refl
none-handed false (Some k) note e = refl

pub free-turn : (p : ℕ → Bool) (S T U : Station) (M : ℕ → Marks) (n : ℕ) (x : Marks) (xs ys : List Post) → p n ≡ true → T ≡ freed p S n → xs ≡ hands p (next S) M n → U ≡ passed_on T n → x ≡ M n → ys ≡ xs ++ hand true (next T n) (Grant n x) → (U ≡ freed p S (n + 1)) × (ys ≡ hands p (next S) M (n + 1))
free-turn p S T U M n x xs ys t e i u m z =
    let to : next T n ≡ next S n = ap (λ V. next V n) e ∙ next-same p S n in
    let one : hand true (next T n) (Grant n x) ≡ hand (p n) (next S n) (Grant n (M n)) = ap₂ (λ o y. hand true o (Grant n y)) to m ∙ ap (λ b. hand b (next S n) (Grant n (M n))) (sym t) in
    (u ∙ ap (λ V. passed_on V n) e ∙ free_one p S n t, z ∙ ap₂ (λ a b. a ++ b) i one ∙ rw add-one)

pub keep-turn : (p : ℕ → Bool) (S T : Station) (M : ℕ → Marks) (n : ℕ) (xs : List Post) → p n ≡ false → T ≡ freed p S n → xs ≡ hands p (next S) M n → (T ≡ freed p S (n + 1)) × (xs ≡ hands p (next S) M (n + 1))
keep-turn p S T M n xs t e i =
    let none = none-handed (p n) (next S n) (Grant n (M n)) t in
    (e ∙ keep_one p S n t, i ∙ sym (append-nil _) ∙ ap (λ x. hands p (next S) M n ++ x) (sym none) ∙ rw add-one)

-- none from m on passes until n
keep-turns : (p : ℕ → Bool) (S T : Station) (M : ℕ → Marks) (m n : ℕ) (xs : List Post) → m ≤ n → ((k : ℕ) → m ≤ k → k < n → p k ≡ false) → T ≡ freed p S m → xs ≡ hands p (next S) M m → (T ≡ freed p S n) × (xs ≡ hands p (next S) M n)
keep-turns p S T M m zero xs l none e i = let z : m ≡ 0 = omega arith in (e ∙ ap (freed p S) z, i ∙ ap (hands p (next S) M) z)
keep-turns p S T M m (suc n) xs l none e i =
    elim (cases_eq m (suc n)) [
      | inl q ↦ (e ∙ ap (freed p S) q, i ∙ ap (hands p (next S) M) q)
      | inr ne ↦
          let h = keep-turns p S T M m n xs (omega arith) (λ k u v. none k u (omega arith)) e i in
          let t = keep-turn p S T M n xs (none n (omega arith) (omega arith)) h.0 h.1 in
          let z : n + 1 ≡ suc n = omega arith in
          (t.0 ∙ ap (freed p S) z, t.1 ∙ ap (hands p (next S) M) z)
    ]

-- a settle from the station a: of the events of the station b, those below the turn are freed, and the rest are left; S was before
pub record Turn (R : Meaning) (a b : ℕ) (S : Station) (M : ℕ → Marks) (rest : ℕ) (T : Station) (xs : List Post) : Type 0 where
  pub turn : ℕ
  pub known : turn ≤ R.events
  pub few : length xs ≤ turn
  pub left : (k : ℕ) → member rest k ≡ (owns R b k && not (ltb k turn))
  pub station : T ≡ freed (frees R S a b) S turn
  pub posts : xs ≡ hands (frees R S a b) (next S) M turn

module _ (R : Meaning) (a b : ℕ) (S : Station) (M : ℕ → Marks) {rest : ℕ} {T : Station} {xs : List Post} (turn : Turn R a b S M rest T xs) where
  -- no event is left
  pub turn-all : NoMember rest → (T ≡ freed (frees R S a b) S R.events) × (xs ≡ hands (frees R S a b) (next S) M R.events)
  turn-all h =
      keep-turns (frees R S a b) S T M turn.turn R.events xs turn.known
      (λ k m l. let x = h k in let y = turn.left k in and_left (owns R b k) (is (S.holder k) a) (grind (arith, nat_tests)))
      turn.station turn.posts

  module _ {e : ℕ} (low : LowestMember 64 rest e) where
    turn-own : (owns R b e ≡ true) × (turn.turn ≤ e)
    turn-own = let x = low.here in let y = turn.left e in (grind (arith, nat_tests), grind (arith, nat_tests))

    turn-known : e < R.events
    turn-known = let x = turn-own.0 in grind (arith, nat_tests)

    pub turn-few : length xs < 64
    turn-few = let x = turn.few in let y = turn-own.1 in let z = low.below in omega arith

    turn-here : (T ≡ freed (frees R S a b) S e) × (xs ≡ hands (frees R S a b) (next S) M e)
    turn-here =
        keep-turns (frees R S a b) S T M turn.turn e xs turn-own.1
        (λ k m l. let x = low.least k l in let y = turn.left k in and_left (owns R b k) (is (S.holder k) a) (grind (arith, nat_tests)))
        turn.station turn.posts

    turn-held : is (S.holder e) a ≡ is (T.holder e) a
    turn-held = sym (ap (λ o. is o a) (holder-same (frees R S a b) S e T turn-here.0))

    module _ (others : ℕ) (less : (k : ℕ) → member others k ≡ cond (eqb k e) false (member rest k)) where
      turn-left : (k : ℕ) → member others k ≡ (owns R b k && not (ltb k (e + 1)))
      turn-left k = let x = less k in let y = turn.left k in let z = low.least k in let w = turn-own.1 in grind (arith, nat_tests)

      -- the sender has the lock of the lowest
      pub turn-free : {U : Station} {x : Marks} {ys : List Post} → is (T.holder e) a ≡ true → U ≡ passed_on T e → length ys ≤ length xs + 1 → x ≡ M e → ys ≡ xs ++ hand true (next T e) (Grant e x) → Turn R a b S M others U ys
      turn-free {U} {x} {ys} held u m marked y =
          let l = turn-known in let f = turn.few in let o = turn-own.1 in
          let h = free-turn (frees R S a b) S T U M e x xs ys (and_from _ _ turn-own.0 (turn-held ∙ held)) turn-here.0 turn-here.1 u marked y in
          record { turn = e + 1; known = omega arith; few = omega arith; left = turn-left; station = h.0; posts = h.1 }

      -- the sender does not have it
      pub turn-keep : is (T.holder e) a ≡ false → Turn R a b S M others T xs
      turn-keep held =
          let l = turn-known in let f = turn.few in let o = turn-own.1 in
          let h = keep-turn (frees R S a b) S T M e xs (and_right _ _ (turn-held ∙ held)) turn-here.0 turn-here.1 in
          record { turn = e + 1; known = omega arith; few = omega arith; left = turn-left; station = h.0; posts = h.1 }

-- ---- a settle is the change of the marks, and then the freeing

twice : (a b c : Bool) → (a && ((a && b) && c)) ≡ ((a && b) && c)
twice true b c = refl
twice false b c = refl

pub settled_is : (R : Meaning) (S T U : Station) (a b e : ℕ) (ok : Bool) (xs : List Post) → T ≡ remarked S (marked R S b e ok) → U ≡ freed (frees R T a b) T R.events → xs ≡ hands (frees R T a b) (next T) T.marks R.events → (U ≡ (settled R S a b e ok).station) × (xs ≡ (settled R S a b e ok).posts)
settled_is R S T U a b e ok xs t u z =
    (u ∙ ap (λ V. freed (frees R V a b) V R.events) t ∙ all, z ∙ ap (λ V. hands (frees R V a b) (next V) V.marks R.events) t)
  where
    known : (f : ℕ) → (ltb f R.events && frees R S a b f) ≡ frees R S a b f
    known f = twice (ltb f R.events) (eqb (R.owner f) b) (is (S.holder f) a)

    all : freed (frees R S a b) (remarked S (marked R S b e ok)) R.events ≡ (settled R S a b e ok).station
    all i =
        record {
          marks = marked R S b e ok;
          request = S.request;
          holder = λ f. cond (known f i) (next S f) (S.holder f);
          waiting = λ f w. cond (known f i && is (next S f) w) false (S.waiting f w);
        }

-- a refused event leaves the marks
pub marked-not : (R : Meaning) (S : Station) (b e : ℕ) → S ≡ remarked S (marked R S b e false)
marked-not R S b e = ap (remarked S) (fun_ext λ k. sym (unmoved (owns R b k) (R.does e S.marks k) (S.marks k)))
  where
    unmoved : (own : Bool) (x y : Marks) → cond (own && false) x y ≡ y
    unmoved true x y = refl
    unmoved false x y = refl
