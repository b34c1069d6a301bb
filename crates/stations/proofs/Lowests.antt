-- The lowest number that passes a test, as the sets give it.
use Rattle.std.proofs.Common.{◌≡◌, ℕ, ◌<◌, ◌≤◌, Bool, true, false, cond, not, ◌&&◌, ◌||◌, eqb, ltb, is_some, Some, None, Option, sym, refl, ap, ◌∙◌, inl, inr, arith, MatchOption}
use Rattle.std.proofs.lemmas.Bool.{and_from, cases_eq}
use Rattle.std.proofs.lemmas.Bool.Decides.{nat_tests}
use Rattle.events.specs.Members.{LowestMember, NoMember, member, named}
use Rattle.protocol.proofs.Lowest.{lowest-has}
use Rattle.protocol.specs.Station.{concerned, missing}
use Rattle.rules.specs.Lowest.{Tells, lowest-is as the-lowest, lowest-none, lowest-same, lowest-tells}
use Rattle.rules.specs.Rule.{Meaning}
use Rattle.rules.specs.Semantics.{lowest}

pub none_told : (p : ℕ → Bool) (n : ℕ) (o : Option ℕ) → Tells p n o → ((k : ℕ) → k < n → p k ≡ false) → o ≡ None
none_told p n None t h = refl
none_told p n (Some k) t h = let z = t.0 in let y = h k t.1 in grind arith

-- what tells of the lowest number is that number
lowest-is : (p : ℕ → Bool) (n : ℕ) (o : Option ℕ) → Tells p n o → o ≡ lowest p n
lowest-is p n None t = sym (none_told p n (lowest p n) (lowest-tells p n) t)
lowest-is p n (Some k) t = sym (the-lowest p n k t.0 t.1 t.2)

-- the lowest member of a set
pub lowest-of : (width set : ℕ) (o : Option ℕ) → MatchOption o (NoMember set) (λ k. LowestMember width set k) → o ≡ lowest (member set) width
lowest-of width set None h = lowest-is (member set) width None (λ j l. h j)
lowest-of width set (Some k) h = lowest-is (member set) width (Some k) (h.here, h.below, h.least)

passing : (p : ℕ → Bool) (n k : ℕ) (b : Bool) → b ≡ (ltb k n && p k) → b ≡ true → (p k ≡ true) × (k < n)
passing p n k b same t = (grind (arith, nat_tests), grind (arith, nat_tests))

failing : (p : ℕ → Bool) (n k : ℕ) (b : Bool) → b ≡ (ltb k n && p k) → b ≡ false → k < n → p k ≡ false
failing p n k b same t l = grind (arith, nat_tests)

-- the lowest member of a set whose members are the numbers below n that pass
lowest-below : (p : ℕ → Bool) (n width set : ℕ) (o : Option ℕ) → ((k : ℕ) → member set k ≡ (ltb k n && p k)) → MatchOption o (NoMember set) (λ k. LowestMember width set k) → o ≡ lowest p n
lowest-below p n width set None same h = lowest-is p n None (λ k l. failing p n k _ (same k) (h k) l)
lowest-below p n width set (Some k) same h =
    let t = passing p n k _ (same k) h.here in
    let l : k < n = t.1 in
    lowest-is p n (Some k) (t.0, l, λ j m. failing p n j _ (same j) (h.least j m) (omega arith))

pub lowest-small : (width set : ℕ) (o : Option ℕ) (k : ℕ) → MatchOption o (NoMember set) (λ k. LowestMember width set k) → o ≡ Some k → k < width
lowest-small width set None k h e = let z : ◌≡◌ {A = ℕ} 0 1 = cc in absurd (omega arith)
lowest-small width set (Some j) k h e = let l = h.below in let z : j ≡ k = cc in omega arith

-- the lowest lock that is left is the missing one
pub missing-is : (R : Meaning) (e had locks left : ℕ) (o : Option ℕ) → R.events ≤ 64 → ((k : ℕ) → member locks k ≡ (R.locks e k && ltb k R.events)) → ((k : ℕ) → member left k ≡ (member locks k && not (member had k))) → MatchOption o (NoMember left) (λ k. LowestMember 64 left k) → o ≡ missing R e (member had)
missing-is R e had locks left o few locks-is left_is h =
    lowest-below (λ f. R.locks e f && not (member had f)) R.events 64 left o same h
  where
    same : (k : ℕ) → member left k ≡ (ltb k R.events && (R.locks e k && not (member had k)))
    same k =
        let a = locks-is k in
        let d = left_is k in grind (arith, nat_tests)

-- ---- the owners of a set of events

-- the station s owns a member of the set
abbrev pub owner_among : Meaning → ℕ → ℕ → Bool
owner_among R set s = is_some (lowest (λ f. member set f && eqb (R.owner f) s) 64)

-- the lowest member is taken, and its owner is noted
pub owner-more : (R : Meaning) (set rest e s owner : ℕ) (before after : Bool) → LowestMember 64 set e → ((k : ℕ) → member rest k ≡ cond (eqb k e) false (member set k)) → owner ≡ R.owner e → owner < 8 → after ≡ cond (named 8 owner s) true before → (after || owner_among R rest s) ≡ (before || owner_among R set s)
owner-more R set rest e s owner before after low left i few m = turn (eqb (R.owner e) s) refl
  where
    turn : (t : Bool) → eqb (R.owner e) s ≡ t → (after || owner_among R rest s) ≡ (before || owner_among R set s)
    turn true t =
        let here = and_from _ _ low.here t in
        let y : owner_among R set s ≡ true = lowest-has (λ f. member set f && eqb (R.owner f) s) 64 e low.below here in
        grind (arith, nat_tests)
    turn false t =
        let same : (k : ℕ) → (member rest k && eqb (R.owner k) s) ≡ (member set k && eqb (R.owner k) s) = λ k.
        let l = left k in
        elim (cases_eq k e) [
          | inl q ↦ let u : eqb (R.owner k) s ≡ false = ap (λ j. eqb (R.owner j) s) q ∙ t in grind (arith, nat_tests)
          | inr ne ↦ grind (arith, nat_tests)
        ] in
        let y : owner_among R rest s ≡ owner_among R set s = ap is_some (lowest-same _ _ 64 same) in
        grind (arith, nat_tests)

both-some : (p q : ℕ → Bool) (m n : ℕ) (o r : Option ℕ) → Tells p m o → Tells q n r → ((k : ℕ) → k < m → p k ≡ true → (q k ≡ true) × (k < n)) → ((k : ℕ) → k < n → q k ≡ true → (p k ≡ true) × (k < m)) → is_some o ≡ is_some r
both-some p q m n None None t u there back = refl
both-some p q m n None (Some k) t u there back = let b = back k u.1 u.0 in let z = t k b.1 in let y = b.0 in grind arith
both-some p q m n (Some k) None t u there back = let b = there k t.1 t.0 in let z = u k b.1 in let y = b.0 in grind arith
both-some p q m n (Some j) (Some k) t u there back = refl

-- all members are taken: the owners of the lock set are noted
pub owner-all : (R : Meaning) (e s set rest : ℕ) (noted : Bool) → R.events ≤ 64 → ((k : ℕ) → member set k ≡ (R.locks e k && ltb k R.events)) → NoMember rest → (noted || owner_among R rest s) ≡ owner_among R set s → noted ≡ concerned R e s
owner-all R e s set rest noted few is none h =
    let left : owner_among R rest s ≡ false = ap is_some (lowest-none _ 64 (λ k. ap (λ b. b && eqb (R.owner k) s) (none k))) in
    let p : ℕ → Bool = λ f. member set f && eqb (R.owner f) s in
    let q : ℕ → Bool = λ f. R.locks e f && eqb (R.owner f) s in
    let same : owner_among R set s ≡ concerned R e s =
    both-some p q 64 R.events _ _ (lowest-tells p 64) (lowest-tells q R.events)
    (λ k l y. let i = is k in (grind (arith, nat_tests), grind (arith, nat_tests)))
    (λ k l y. let i = is k in (grind (arith, nat_tests), omega arith)) in
    grind (arith, nat_tests)
