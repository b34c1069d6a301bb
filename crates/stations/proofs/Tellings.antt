-- A note to each station that passes a test.
use Rattle.std.proofs.Common.{◌≡◌, ℕ, zero, suc, ◌<◌, ◌≤◌, Bool, true, false, cond, ◌&&◌, eqb, List, [], ◌∷◌, ◌++◌, length, is_some, Some, None, Option, sym, refl, ap, ◌∙◌, ap₂, inl, inr, arith, length-append}
use mathlib.Core.Path.{fun_ext}
use Rattle.std.proofs.lemmas.List.{append_assoc, append-nil}
use Rattle.std.proofs.lemmas.Bool.{and_parts, cases_eq, eqb-true}
use Rattle.std.proofs.lemmas.Bool.Decides.{nat_tests}
use Rattle.events.specs.Members.{LowestMember, member}
use Rattle.lines.specs.declared.note.Note.{Note}
use Rattle.protocol.specs.Station.{concerned, to_each}
use Rattle.protocol.specs.declared.delivery.Post.{Post}
use Rattle.rules.specs.Lowest.{Tells, lowest-tells}
use Rattle.rules.specs.Rule.{Lawful, Meaning}
use Rattle.rules.specs.Semantics.{lowest}
use Rattle.stations.specs.Telling.{told}

-- one more post, to n, if it passes
abbrev more : Note → ℕ → List Post → Bool → List Post
more note n xs b = xs ++ cond b (record { to = n; note = note } ∷ []) []

-- none passes
to_none : (p : ℕ → Bool) (note : Note) (n : ℕ) → ((k : ℕ) → k < n → p k ≡ false) → to_each p note n ≡ []
to_none p note zero h = refl
to_none p note (suc n) h =
    ap₂ (more note n) (to_none p note n (λ k l. h k (omega arith))) (h n (omega arith))

-- none passes from m on
to-fewer : (p : ℕ → Bool) (note : Note) (m n : ℕ) → m ≤ n → ((k : ℕ) → m ≤ k → p k ≡ false) → to_each p note n ≡ to_each p note m
to-fewer p note m zero l h = let none : 0 ≡ m = omega arith in ap (to_each p note) none
to-fewer p note m (suc n) l h =
    elim (cases_eq m (suc n)) [
      | inl q ↦ ap (to_each p note) (sym q)
      | inr ne ↦
          let less : m ≤ n = omega arith in
          ap₂ (more note n) (to-fewer p note m n less h) (h n less) ∙ append-nil _
    ]

-- at most one for each number
to-few : (p : ℕ → Bool) (note : Note) (n : ℕ) → length (to_each p note n) ≤ n
to-few p note zero = omega arith
to-few p note (suc n) =
    let l = to-few p note n in
    let s = length-append (to_each p note n) (cond (p n) (record { to = n; note = note } ∷ []) []) in
    let t = single (p n) in omega arith
  where
    single : (b : Bool) → length {A = Post} (cond b (record { to = n; note = note } ∷ []) []) ≤ 1
    single true = omega arith
    single false = omega arith

-- the lowest comes first
to-lowest : (p q : ℕ → Bool) (note : Note) (e n : ℕ) → e < n → p e ≡ true → ((k : ℕ) → k < e → p k ≡ false) → ((k : ℕ) → q k ≡ cond (eqb k e) false (p k)) → to_each p note n ≡ record { to = e; note = note } ∷ to_each q note n
to-lowest p q note e zero l here least rest = absurd (omega arith)
to-lowest p q note e (suc n) l here least rest =
    elim (cases_eq e n) [
      | inl same ↦
          let none : to_each p note n ≡ [] = to_none p note n (λ k m. least k (omega arith)) in
          let gone : to_each q note n ≡ [] = to_none q note n (λ k m. let r = rest k in let z = least k in grind (arith, nat_tests)) in
          let yes' : p n ≡ true = rw same at here in
          let no' : q n ≡ false = (let r = rest n in grind (arith, nat_tests)) in
          ap₂ (more note n) none yes'
          ∙ ap (λ k. record { to = k; note = note } ∷ []) (sym same)
          ∙ sym (ap₂ (λ xs b. record { to = e; note = note } ∷ more note n xs b) gone no')
      | inr ne ↦
          let less : e < n = omega arith in
          let kept : p n ≡ q n = (let r = rest n in grind (arith, nat_tests)) in
          ap₂ (more note n) (to-lowest p q note e n less here least rest) kept
    ]

-- ---- all stations

pub told_none : (p : ℕ → Bool) (note : Note) (xs all : List Post) → xs ++ told p note ≡ all → ((k : ℕ) → p k ≡ false) → xs ≡ all
unfolding told
told_none p note xs all e h = sym (append-nil xs) ∙ ap (λ ys. xs ++ ys) (sym (to_none p note 8 (λ k l. h k))) ∙ e

-- the lowest is told, and then the rest
pub told_more : (set rest e : ℕ) (note : Note) (xs ys all : List Post) → LowestMember 8 set e → ((k : ℕ) → member rest k ≡ cond (eqb k e) false (member set k)) → xs ++ told (member set) note ≡ all → ys ≡ xs ++ record { to = e; note = note } ∷ [] → ys ++ told (member rest) note ≡ all
unfolding told
told_more set rest e note xs ys all low left i more =
    ap (λ zs. zs ++ to_each (member rest) note 8) more
    ∙ append_assoc xs _ (to_each (member rest) note 8)
    ∙ ap (λ zs. xs ++ zs) (sym (to-lowest (member set) (member rest) note e 8 low.below low.here low.least left))
    ∙ i

-- fewer than 64 were told
pub told-few : (p q : ℕ → Bool) (note : Note) (posts : List Post) → posts ++ told p note ≡ told q note → length posts < 64
unfolding told
told-few p q note posts e =
    let b = length-append posts (to_each p note 8) in
    let c = ap length e in
    let d = to-few q note 8 in omega arith

-- ---- the stations concerned

concerned-below : (R : Meaning) → Lawful R → (p : ℕ → Bool) (k : ℕ) (o : Option ℕ) → R.stations ≤ k → ((f : ℕ) → p f ≡ true → R.owner f ≡ k) → Tells p R.events o → is_some o ≡ false
concerned-below R laws p k None l own t = refl
concerned-below R laws p k (Some f) l own t =
    let o = own f t.0 in
    let s = laws.owners_are_stations f t.1 in absurd (omega arith)

-- they are stations of the rule, so that the numbers up to 8 tell no more of them
pub told-concerned : (R : Meaning) → Lawful R → R.stations ≤ 8 → (p : ℕ → Bool) (e : ℕ) (note : Note) → ((k : ℕ) → p k ≡ concerned R e k) → told p note ≡ to_each (concerned R e) note R.stations
unfolding told
told-concerned R laws few p e note h =
    ap (λ q. to_each q note 8) (fun_ext h) ∙ to-fewer (concerned R e) note R.stations 8 few past
  where
    owned : (k f : ℕ) → (R.locks e f && eqb (R.owner f) k) ≡ true → R.owner f ≡ k
    owned k f t = eqb-true (R.owner f) k (and_parts (R.locks e f) (eqb (R.owner f) k) t).1

    past : (k : ℕ) → R.stations ≤ k → concerned R e k ≡ false
    past k l = let p : ℕ → Bool = λ f. R.locks e f && eqb (R.owner f) k in concerned-below R laws p k (lowest p R.events) l (owned k) (lowest-tells p R.events)
