-- The stations of a site by their numbers.
use Rattle.std.proofs.Common.{◌≡◌, ℕ, zero, suc, ◌<◌, ◌≤◌, false, eqb, List, [], ◌∷◌, length, get_or, set, None, sym, refl, ap, ◌∙◌, inl, inr, arith, get_or-set_other, get_or-set_same}
use mathlib.Core.Path.{fun_ext}
use Rattle.std.proofs.lemmas.List.{get_or_past}
use Rattle.std.proofs.lemmas.Bool.{cases_eq, cases_lt, cond-false, cond-true, eq-eqb, ne_eqb}
use Rattle.std.proofs.lemmas.Bool.Decides.{nat_tests}
use Rattle.events.specs.Marks.{unmarked}
use Rattle.rules.specs.Rule.{Meaning}
use Rattle.protocol.specs.Station.{fresh, owns, put, resting}
use Rattle.stations.proofs.LockTables.{none_in}
use Rattle.stations.specs.Shows.{blank, shows}
use Rattle.stations.specs.declared.station.Station.{Station}

-- one station changed
pub put-station : (stations : List Station) (b : ℕ) (s : Station) → b < length stations → (λ k. shows (get_or (set stations b s) k blank)) ≡ put (λ k. shows (get_or stations k blank)) b (shows s)
put-station stations b s h = fun_ext λ k. elim (cases_eq k b) [
  | inl q ↦
      ap (λ x. shows (get_or (set stations b s) x blank)) q ∙ ap shows (get_or-set_same stations b s blank h)
      ∙ sym (cond-true (eqb k b) (shows s) (shows (get_or stations k blank)) (eq-eqb k b q))
  | inr n ↦
      ap shows (get_or-set_other stations b k s blank n) ∙ sym (cond-false (eqb k b) (shows s) (shows (get_or stations k blank)) (ne_eqb k b n))
]

-- a number past the stations owns nothing, and is blank at the start
pub none_owned : (R : Meaning) → ((e : ℕ) → R.owner e < 8) → (k : ℕ) → 8 ≤ k → (e : ℕ) → owns R k e ≡ false
none_owned R few k l e = let o = few e in let n = ne_eqb (R.owner e) k (λ q. omega arith) in grind (arith, nat_tests)

pub fresh-past : (R : Meaning) → ((e : ℕ) → R.owner e < 8) → (k : ℕ) → 8 ≤ k → shows blank ≡ fresh R k
fresh-past R few k l =
    let own = none_owned R few k l in
    λ i. record {
      marks = λ e. ((λ j. record { executed = none_in e j; pending = none_in e j; included = none_in e j }) ∙ sym (cond-false (owns R k e) (R.start e) unmarked (own e))) i;
      request = resting;
      holder = λ _. None;
      waiting = λ _ w. none_in w i;
    }

-- ---- all the stations

-- the stations in order, each at the place of its number
pub numbered : (k d : ℕ) → k < 8 → get_or (0 ∷ 1 ∷ 2 ∷ 3 ∷ 4 ∷ 5 ∷ 6 ∷ 7 ∷ []) k d ≡ k
numbered zero d l = refl
numbered (suc zero) d l = refl
numbered (suc (suc zero)) d l = refl
numbered (suc (suc (suc zero))) d l = refl
numbered (suc (suc (suc (suc zero)))) d l = refl
numbered (suc (suc (suc (suc (suc zero))))) d l = refl
numbered (suc (suc (suc (suc (suc (suc zero)))))) d l = refl
numbered (suc (suc (suc (suc (suc (suc (suc zero))))))) d l = refl
numbered (suc (suc (suc (suc (suc (suc (suc (suc k)))))))) d l = absurd (omega arith)

-- each of the eight is as at the start
pub fresh-all : (R : Meaning) (stations : List Station) → ((e : ℕ) → R.owner e < 8) → length stations ≡ 8 → ((k : ℕ) → k < 8 → shows (get_or stations k blank) ≡ fresh R k)
    → (k : ℕ) → shows (get_or stations k blank) ≡ fresh R k
fresh-all R stations few long h k = elim (cases_lt k 8) [
  | inl l ↦ h k l
  | inr l ↦ ap shows (get_or_past stations k blank (omega arith)) ∙ fresh-past R few k l
]
