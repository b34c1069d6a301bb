-- How a site's state shows the protocol's: requests, lock records and queues.
use Rattle.std.proofs.Common.{◌≡◌, ℕ, Bool, cond, ◌&&◌, eqb, ltb, List, [], ◌∷◌, ◌++◌, Some, None, Option, refl, ap, arith}
use Rattle.std.proofs.lemmas.Bool.Decides.{nat_tests}
use Rattle.events.specs.declared.marks.Marks.{Marks}
use Rattle.lines.specs.declared.note.Note.{Note}
use Rattle.lines.specs.declared.note.Note.TheVariants.{Ask, Grant, Settle}
use Rattle.rules.specs.Rule.{Meaning}
use Rattle.protocol.specs.Station.{Request, resting, asking}
use Rattle.protocol.specs.Sites.{Site}
use Rattle.protocol.proofs.Locking.{requested, given, Phase, idle, busy, Settling, clear, settling, Locking, waits_for}

abbrev pub only_grants : List (Option Note) → List (Option Note)
only_grants [] = []
only_grants (Some (Grant f x) ∷ q) = Some (Grant f x) ∷ only_grants q
only_grants (m ∷ q) = only_grants q

abbrev pub others : List (Option Note) → List (Option Note)
others [] = []
others (Some (Grant f x) ∷ q) = others q
others (m ∷ q) = m ∷ others q

pub grants-app : (p q : List (Option Note)) → only_grants (p ++ q) ≡ only_grants p ++ only_grants q
grants-app [] q = refl
grants-app (Some (Grant f x) ∷ p) q = ap {B = List (Option Note)} (λ l. Some (Grant f x) ∷ l) (grants-app p q)
grants-app (m ∷ p) q = grants-app p q

pub others-app : (p q : List (Option Note)) → others (p ++ q) ≡ others p ++ others q
others-app [] q = refl
others-app (Some (Grant f x) ∷ p) q = others-app p q
others-app (m ∷ p) q = ap {B = List (Option Note)} (λ l. m ∷ l) (others-app p q)

abbrev pub request_of : Meaning → Phase → Request
request_of R idle = resting
request_of R (busy e g known stage) = asking e (λ f. R.locks e f && ltb f g) known

abbrev pub grant_list : Meaning → Phase → ℕ → List (Option Note)
grant_list R (busy e g known (given x)) a = cond (eqb (R.owner g) a) (Some (Grant g x) ∷ []) []
grant_list R p a = []

abbrev pub ask_list : Meaning → Phase → ℕ → List (Option Note)
ask_list R (busy e g known requested) b = cond (eqb (R.owner g) b) (Some (Ask g) ∷ []) []
ask_list R p b = []

abbrev pub settle_list : Settling → List (Option Note)
settle_list clear = []
settle_list (settling e ok) = Some (Settle e ok) ∷ []

-- the station of each event has its marks, its holder and those that wait; a queue from a to b has the grant for b,
-- and the settle and the ask of a, in this order
pub record Shows (R : Meaning) (S : Site) (A : Locking) : Type 0 where
  pub marks : (f : ℕ) → (S.station (R.owner f)).marks f ≡ A.marks f
  pub requests : (s : ℕ) → (S.station s).request ≡ request_of R (A.phase s)
  pub holders : (f : ℕ) → (S.station (R.owner f)).holder f ≡ A.holder f
  pub waiters : (f s : ℕ) → (S.station (R.owner f)).waiting f s ≡ waits_for R (A.phase s) f
  pub grants_of : (a b : ℕ) → only_grants (S.waits a b) ≡ grant_list R (A.phase b) a
  pub others_of : (a b : ℕ) → others (S.waits a b) ≡ settle_list (A.underway a b) ++ ask_list R (A.phase a) b

-- what the head of a queue tells
pub ask-head : (R : Meaning) (t : Settling) (p : Phase) (b f : ℕ) (q : List (Option Note)) → Some (Ask f) ∷ q ≡ settle_list t ++ ask_list R p b →
    (t ≡ clear) × (e : ℕ) × (known : ℕ → Marks) × (p ≡ busy e f known requested) × (R.owner f ≡ b) × (q ≡ [])
ask-head R clear (busy e g known requested) b f q h = (refl, e, known, grind (arith, nat_tests), grind (arith, nat_tests), grind (arith, nat_tests))
ask-head R t p b f q h = grind arith

pub settle-head : (R : Meaning) (t : Settling) (p : Phase) (b e : ℕ) (ok : Bool) (q : List (Option Note)) → Some (Settle e ok) ∷ q ≡ settle_list t ++ ask_list R p b →
    (t ≡ settling e ok) × (q ≡ ask_list R p b)
settle-head R t p b e ok q h = (grind (arith, nat_tests), grind (arith, nat_tests))

pub other-head : (R : Meaning) (t : Settling) (p : Phase) (b : ℕ) (q : List (Option Note)) → None ∷ q ≡ settle_list t ++ ask_list R p b → ⊥
other-head R t p b q h = grind (arith, nat_tests)

pub grant-head : (R : Meaning) (p : Phase) (a f : ℕ) (x : Marks) (q : List (Option Note)) → Some (Grant f x) ∷ q ≡ grant_list R p a →
    (e : ℕ) × (known : ℕ → Marks) × (p ≡ busy e f known (given x)) × (R.owner f ≡ a) × (q ≡ [])
grant-head R (busy e g known (given y)) a f x q h = (e, known, grind (arith, nat_tests), grind (arith, nat_tests), grind (arith, nat_tests))
grant-head R p a f x q h = grind arith
