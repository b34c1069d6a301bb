-- No list of the line ever holds more than three messages, and none but those between stations holds any.
use Rattle.std.proofs.Common.{◌≡◌, ℕ, ◌+◌, ◌≤◌, ◌⊎◌, List, [], ◌∷◌, length, Some, Option, refl, ap, ◌∙◌, arith, length-append}
use Rattle.std.proofs.lemmas.Bool.Decides.{nat_tests}
use Rattle.std.proofs.lemmas.List.{nil_from_length}
use Rattle.events.specs.declared.marks.Marks.{Marks}
use Rattle.lines.specs.declared.note.Note.{Note}
use Rattle.lines.specs.declared.note.Note.TheVariants.{Grant}
use Rattle.rules.specs.Rule.{Meaning, Lawful}
use Rattle.protocol.specs.Sites.{Site}
use Rattle.protocol.proofs.Locking.{requested, given, Phase, busy, Settling, Locking, Valid, Sent, Invariant}
use Rattle.protocol.proofs.Shows.{only_grants, others, grant_list, ask_list, settle_list, Shows}

-- a queue's length by its parts
pub split-length : (q : List (Option Note)) → length q ≡ length (only_grants q) + length (others q)
split-length [] = refl
split-length (Some (Grant f x) ∷ q) = let h = split-length q in omega arith
split-length (m ∷ q) = let h = split-length q in omega arith

grants-short : (R : Meaning) (p : Phase) (a : ℕ) → length (grant_list R p a) ≤ 1
grants-short R p a = grind (arith, nat_tests)

asks-short : (R : Meaning) (p : Phase) (a : ℕ) → length (ask_list R p a) ≤ 1
asks-short R p a = grind (arith, nat_tests)

settles-short : (t : Settling) → length (settle_list t) ≤ 1
settles-short t = grind arith

pub no-parts : (q : List (Option Note)) → only_grants q ≡ [] → others q ≡ [] → q ≡ []
no-parts q g o = nil_from_length q (let s = split-length q in grind arith)

pub room : (R : Meaning) (S : Site) (A : Locking) → Shows R S A → (a b : ℕ) → length (S.waits a b) ≤ 3
room R S A r a b =
    let s = split-length (S.waits a b) in
    let g = ap (length {A = Option Note}) (r.grants_of a b) in
    let o = ap (length {A = Option Note}) (r.others_of a b) ∙ length-append (settle_list (A.underway a b)) (ask_list R (A.phase a) b) in
    let x = grants-short R (A.phase b) a in let y = asks-short R (A.phase a) b in let z = settles-short (A.underway a b) in omega arith

-- pairs that are not of stations
module _ (R : Meaning) (L : Lawful R) (S : Site) (A : Locking) (M : ℕ → Marks) (I : Invariant R A M) (r : Shows R S A) (a b : ℕ)
    (out : (R.stations ≤ a) ⊎ (R.stations ≤ b)) where
  no-grants : (p : Phase) → Valid R b p → grant_list R p a ≡ []
  no-grants (busy e g known (given x)) f =
      let o =
      L.owners_are_stations e f.0 in let p = L.owners_are_stations g (L.locks_events e g f.0 f.2) in let h = f.1 in grind (arith, nat_tests)
  no-grants p f = refl

  no-asks : (p : Phase) → Valid R a p → ask_list R p b ≡ []
  no-asks (busy e g known requested) f =
      let o =
      L.owners_are_stations e f.0 in let p = L.owners_are_stations g (L.locks_events e g f.0 f.2) in let h = f.1 in grind (arith, nat_tests)
  no-asks p f = refl

  no-settles : (t : Settling) → Sent R a b t → settle_list t ≡ []
  no-settles t h = grind arith

  pub no-queue : S.waits a b ≡ []
  no-queue = no-parts (S.waits a b) (r.grants_of a b ∙ no-grants (A.phase b) (I.valid b))
      (let o = r.others_of a b in let s = no-settles (A.underway a b) (I.sent a b) in let k = no-asks (A.phase a) (I.valid a) in grind arith)
