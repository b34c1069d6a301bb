-- A grant that fits is noted, and the station goes on.
use Rattle.std.proofs.Common.{◌≡◌, ℕ, ◌<◌, ◌≤◌, Bool, true, false, cond, ◌&&◌, ◌||◌, eqb, Some, Option, sym, refl, ap, ◌∙◌, ap₂, arith}
use mathlib.Core.Path.{fun_ext}
use Rattle.std.proofs.lemmas.Bool.{and_parts, cond-true}
use Rattle.std.proofs.lemmas.Bool.Decides.{nat_tests}
use Rattle.events.specs.Marks.{marks}
use Rattle.events.specs.Members.{member, named}
use Rattle.events.specs.Sets.{EventSet}
use Rattle.events.specs.declared.marking.Marking.{Marking}
use Rattle.events.specs.declared.marks.Marks.{Marks}
use Rattle.lines.specs.declared.note.Note.{Note}
use Rattle.lines.specs.declared.note.Note.TheVariants.{Grant}
use Rattle.protocol.proofs.Lowest.{lowest_by}
use Rattle.protocol.specs.Station.{goes_on, granted, had_more, is, missing, put, step}
use Rattle.rules.specs.Rule.{Meaning}
use Rattle.stations.specs.Shows.{request, shows}
use Rattle.stations.specs.declared.station.State.TheVariants.{Asking}
use Rattle.stations.specs.declared.station.Station.{Station}

noted : {X : Type 0} (f k : ℕ) (x old new : X) → f < 64 → new ≡ cond (named 64 f k) x old → cond (eqb k f) x old ≡ new
noted f k x old new l e = let t : named 64 f k ≡ eqb k f = grind (arith, nat_tests) in ap (λ b. cond b x old) (sym t) ∙ sym e

or_put : (a b : Bool) → (a || b) ≡ cond b true a
or_put true true = refl
or_put true false = refl
or_put false true = refl
or_put false false = refl

pub grant-goes_on : (R : Meaning) (b : ℕ) (s : Station) {e : ℕ} {had : EventSet} (had' : EventSet) {seen : Marking} (seen' : Marking) (a : ℕ) {f : ℕ} {x : Marks} {told : Option Note} {o : Option ℕ} → R.events ≤ 64 → s.state ≡ Asking e had seen → told ≡ Some (Grant f x) → (is (missing R e (member had.bits)) f && eqb (R.owner f) a) ≡ true → ((k : ℕ) → member had'.bits k ≡ cond (named 64 f k) true (member had.bits k)) → ((k : ℕ) → marks seen' k ≡ cond (named 64 f k) x (marks seen k)) → o ≡ missing R e (member had'.bits) → step R b (shows s) a told ≡ goes_on R (shows s) e (member had'.bits) (marks seen') o
grant-goes_on R b s {e} {had} had' {seen} seen' a {f} {x} {told} {o} few asks grants due had-is seen-is next-is =
    let S = shows s in
    let below = (lowest_by _ R.events f (and_parts _ _ due).0).1 in
    let small : f < 64 = omega arith in
    let had-more : had_more (member had.bits) f ≡ member had'.bits =
    fun_ext (λ k. or_put _ (eqb k f) ∙ noted f k true (member had.bits k) (member had'.bits k) small (had-is k)) in
    let seen_more : put (marks seen) f x ≡ marks seen' = fun_ext (λ k. noted f k x (marks seen k) (marks seen' k) small (seen-is k)) in
    ap (step R b S a) grants
    ∙ ap (λ q. granted R S a f x (request q)) asks
    ∙ cond-true _ _ _ due
    ∙ ap₂ (λ p q. goes_on R S e p q (missing R e p)) had-more seen_more
    ∙ ap (goes_on R S e (member had'.bits) (marks seen')) (sym next-is)
