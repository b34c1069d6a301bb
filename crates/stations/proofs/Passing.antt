-- A lock is passed on.
use Rattle.std.proofs.Common.{◌≡◌, ℕ, ◌<◌, Bool, true, false, cond, ◌&&◌, eqb, List, [], ◌∷◌, ◌++◌, length, set, Some, None, Option, sym, refl, ap, ◌∙◌, ap₂, inl, inr, arith}
use mathlib.Core.Path.{fun_ext}
use Rattle.std.proofs.lemmas.List.{append-nil}
use Rattle.std.proofs.lemmas.Bool.{cases_eq, ne_eqb}
use Rattle.std.proofs.lemmas.Bool.Decides.{nat_tests}
use Rattle.events.specs.Members.{member, named}
use Rattle.lines.specs.declared.note.Note.{Note}
use Rattle.protocol.specs.Station.{Station as Model, hand, is, next}
use Rattle.protocol.specs.declared.delivery.Post.{Post}
use Rattle.stations.specs.Locks.{passed_on}
use Rattle.stations.specs.Shows.{holders, shows, waiters}
use Rattle.stations.specs.declared.station.Lock.{Lock}
use Rattle.stations.specs.declared.station.Station.{Station}
use Rattle.stations.proofs.LockTables.{table-put}

waits-no-more : (a b old new : Bool) → new ≡ cond b false old → cond a new old ≡ cond (a && b) false old
waits-no-more true b old new e = e
waits-no-more false b old new e = refl

-- one lock has a new holder, who waits no more
pub passed : (s : Station) (e : ℕ) (v : Lock) → e < length s.locks → v.holder ≡ next (shows s) e → ((w : ℕ) → member v.waiting.bits w ≡ cond (is v.holder w) false (waiters s.locks e w)) → shows (record { marking = s.marking; state = s.state; locks = set s.locks e v }) ≡ passed_on (shows s) e
passed s e v h o q =
    ap₂ (λ a b. record { marks = (shows s).marks; request = (shows s).request; holder = a; waiting = b })
    (fun_ext λ g. table-put (λ l. l.holder) s.locks e v g h ∙ ap (λ x. cond (eqb g e) x (holders s.locks g)) o)
    (fun_ext λ g. fun_ext λ w.
    table-put (λ l. member l.waiting.bits w) s.locks e v g h
    ∙ elim (cases_eq g e) [
      | inl same ↦ waits-no-more (eqb g e) (is v.holder w) (waiters s.locks g w) (member v.waiting.bits w) (rw same (q w))
      | inr ne ↦ let t = ne_eqb g e ne in rw t
    ]
    ∙ ap (λ x. cond (eqb g e && is x w) false (waiters s.locks g w)) o)

turned : (w n : ℕ) → n < 8 → named 8 n w ≡ eqb n w
turned w n l = grind (arith, nat_tests)

-- the new holder is taken out of those that wait
pub taken_out : (o : Option ℕ) (n w : ℕ) (new old : Bool) → o ≡ Some n → n < 8 → new ≡ cond (named 8 n w) false old → new ≡ cond (is o w) false old
taken_out o n w new old e l h = h ∙ ap (λ b. cond b false old) (turned w n l) ∙ sym (ap (λ x. cond (is x w) false old) e)

-- where none waits, nobody is taken out
pub none_out : (o : Option ℕ) (w : ℕ) (old : Bool) → o ≡ None → old ≡ cond (is o w) false old
none_out o w old e = sym (ap (λ x. cond (is x w) false old) e)

pub handed-one : (S : Model) (f n : ℕ) (note : Note) (o : Option ℕ) (xs zs : List Post) → o ≡ Some n → o ≡ next S f → zs ≡ xs ++ record { to = n; note = note } ∷ [] → zs ≡ xs ++ hand true (next S f) note
handed-one S f n note o xs zs e h i = i ∙ ap (λ q. xs ++ hand true q note) (sym e ∙ h)

pub handed-none : (S : Model) (f : ℕ) (note : Note) (o : Option ℕ) (xs : List Post) → o ≡ None → o ≡ next S f → xs ≡ xs ++ hand true (next S f) note
handed-none S f note o xs e h = sym (append-nil xs) ∙ ap (λ q. xs ++ hand true q note) (sym e ∙ h)
