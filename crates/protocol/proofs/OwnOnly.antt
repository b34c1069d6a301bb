-- A station has records of its own events only: the marks and the lock of any other event are as at the start.
use Rattle.std.proofs.Common.{◌≡◌, ℕ, Bool, true, false, cond, ◌&&◌, eqb, Some, None, Option, sym, refl, subst, arith}
use Rattle.std.proofs.lemmas.Bool.Decides.{nat_tests}
use Rattle.std.proofs.lemmas.Bool.{eqb-true}
use Rattle.events.specs.declared.marks.Marks.{Marks}
use Rattle.events.specs.Marks.{unmarked}
use Rattle.lines.specs.declared.note.Note.{Note}
use Rattle.lines.specs.declared.note.Note.TheVariants.{Ask, Grant, Settle}
use Rattle.rules.specs.Rule.{Meaning}
use Rattle.protocol.specs.Station.{Request, resting, asking, Station, Step, put, is, owns, missing, begins, asks, goes_on, had_more, strays, granted, settled, step}
use Rattle.protocol.specs.Queues.{Queues}
use Rattle.protocol.specs.Sites.{Site, moved, fresh_site}

abbrev pub OwnAt : Meaning → ℕ → Station → Type 0
OwnAt R s S = (f : ℕ) → owns R s f ≡ false → (S.marks f ≡ unmarked) × (S.holder f ≡ None)

abbrev pub OwnOnly : Meaning → Site → Type 0
OwnOnly R S = (s : ℕ) → OwnAt R s (S.station s)

pub own_fresh : (R : Meaning) → OwnOnly R (fresh_site R)
own_fresh R s f h = (rw h refl, refl)

-- ---- a step keeps them so

module _ (R : Meaning) (b : ℕ) (S : Station) (own : OwnAt R b S) where
  own-asks : (a f : ℕ) → owns R b f ≡ true → (o : Option ℕ) → OwnAt R b (asks S a f o).station
  own-asks a f h None k n = let w = own k n in let m = w.0 in let l = w.1 in (m, grind (arith, nat_tests))
  own-asks a f h (Some t) k n = own k n

  own-ask : (a f : ℕ) (t : Bool) → owns R b f ≡ t → OwnAt R b (cond t (asks S a f (S.holder f)) (strays S)).station
  own-ask a f true h = own-asks a f h (S.holder f)
  own-ask a f false h = own

  own-goes_on : (e : ℕ) (had : ℕ → Bool) (seen : ℕ → Marks) (o : Option ℕ) → OwnAt R b (goes_on R S e had seen o).station
  own-goes_on e had seen None = own
  own-goes_on e had seen (Some g) = own

  own-grant : (a f e : ℕ) (x : Marks) (had : ℕ → Bool) (seen : ℕ → Marks) (t : Bool) →
      OwnAt R b (cond t (goes_on R S e (had_more had f) (put seen f x) (missing R e (had_more had f))) (strays S)).station
  own-grant a f e x had seen true = own-goes_on e (had_more had f) (put seen f x) (missing R e (had_more had f))
  own-grant a f e x had seen false = own

  own_granted : (a f : ℕ) (x : Marks) (q : Request) → OwnAt R b (granted R S a f x q).station
  own_granted a f x resting = own
  own_granted a f x (asking e had seen) = own-grant a f e x had seen (is (missing R e had) f && eqb (R.owner f) a)

  own-settled : (a e : ℕ) (ok : Bool) → OwnAt R b (settled R S a b e ok).station
  own-settled a e ok k n = let w = own k n in (rw n w.0, rw n w.1)

  own-settle : (a e : ℕ) (ok t : Bool) → OwnAt R b (cond t (settled R S a b e ok) (strays S)).station
  own-settle a e ok true = own-settled a e ok
  own-settle a e ok false = own

  pub own-step : (a : ℕ) (n : Option Note) → OwnAt R b (step R b S a n).station
  own-step a (Some (Ask f)) = own-ask a f (owns R b f) refl
  own-step a (Some (Grant f x)) = own_granted a f x S.request
  own-step a (Some (Settle e ok)) = own-settle a e ok (owns R a e)
  own-step a None = own

  pub own-begins : (e : ℕ) (o : Option ℕ) → OwnAt R b (begins R S e o).station
  own-begins e None = own
  own-begins e (Some g) = own

pub own-moved : (R : Meaning) (S : Site) (Q : Queues) (b : ℕ) (t : Step) → OwnOnly R S → OwnAt R b t.station → OwnOnly R (moved S Q b t)
own-moved R S Q b t own at s = go (eqb s b) refl
  where
    go : (z : Bool) → eqb s b ≡ z → OwnAt R s (cond z t.station (S.station s))
    go true h = subst (λ (u : ℕ). OwnAt R u t.station) (sym (eqb-true s b h)) at
    go false h = own s
