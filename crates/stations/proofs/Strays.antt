-- What no step fits changes nothing.
use Rattle.std.proofs.Common.{◌≡◌, ℕ, Bool, ◌&&◌, eqb, List, [], Some, None, Ok, Option, refl, arith}
use Rattle.std.proofs.lemmas.Bool.{cond_both}
use Rattle.events.specs.declared.marks.Marks.{Marks}
use Rattle.lines.specs.declared.note.Note.{Note}
use Rattle.lines.specs.declared.note.Note.TheVariants.{Ask, Grant, Settle}
use Rattle.protocol.specs.Outcomes.{astray}
use Rattle.protocol.specs.Station.{Request, Station as Model, Step, asking, asks, begins, goes_on, granted, had_more, is, missing, owns, put, resting, settled, step, strays}
use Rattle.protocol.specs.declared.answer.Answer.{Answer}
use Rattle.protocol.specs.declared.delivery.Post.{Post}
use Rattle.rules.specs.Rule.{Meaning}

-- the station is left as it was and posts nothing
abbrev Kept : Model → Step → Type 0
Kept S t = (t.station ≡ S) × (t.posts ≡ [])

-- where a step is a stray one, it changes nothing
abbrev KeptStray : Model → Step → Type 0
KeptStray S t = t.delivery ≡ astray → Kept S t

taken : (S T : Model) (ps : List Post) (x : Option Answer) → KeptStray S (record { station = T; posts = ps; delivery = Ok x })
taken S T ps x e = absurd (grind arith)

stray : (S : Model) → KeptStray S (strays S)
stray S e = (refl, refl)

asks-stray : (S : Model) (a f : ℕ) (o : Option ℕ) → KeptStray S (asks S a f o)
asks-stray S a f None = taken S _ _ _
asks-stray S a f (Some t) = taken S _ _ _

goes-stray : (R : Meaning) (S : Model) (e : ℕ) (had : ℕ → Bool) (seen : ℕ → Marks) (o : Option ℕ) → KeptStray S (goes_on R S e had seen o)
goes-stray R S e had seen (Some k) = taken S _ _ _
goes-stray R S e had seen None = taken S _ _ _

granted-stray : (R : Meaning) (S : Model) (a f : ℕ) (x : Marks) (q : Request) → KeptStray S (granted R S a f x q)
granted-stray R S a f x resting = stray S
granted-stray R S a f x (asking e had seen) =
    cond_both (is (missing R e had) f && eqb (R.owner f) a) (goes_on R S e (had_more had f) (put seen f x) (missing R e (had_more had f))) (strays S) (KeptStray S)
    (λ _. goes-stray R S e (had_more had f) (put seen f x) (missing R e (had_more had f)))
    (λ _. stray S)

pub step-stray : (R : Meaning) (b : ℕ) (S : Model) (a : ℕ) (n : Option Note) → (step R b S a n).delivery ≡ astray → ((step R b S a n).station ≡ S) × ((step R b S a n).posts ≡ [])
step-stray R b S a (Some (Ask f)) = cond_both (owns R b f) (asks S a f (S.holder f)) (strays S) (KeptStray S) (λ _. asks-stray S a f (S.holder f)) (λ _. stray S)
step-stray R b S a (Some (Grant f x)) = granted-stray R S a f x S.request
step-stray R b S a (Some (Settle e ok)) = cond_both (owns R a e) (settled R S a b e ok) (strays S) (KeptStray S) (λ _. taken S _ _ _) (λ _. stray S)
step-stray R b S a None = stray S

pub begins-stray : (R : Meaning) (S : Model) (e : ℕ) (o : Option ℕ) → (begins R S e o).delivery ≡ astray → ((begins R S e o).station ≡ S) × ((begins R S e o).posts ≡ [])
begins-stray R S e None = stray S
begins-stray R S e (Some k) = taken S _ _ _
