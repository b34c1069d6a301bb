-- Runs of requests on one table, and their laws.
use Rattle.std.specs.Prelude.{◌≡◌, ℕ, ◌<◌, Bool, true, false, cond, ◌&&◌, ◌⊎◌, List, [], ◌∷◌, length, Decides, ◌≢◌, nat_lt, slice_index}
use Rattle.events.specs.declared.marks.Marks.{Marks}
use Rattle.graph.specs.Content.{Content}
use Rattle.graph.specs.declared.kind.Kind.TheVariants.{Response}
use Rattle.graph.specs.declared.release.Release.{Release}
use Rattle.rules.specs.Answers.{accepted}
use Rattle.rules.specs.Rule.{Meaning}
use Rattle.rules.specs.Words.{Enabled, RelatedIn, Rightful}

-- whether a request of e is accepted on the marking M: an event that the rule lacks is not
abbrev pub accepts : Meaning → (ℕ → Marks) → ℕ → Bool
accepts R M e = nat_lt e R.events && accepted (R.decides e M)

-- the marking after a request of e
abbrev pub next : Meaning → (ℕ → Marks) → ℕ → ℕ → Marks
next R M e k = cond (accepts R M e) (R.does e M k) (M k)

-- the marking after a run, which is a list of requests
unfoldable pub after : Meaning → (ℕ → Marks) → List ℕ → ℕ → Marks
after R M [] = M
after R M (e ∷ es) = after R (next R M e) es

-- the accepted events of a run, in their order
unfoldable pub done : Meaning → (ℕ → Marks) → List ℕ → List ℕ
done R M [] = []
done R M (e ∷ es) = cond (accepts R M e) (e ∷ done R (next R M e) es) (done R (next R M e) es)

-- the marking after doing events one after another
unfoldable pub doing : Meaning → (ℕ → Marks) → List ℕ → ℕ → Marks
doing R M [] = M
doing R M (e ∷ es) = doing R (R.does e M) es

-- k is not among the events
abbrev pub Absent : List ℕ → ℕ → Type 0
Absent ds k = (j : ℕ) → j < length ds → slice_index ds j ≢ k

-- Doing the events leaves k pending: either it was pending before and is not done, or some event responds to k and k
-- is not done later. An event that responds to itself is pending after it is done.
abbrev pub LeftPending : (ℕ → ℕ → Type 0) → Type 0 → List ℕ → ℕ → Type 0
LeftPending Responds Before ds k =
    (Before × Absent ds k)
    ⊎ ((i : ℕ) × (i < length ds) × Responds (slice_index ds i) k × ((j : ℕ) → i < j → j < length ds → slice_index ds j ≢ k))

-- ---- the laws

-- accepted are exactly the enabled events of the rule
abbrev pub EnabledAccepted : Type 0
EnabledAccepted = (v : Release) (c : Content) (R : Meaning) → Rightful v c R → (M : ℕ → Marks) (e : ℕ) → Decides (accepts R M e) ((e < R.events) × Enabled (RelatedIn v c.relations) e M)

-- a refused request changes nothing
abbrev pub RefusedKeeps : Type 0
RefusedKeeps = (R : Meaning) (M : ℕ → Marks) (e k : ℕ) → accepts R M e ≡ false → next R M e k ≡ M k

-- a run is the fold of its accepted events
abbrev pub RunFolds : Type 0
RunFolds = (R : Meaning) (M : ℕ → Marks) (es : List ℕ) → after R M es ≡ doing R M (done R M es)

-- after an accepted request the event is executed
abbrev pub AcceptedExecutes : Type 0
AcceptedExecutes = (v : Release) (c : Content) (R : Meaning) → Rightful v c R → (M : ℕ → Marks) (e : ℕ) → accepts R M e ≡ true → (next R M e e).executed ≡ true

-- an event is pending after a run exactly when its last response, or its mark before, was not followed by its execution
abbrev pub PendingLasts : Type 0
PendingLasts = (v : Release) (c : Content) (R : Meaning) → Rightful v c R → (M : ℕ → Marks) (es : List ℕ) (k : ℕ) → Decides (after R M es k).pending (LeftPending (RelatedIn v c.relations Response) ((M k).pending ≡ true) (done R M es) k)
