-- What is shown of each turn.
use Rattle.std.proofs.Common.{◌≡◌, ℕ, ◌≤◌, true, List, [], length, Some, None, Option, sym, refl, subst, arith, Ok, Err}
use Rattle.rules.specs.Rule.{Meaning}
use Rattle.protocol.specs.declared.call.Call.{Call}
use Rattle.protocol.specs.Outcomes.{Outcome}
use Rattle.protocol.specs.declared.answer.Answers.{Answers}
use Rattle.protocol.specs.declared.call.Reply.TheVariants.{Settled}
use Rattle.protocol.specs.declared.refusal.Refusal.TheVariants.{Stray}
use Rattle.std.specs.List.{AllByRecursion}
use Rattle.protocol.specs.Machine.{Machine, answers_of, Says}
use Rattle.protocol.specs.Turns.{Status, Transfer, Turn, refusal}
use Rattle.protocol.specs.Promise.{Still, Moment, during, turned, ListsAt, Closed}
use Rattle.protocol.specs.Play.{turn_of}
use Rattle.protocol.proofs.Moments.{Coherent}

abbrev pub machine_of : Option Moment → Option Machine
machine_of None = None
machine_of (Some m) = Some m.machine

-- a site beside its moment; before the start there is none
abbrev pub Sound : Meaning → Status → Option Moment → Type 0
Sound R h None = Closed h
Sound R h (Some m) = (h.is_open ≡ true) × (h.site ≡ m.site) × Coherent R m

pub record Turned (R : Meaning) (o : Option Moment) (t : Turn) : Type 0 where
  pub sound : Sound R t.after (turned R o t)
  pub says : Says R (machine_of o) t.call t.outcome
  pub never_stray : t.outcome ≡ Err Stray → ⊥
  pub few : length (answers_of t.outcome) ≤ 8
  pub short : length t.transfers ≤ 1152
  pub ends : (answers : Answers) (n : ℕ) → t.outcome ≡ Ok (Settled answers n) → Still t.after.site
  pub within : AllByRecursion (Coherent R) (during R o t.transfers)
  pub lists : ListsAt R o t

-- ---- outcomes of calls that carry one message at most

abbrev pub Brief : Outcome → Type 0
Brief (Err refusal) = refusal ≡ Stray → ⊥
Brief (Ok (Settled answers messages)) = ⊥
Brief (Ok reply) = Unit {0}

brief-few : (r : Outcome) → Brief r → length (answers_of r) ≤ 8
brief-few r b = grind arith

no-moment : (R : Meaning) (o : Option Moment) → AllByRecursion (Coherent R) (during R o [])
no-moment R None = tt
no-moment R (Some m) = tt

pub brief-turn : (R : Meaning) (o : Option Moment) (c : Call) (r : Outcome) (xs : List Transfer) (g : Status) → Brief r → length xs ≤ 1152 →
    Sound R g (turned R o (turn_of c r xs g)) → Says R (machine_of o) c r → AllByRecursion (Coherent R) (during R o xs) → ListsAt R o (turn_of c r xs g) →
    Turned R o (turn_of c r xs g)
brief-turn R o c r xs g b short sound says within lists = record {
  sound = sound;
  says = says;
  never_stray = λ e. subst Brief e b refl;
  few = brief-few r b;
  short = short;
  ends = λ answers n e. absurd (subst Brief e b);
  within = within;
  lists = lists;
}

-- that carry none
pub still-turn : (R : Meaning) (o : Option Moment) (c : Call) (r : Outcome) (g : Status) → Brief r →
    Sound R g (turned R o (turn_of c r [] g)) → Says R (machine_of o) c r → ListsAt R o (turn_of c r [] g) → Turned R o (turn_of c r [] g)
still-turn R o c r g b sound says lists = brief-turn R o c r [] g b (omega arith) sound says (no-moment R o) lists

-- a turn by its outcome, its transfers and the site that it leaves
pub placed : (R : Meaning) (o : Option Moment) (c : Call) {r p : Outcome} {xs ys : List Transfer} {g f : Status} →
    (r ≡ p) × (xs ≡ ys) × (g ≡ f) → Turned R o (turn_of c p ys f) → Turned R o (turn_of c r xs g)
placed R o c e t = subst (Turned R o) (λ i. turn_of c (sym e.0 i) (sym e.1 i) (sym e.2 i)) t
