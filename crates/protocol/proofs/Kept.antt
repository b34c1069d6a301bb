-- The promise is kept.
use Rattle.std.proofs.Common.{◌≡◌, ℕ, ◌≤◌, List, [], ◌∷◌, ◌++◌, map, length, Some, None, Option, sym, refl, ap, ◌∙◌, subst, subst₂, inl, inr, arith, Ok, Err}
use mathlib.Core.List.{map-append}
use Rattle.rules.specs.Rule.{Meaning}
use Rattle.protocol.specs.declared.answer.Answer.{Answer}
use Rattle.protocol.specs.declared.call.Call.{Call}
use Rattle.protocol.specs.Outcomes.{Outcome}
use Rattle.protocol.specs.declared.answer.Answers.{Answers}
use Rattle.protocol.specs.declared.call.Reply.TheVariants.{Settled}
use Rattle.protocol.specs.declared.refusal.Refusal.TheVariants.{Stray}
use Rattle.std.specs.List.{AllByRecursion}
use Rattle.std.proofs.ByRecursion.{All-append, All-weaker}
use Rattle.protocol.specs.Sites.{Site}
use Rattle.protocol.specs.Machine.{Machine, answers_of, heard, Replays}
use Rattle.protocol.specs.Turns.{Status, Turn, Serves, Follow}
use Rattle.protocol.specs.Served.{Served}
use Rattle.protocol.specs.Promise.{Still, Moment, during, moment_of, turned, if_any, moments, ListsAll, Closed, Promise, Proper, Kept}
use Rattle.protocol.proofs.OneTable.{agrees}
use Rattle.protocol.proofs.Moments.{both_of, Coherent}
use Rattle.protocol.proofs.Resting.{at_rest, carried-cost}
use Rattle.protocol.proofs.Turning.{machine_of, Sound}
use Rattle.protocol.proofs.ClosedTurns.{any-turn, never-fails}

machine-at : (S : Site) (v : List Answer) (n : ℕ) (x : Option Machine) → machine_of (moment_of S v n x) ≡ x
machine-at S v n x = grind arith

machine-next : (R : Meaning) (o : Option Moment) (t : Turn) → machine_of (turned R o t) ≡ heard R (machine_of o) t.call t.outcome
machine-next R None t = machine-at t.after.site [] 0 (heard R None t.call t.outcome)
machine-next R (Some m) t = refl

follow-more : (R : Meaning) (limit : ℕ) (h g : Status) (ts : List Turn) (t : Turn) → Follow R limit h ts g → Serves R limit g t →
    Follow R limit h (ts ++ (t ∷ [])) t.after
follow-more R limit h g [] t f s = (subst (λ (k : Status). Serves R limit k t) f s, refl)
follow-more R limit h g (u ∷ ts) t f s = (f.0, follow-more R limit u.after g ts t f.1 s)

abbrev calls_of : List Turn → List Call
calls_of ts = map (λ (t : Turn). t.call) ts

abbrev outcomes_of : List Turn → List Outcome
outcomes_of ts = map (λ (t : Turn). t.outcome) ts

-- what is shown of turns in a row
pub record Along (R : Meaning) (last : Status) (o : Option Moment) (ts : List Turn) : Type 0 where
  pub replays : Replays R (machine_of o) (calls_of ts) (outcomes_of ts)
  pub never_stray : AllByRecursion (λ o. o ≡ Err Stray → ⊥) (outcomes_of ts)
  pub few : AllByRecursion (λ t. length (answers_of t.outcome) ≤ 8) ts
  pub short : AllByRecursion (λ t. length t.transfers ≤ 1152) ts
  pub ends : AllByRecursion (λ t. (answers : Answers) (n : ℕ) → t.outcome ≡ Ok (Settled answers n) → Still t.after.site) ts
  pub sound : (x : Option Moment) × Sound R last x
  pub coherent : AllByRecursion (Coherent R) (moments R o ts)
  pub lists : ListsAll R o ts

if-sound : (R : Meaning) (h : Status) (o : Option Moment) → Sound R h o → AllByRecursion (Coherent R) (if_any o)
if-sound R h None s = tt
if-sound R h (Some m) s = (s.2, tt)

module _ (R : Meaning) (P : Proper R) (limit : ℕ) (enough : 3 ≤ limit) where
  pub along : (h g : Status) (o : Option Moment) (ts : List Turn) → Sound R h o → Follow R limit h ts g → Along R g o ts
  along h g o [] s f =
      record {
        replays = tt;
        never_stray = tt;
        few = tt;
        short = tt;
        ends = tt;
        coherent = tt;
        lists = tt;
        sound = (o, subst (λ (k : Status). Sound R k o) (sym f) s);
      }
  along h g o (t ∷ ts) s f =
      let k = any-turn R P limit enough h o t s f.0 in
      let r = along t.after g (turned R o t) ts k.sound f.1 in
      record {
        replays = (k.says, subst (λ (x : Option Machine). Replays R x (calls_of ts) (outcomes_of ts)) (machine-next R o t) r.replays);
        never_stray = (k.never_stray, r.never_stray);
        few = (k.few, r.few);
        short = (k.short, r.short);
        ends = (k.ends, r.ends);
        sound = r.sound;
        coherent = All-append (Coherent R) (during R o t.transfers) (if_any (turned R o t) ++ moments R (turned R o t) ts) k.within
            (All-append (Coherent R) (if_any (turned R o t)) (moments R (turned R o t) ts) (if-sound R t.after (turned R o t) k.sound) r.coherent);
        lists = (k.lists, r.lists);
      }

  -- turns that follow from one another keep the promise
  kept-all : (h g : Status) (ts : List Turn) → Closed h → Follow R limit h ts g → Promise R limit h (calls_of ts) (outcomes_of ts) g
  kept-all h g ts c f =
      let k = along h g None ts c f in
      record {
        turns = ts;
        made = refl;
        given = refl;
        closed = c;
        follow = f;
        answers = record { replays = k.replays; never_stray = k.never_stray; few = k.few; ends = k.ends };
        rests = record { rests = All-weaker (Coherent R) _ (at_rest R P) (moments R None ts) k.coherent; lists = k.lists };
        counts = record {
          cost = All-weaker (Coherent R) _ (carried-cost R P) (moments R None ts) k.coherent;
          room =
              All-weaker (Coherent R) _ (λ m G. (agrees R P.lawful P.stations (both_of R m) G.in_step limit enough).room)
              (moments R None ts) k.coherent;
        };
      }

  kept_more : (h g k : Status) (cs : List Call) (os : List Outcome) (c : Call) (o : Outcome) → Promise R limit h cs os g →
      Served R limit g c o k → Promise R limit h (cs ++ (c ∷ [])) (os ++ (o ∷ [])) k
  kept_more h g k cs os c o p (inl s) =
      let t : Turn = record { call = c; outcome = o; transfers = s.0; after = k } in
      let a = map-append (λ (t : Turn). t.call) p.turns (t ∷ []) ∙ ap (λ x. x ++ (c ∷ [])) p.made in
      let b = map-append (λ (t : Turn). t.outcome) p.turns (t ∷ []) ∙ ap (λ x. x ++ (o ∷ [])) p.given in
      subst₂ (λ x y. Promise R limit h x y k) a b
      (kept-all h k (p.turns ++ (t ∷ [])) p.closed (follow-more R limit h g p.turns t p.follow s.1))
  kept_more h g k cs os c o p (inr f) =
      let s = (along h g None p.turns p.closed p.follow).sound in
      absurd (never-fails R P limit enough g s.0 c k s.1 f.0)

pub kept : Kept
kept = record {
  begins = λ R P limit enough h c. kept-all R P limit enough h h [] c refl;
  goes_on = λ R P limit enough before h g cs os c o p s. kept_more R P limit enough before h g cs os c o p s;
}
