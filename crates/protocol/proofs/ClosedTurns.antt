-- A call of a closed site, and of any site.
use Rattle.std.proofs.Common.{◌≡◌, ℕ, ◌≤◌, Bool, true, false, not, List, [], Some, None, Option, sym, refl, subst, inl, inr, arith, Ok, Err}
use mathlib.Core.Path.{fun_ext}
use Rattle.std.proofs.lemmas.Bool.Decides.{nat_tests}
use Rattle.std.proofs.lemmas.Bool.{cases_lt}
use Rattle.rules.specs.Rule.{Meaning}
use Rattle.protocol.specs.declared.call.Call.{Call}
use Rattle.protocol.specs.declared.call.Call.TheVariants.{Start, Request, Carry, Settle}
use Rattle.protocol.specs.Outcomes.{Outcome}
use Rattle.protocol.specs.declared.call.Reply.TheVariants.{Started}
use Rattle.protocol.specs.declared.refusal.Refusal.TheVariants.{WrongState}
use Rattle.protocol.specs.Station.{fresh}
use Rattle.protocol.specs.Sites.{Site, fresh_site}
use Rattle.protocol.specs.Machine.{new_machine, unless, Says}
use Rattle.protocol.specs.Turns.{Status, Transfer, Turn, opened, waiting, Obeys, Serves}
use Rattle.protocol.specs.Served.{Fails}
use Rattle.protocol.specs.Promise.{Still, Moment, turned, Closed, Proper}
use Rattle.protocol.specs.Play.{turn_of}
use Rattle.protocol.proofs.Whole.{fresh_both}
use Rattle.protocol.proofs.Pairs.{none-waits}
use Rattle.protocol.proofs.Run.{fresh-in_step}
use Rattle.protocol.proofs.OwnOnly.{own_fresh}
use Rattle.protocol.proofs.Moments.{both_of, Coherent, same_step}
use Rattle.protocol.proofs.Turning.{Sound, Turned, still-turn, placed}
use Rattle.protocol.proofs.OpenTurns.{open_turn, never-fails-open}

module _ (R : Meaning) (limit : ℕ) (S : Site) (C : Closed (record { is_open = false; site = S })) where
  abbrev shut : Status
  shut = record { is_open = false; site = S }

  refused : (c : Call) → Says R None c (Err WrongState) → turned R None (turn_of c (Err WrongState) [] shut) ≡ None →
      Turned R None (turn_of c (Err WrongState) [] shut)
  refused c s e = still-turn R None c (Err WrongState) shut (λ e. grind arith) (subst (Sound R shut) (sym e) C) s tt

  still-here : waiting S ≡ false → Still S
  still-here w a b = elim (cases_lt a 8) [
    | inl la ↦ elim (cases_lt b 8) [ inl lb ↦ none-waits S w a b la lb | inr lb ↦ C.within a b (grind (arith, nat_tests)) ]
    | inr la ↦ C.within a b (grind (arith, nat_tests))
  ]

  abbrev started : Site
  started = record { station = fresh R; waits = S.waits }

  starts-well : waiting S ≡ false → Coherent R (record { site = started; machine = new_machine R; answers = []; carried = 0 })
  starts-well w =
      let e : started ≡ fresh_site R =
      (let f : S.waits ≡ (λ _ _. []) = fun_ext (λ a. fun_ext (λ b. still-here w a b)) in λ i. record { station = fresh R; waits = f i }) in
      record {
        in_step =
            same_step R (fresh_both R) (both_of R (record { site = started; machine = new_machine R; answers = []; carried = 0 }))
            (fresh-in_step R) refl e refl refl refl refl;
        own = own_fresh R;
      }

  start-turn : (o : Outcome) (xs : List Transfer) (g : Status) (t : Bool) → not (waiting S) ≡ t →
      Obeys R limit shut (turn_of Start o xs g) (unless t WrongState None) → Turned R None (turn_of Start o xs g)
  start-turn o xs g false w d = placed R None Start d (refused Start tt refl)
  start-turn o xs g true w d =
      placed R None Start d (still-turn R None Start (Ok Started) (opened started) tt (refl, refl, starts-well (grind arith)) tt tt)

  closed-turn : (c : Call) (o : Outcome) (xs : List Transfer) (g : Status) → Serves R limit shut (turn_of c o xs g) → Turned R None (turn_of c o xs g)
  closed-turn Start o xs g d = start-turn o xs g (not (waiting S)) refl d
  closed-turn c o xs g d = placed R None c d (refused c refl refl)

never-fails-closed : (R : Meaning) (limit : ℕ) (S : Site) (c : Call) (g : Status) → Fails R limit (record { is_open = false; site = S }) c g → ⊥
never-fails-closed R limit S (Request s e) g f = let h = f.0 in grind arith
never-fails-closed R limit S (Carry a b) g f = let h = f.0 in grind arith
never-fails-closed R limit S (Settle n) g f = let h = f.0 in grind arith
never-fails-closed R limit S _ g f = f

module _ (R : Meaning) (P : Proper R) (limit : ℕ) (enough : 3 ≤ limit) where
  is-closed : (h : Status) → Closed h → h ≡ record { is_open = false; site = h.site }
  is-closed h s = let z = s.shut in λ i. record { is_open = z i; site = h.site }

  is-opened : (h : Status) (m : Moment) → Sound R h (Some m) → h ≡ opened m.site
  is-opened h m s = let z = s.0 in let y = s.1 in λ i. record { is_open = z i; site = y i }

  pub any-turn : (h : Status) (o : Option Moment) (t : Turn) → Sound R h o → Serves R limit h t → Turned R o t
  any-turn h None t s d =
      let e = is-closed h s in
      closed-turn R limit h.site (subst Closed e s) t.call t.outcome t.transfers t.after
      (subst (λ (h : Status). Serves R limit h t) e d)
  any-turn h (Some m) t s d =
      open_turn R P limit enough m s.2 t.call t.outcome t.transfers t.after
      (subst (λ (h : Status). Serves R limit h t) (is-opened h m s) d)

  pub never-fails : (h : Status) (o : Option Moment) (c : Call) (g : Status) → Sound R h o → Fails R limit h c g → ⊥
  never-fails h None c g s f = never-fails-closed R limit h.site c g (subst (λ (h : Status). Fails R limit h c g) (is-closed h s) f)
  never-fails h (Some m) c g s f = never-fails-open R P limit enough m s.2 c g (subst (λ (h : Status). Fails R limit h c g) (is-opened h m s) f)
