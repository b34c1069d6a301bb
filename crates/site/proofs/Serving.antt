-- What single calls did, as turns.
use Rattle.std.specs.Option.{option_copied, option_copied_mut}
use Rattle.std.proofs.Common.{Bor, MutBor, ◌≡◌, ℕ, ◌<◌, Bool, true, false, not, ◌&&◌, ltb, List, [], ◌∷◌, is_some, Some, None, Ok, Err, Option, Result, sym, refl, ap, ◌∙◌, subst, ap₂, inl, inr, arith}
use Rattle.std.proofs.lemmas.Bool.{lt-ltb}
use Rattle.rules.specs.Rule.{Meaning}
use Rattle.protocol.specs.Machine.{unless}
use Rattle.protocol.specs.Served.{Served}
use Rattle.protocol.specs.Sites.{moved}
use Rattle.protocol.specs.Station.{fresh}
use Rattle.protocol.specs.Turns.{Obeys, Status, Transfer, asking, goes, lowest_pair, opened, refusal}
use Rattle.protocol.specs.declared.call.Call.{Call}
use Rattle.protocol.specs.declared.call.Call.TheVariants.{Carry, Request, Start}
use Rattle.protocol.specs.Outcomes.{Outcome}
use Rattle.protocol.specs.declared.call.Reply.TheVariants.{Started, Opened, Nothing as NothingWaits, Carried as Delivered, Answered as Answering}
use Rattle.protocol.specs.declared.delivery.StrayMessage.{StrayMessage}
use Rattle.protocol.specs.declared.refusal.Refusal.{Refusal}
use Rattle.protocol.specs.declared.refusal.Refusal.TheVariants.{UnknownStation, WrongState, Stray}
use Rattle.lines.specs.declared.line.Line.{Ghosts as LineGhosts}
use Rattle.rules.specs.declared.rule.Rule.{Ghosts as RuleGhosts}
use Rattle.stations.specs.declared.station.Station.{Station}
use Rattle.site.specs.Outcomes.{carrying}
use Rattle.site.specs.Served.{CallServed}
use Rattle.site.specs.Statuses.{site_of, stations_of, status}
use Rattle.site.specs.declared.site.Site.{Site}
use Rattle.site.specs.Transfers.{Transferred}
use Rattle.site.specs.declared.site.CarryAnswer.{CarryAnswer}
use Rattle.site.specs.declared.site.CarryAnswer.TheVariants.{Nothing, Carried, Answered}

-- an open site is its stations and its line
pub open_is : (h : Status) → h.is_open ≡ true → h ≡ opened h.site
open_is h e = λ i. record { is_open = e i; site = h.site }

-- where an open site lends its stations, they are those it has
pub lent : {X : Type 0} {o : Option (MutBor X)} {x : MutBor X} {v : Option X} → option_copied_mut o ≡ v → o ≡ Some x → v ≡ Some x.now
lent p q = sym p ∙ ap option_copied_mut q

pub lent-for-reading : {X : Type 0} {o : Option (Bor X)} {x : Bor X} {v : Option X} → option_copied o ≡ v → o ≡ Some x → v ≡ Some x.now
lent-for-reading p q = sym p ∙ ap option_copied q

-- a call of a site of the program that is open
module _ {R L : Type 0} (rules : RuleGhosts R) (lines : LineGhosts L) (s : Site R L) (stations : List Station) (e : s.stations ≡ Some stations) where
  abbrev pub open_status : Status
  open_status = opened (site_of (lines.waits s.line) stations)

  status-is : status lines s ≡ open_status
  status-is i = record { is_open = is_some (e i); site = site_of (lines.waits s.line) (stations_of (e i)) }

  pub call-served : (c : Call) (o : Outcome) (t : Site R L) → t.rule ≡ s.rule → lines.sound t.line → Served (rules.meaning s.rule) lines.most open_status c o (status lines t) → CallServed rules lines s c o t
  call-served c o t rule sound d =
      record { rule = rule; sound = sound; served = subst (λ h. Served (rules.meaning s.rule) lines.most h c o (status lines t)) (sym status-is) d }

  -- it leaves the site as it was
  pub call-read : (c : Call) (o : Outcome) → lines.sound s.line → Served (rules.meaning s.rule) lines.most open_status c o open_status → CallServed rules lines s c o s
  call-read c o sound d =
      record { rule = refl; sound = sound; served = subst (λ h. Served (rules.meaning s.rule) lines.most h c o h) (sym status-is) d }

-- a call that is refused
pub refused : (R : Meaning) (limit : ℕ) (h : Status) (c : Call) (x : Refusal) → refusal R h c ≡ Some x → Served R limit h c (Err x) h
refused R limit h c x e = inl ([], subst (Obeys R limit h (record { call = c; outcome = Err x; transfers = []; after = h })) (sym e) (refl, refl, refl))

-- a call that is not refused
pub does : (R : Meaning) (limit : ℕ) (h g : Status) (c : Call) (o : Outcome) (xs : List Transfer) → refusal R h c ≡ None
    → Obeys R limit h (record { call = c; outcome = o; transfers = xs; after = g }) None → Served R limit h c o g
does R limit h g c o xs e d = inl (xs, subst (Obeys R limit h (record { call = c; outcome = o; transfers = xs; after = g })) (sym e) d)

-- ---- a start

pub started : (R : Meaning) (limit : ℕ) (h g : Status) → h.is_open ≡ false → lowest_pair h.site.waits ≡ None → g.is_open ≡ true → g.site.station ≡ fresh R → g.site.waits ≡ h.site.waits
    → Served R limit h Start (Ok Started) g
started R limit h g shut still opens stations waits =
    does R limit h g Start (Ok Started) [] (ap₂ (λ o p. unless (not o && not (is_some p)) WrongState None) shut still)
    (refl, refl, λ i. record { is_open = opens i; site = record { station = stations i; waits = waits i } })

-- ---- a carry

-- a stray message has the carry refused
abbrev pub outcome_of : Result CarryAnswer StrayMessage → Outcome
outcome_of (Ok x) = carrying (Ok x)
outcome_of (Err e) = Err Stray

module _ (R : Meaning) (limit : ℕ) (h g : Status) (a b : ℕ) (opens : h.is_open ≡ true) (stays : g.is_open ≡ h.is_open) (la : a < R.stations) (lb : b < R.stations) where
  known : refusal R h (Carry a b) ≡ None
  known =
      ap (λ o. unless o WrongState (unless (ltb a R.stations && ltb b R.stations) UnknownStation None)) opens
      ∙ ap₂ (λ x y. unless (x && y) UnknownStation None) (lt-ltb a R.stations la) (lt-ltb b R.stations lb)

  pub carried : (r : Result CarryAnswer StrayMessage) → Transferred R limit h.site a b r g.site → Served R limit h (Carry a b) (outcome_of r) g
  carried (Ok Nothing) t = does R limit h g (Carry a b) (Ok NothingWaits) [] known (inl (t.0, refl, refl, λ i. record { is_open = stays i; site = t.1 i }))
  carried (Ok Carried) t =
      does R limit h g (Carry a b) (Ok Delivered) (record { from = a; to = b; answer = None; site = g.site } ∷ []) known
      (inr (None, g.site, t, refl, refl, open_is g (stays ∙ opens)))
  carried (Ok (Answered v)) t =
      does R limit h g (Carry a b) (Ok (Answering v)) (record { from = a; to = b; answer = Some v; site = g.site } ∷ []) known
      (inr (Some v, g.site, t, refl, refl, open_is g (stays ∙ opens)))
  carried (Err e) t = inr ((known, g.site, t, open_is g (stays ∙ opens)), refl)

-- ---- a request

-- a call that is not refused is one of an open site
was-open : (o : Bool) (later : Option Refusal) → unless o WrongState later ≡ None → o ≡ true
was-open true later e = refl
was-open false later e = grind arith

module _ (R : Meaning) (limit : ℕ) (h g : Status) (s e : ℕ) (may : refusal R h (Request s e) ≡ None) where
  pub requested : g.is_open ≡ h.is_open → g.site ≡ moved h.site h.site.waits s (asking R h.site s e) → Served R limit h (Request s e) (Ok Opened) g
  requested stays site =
      let open' = was-open h.is_open _ may in
      does R limit h g (Request s e) (Ok Opened) [] may (refl, refl, λ i. record { is_open = (stays ∙ open') i; site = site i })

  pub unrequested : goes limit h.site.waits s (asking R h.site s e) ≡ false → g ≡ h → Served R limit h (Request s e) (Err Stray) g
  unrequested f same = inr ((may, f, same), refl)
