-- A request at an open site: what the station did, as a call.
use Rattle.std.proofs.Common.{◌≡◌, ℕ, ◌<◌, false, List, [], length, get_or, set, Some, None, Ok, Err, Option, refl, ap, ◌∙◌}
use Rattle.lines.specs.Lists.{Lists}
use Rattle.lines.specs.declared.line.Line.{Ghosts as LineGhosts}
use Rattle.rules.specs.Rule.{Meaning}
use Rattle.rules.specs.Semantics.{lowest}
use Rattle.rules.specs.declared.rule.Rule.{Ghosts as RuleGhosts}
use Rattle.protocol.specs.Outcomes.{Delivery, astray}
use Rattle.protocol.specs.Queues.{post_all, queues, room_for}
use Rattle.protocol.specs.Station.{Station as Model, Step, begins}
use Rattle.protocol.specs.Turns.{Status, opened, refusal}
use Rattle.protocol.specs.declared.answer.Answer.{Answer}
use Rattle.protocol.specs.declared.call.Call.TheVariants.{Request}
use Rattle.protocol.specs.declared.call.Reply.TheVariants.{Opened}
use Rattle.protocol.specs.declared.delivery.Post.{Post}
use Rattle.protocol.specs.declared.refusal.Refusal.{Refusal}
use Rattle.protocol.specs.declared.refusal.Refusal.TheVariants.{Stray}
use Rattle.stations.specs.Shows.{blank, shows}
use Rattle.stations.specs.Steps.{Leads}
use Rattle.stations.specs.declared.station.Station.{Station}
use Rattle.site.specs.Served.{CallServed}
use Rattle.site.specs.Statuses.{site_of}
use Rattle.site.specs.declared.site.Site.{Site}
use Rattle.site.proofs.Acting.{full-goes, leads-at, sent-moved, stray-goes}
use Rattle.site.proofs.Serving.{call-served, open_status, refused, requested, unrequested}

module _ {R L : Type 0} (rules : RuleGhosts R) (lines : LineGhosts L) (s : Site R L) {stations : List Station} (e : s.stations ≡ Some stations) (station event : ℕ) where
  abbrev meaning : Meaning
  meaning = rules.meaning s.rule

  abbrev W : Lists
  W = lines.waits s.line

  abbrev before : Status
  before = open_status rules lines s stations e

  -- the site with another line and other stations
  abbrev left : L → List Station → Site R L
  left line ss = record { rule = s.rule; line = line; stations = Some ss }

  pub request-refused : (x : Refusal) → lines.sound s.line → refusal meaning before (Request station event) ≡ Some x → CallServed rules lines s (Request station event) (Err x) (left s.line stations)
  request-refused x sound is = call-served rules lines s stations e _ _ _ refl sound (refused meaning lines.most before (Request station event) x is)

  abbrev act : Model → Step
  act S = begins meaning S event (lowest (meaning.locks event) meaning.events)

  -- the station's number is read twice
  module _ {me at : ℕ} (may : (refusal meaning before (Request station event) ≡ None) × ((me ≡ station) × (station < length stations))) (same : at ≡ me) {t : Station} where
    turned : {d : Delivery} {ps : List Post} → Leads t d ps (act (shows (get_or stations at blank))) → Leads t d ps (act (shows (get_or stations station blank)))
    turned h = leads-at act stations (same ∙ may.1.0) h

    pub request-stray : lines.sound s.line → Leads t astray [] (act (shows (get_or stations at blank))) → CallServed rules lines s (Request station event) (Err Stray) (left s.line stations)
    request-stray sound h =
        call-served rules lines s stations e _ _ _ refl sound
        (unrequested meaning lines.most before before station event may.0 (stray-goes lines.most W station (turned h)) refl)

    module _ {x : Option Answer} {ps : List Post} (h : Leads t (Ok x) ps (act (shows (get_or stations at blank)))) (line : L) (sound : lines.sound line) where
      pub request-full : false ≡ room_for lines.most (queues W) me ps → queues (lines.waits line) ≡ queues W → CallServed rules lines s (Request station event) (Err Stray) (left line stations)
      request-full none lists =
          let full = full-goes lines.most W station (turned h) (none ∙ ap (λ b. room_for lines.most (queues W) b ps) may.1.0) in
          call-served rules lines s stations e _ _ _ refl sound
          (unrequested meaning lines.most before (opened (site_of (lines.waits line) stations)) station event may.0 full (λ i. opened (record { station = before.site.station; waits = lists i })))

      pub request-opened : queues (lines.waits line) ≡ post_all (queues W) me ps → CallServed rules lines s (Request station event) (Ok Opened) (left line (set stations at t))
      request-opened lists =
          let U = lines.waits line in
          let place = ap (λ k. site_of U (set stations k t)) (same ∙ may.1.0) in
          call-served rules lines s stations e _ _ _ refl sound
          (requested meaning lines.most before _ station event may.0 refl
          (place ∙ sent-moved lines.most W station (turned h) U (lists ∙ ap (λ b. post_all (queues W) b ps) may.1.0) W stations may.1.1))
