-- A station acted on its own copy, and what it posts was sent if there was room for all of it.
use Rattle.std.proofs.Common.{◌≡◌, ℕ, ◌<◌, true, false, not, ◌&&◌, List, length, get_or, set, Ok, Option, sym, ap, ◌∙◌, subst, ap₂}
use Rattle.std.proofs.lemmas.Bool.{and_right}
use Rattle.lines.specs.Lists.{Lists}
use Rattle.protocol.specs.Outcomes.{Delivery, astray}
use Rattle.protocol.specs.Queues.{post_all, queues, room_for}
use Rattle.protocol.specs.Sites.{moved}
use Rattle.protocol.specs.Station.{Station as Model, Step, put}
use Rattle.protocol.specs.Turns.{goes, is_stray}
use Rattle.protocol.specs.declared.answer.Answer.{Answer}
use Rattle.protocol.specs.declared.delivery.Post.{Post}
use Rattle.stations.specs.Shows.{blank, shows}
use Rattle.stations.specs.Steps.{Leads}
use Rattle.stations.specs.declared.station.Station.{Station}
use Rattle.site.specs.Statuses.{site_of}
use Rattle.site.proofs.Stationing.{put-station}

-- the step of the station at a place that was read by a call
pub leads-at : (act : Model → Step) (stations : List Station) {at b : ℕ} {s : Station} {d : Delivery} {ps : List Post} → at ≡ b → Leads s d ps (act (shows (get_or stations at blank))) → Leads s d ps (act (shows (get_or stations b blank)))
leads-at act stations {at} {b} {s} {d} {ps} e h = subst (λ k. Leads s d ps (act (shows (get_or stations k blank)))) e h

-- the station b does the step t where V waits
module _ (limit : ℕ) (V : Lists) (b : ℕ) {t : Step} {s : Station} {ps : List Post} where
  -- a stray step
  pub stray-goes : Leads s astray ps t → goes limit (queues V) b t ≡ false
  stray-goes h = ap (λ d. not (is_stray d) && room_for limit (queues V) b t.posts) (sym h.delivery)

  -- a full pair
  pub full-goes : {d : Delivery} → Leads s d ps t → false ≡ room_for limit (queues V) b ps → goes limit (queues V) b t ≡ false
  full-goes h none = and_right (not (is_stray t.delivery)) (room_for limit (queues V) b t.posts) (ap (room_for limit (queues V) b) (sym h.posts) ∙ sym none)

  module _ {x : Option Answer} (h : Leads s (Ok x) ps t) where
    pub sent-goes : true ≡ room_for limit (queues V) b ps → goes limit (queues V) b t ≡ true
    sent-goes room = ap₂ (λ d r. not (is_stray d) && r) (sym h.delivery) (ap (room_for limit (queues V) b) (sym h.posts) ∙ sym room)

    pub sent-moved : (U : Lists) → queues U ≡ post_all (queues V) b ps → (W : Lists) (stations : List Station) → b < length stations → site_of U (set stations b s) ≡ moved (site_of W stations) (queues V) b t
    sent-moved U lists W stations few =
        let st = put-station stations b s few ∙ ap (put (site_of W stations).station b) h.station in
        let w = lists ∙ ap (post_all (queues V) b) h.posts in
        λ i. record { station = st i; waits = w i }
