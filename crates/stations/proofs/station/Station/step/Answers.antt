-- A grant that fits: the next lock is asked for, or all are had.
use Rattle.std.proofs.Common.{rules, ◌≡◌, [], ◌∷◌, Some, Ok, sym, refl, ap, ◌∙◌, ap₂, subst}
use Rattle.lines.specs.declared.note.Note.TheVariants.{Ask, Grant, Settle}
use Rattle.protocol.specs.Outcomes.{astray}
use Rattle.protocol.specs.Station.{concerned, step, to_each}
use Rattle.rules.specs.Answers.{accepted}
use Rattle.stations.specs.Shows.{shows}
use Rattle.stations.specs.Steps.{Leads}
use Rattle.stations.proofs.Granting.{grant-goes_on}
use Rattle.stations.proofs.Strays.{step-stray}
use Rattle.stations.proofs.Tellings.{told-concerned}
use Rattle.stations.proofs.station.Station.step.Goals as goal

pub returns-in-Some-clause-takes : goal.returns-in-Some-clause-takes
returns-in-Some-clause-takes g c =
    let rule = c.args.role.now.rule.now in
    let R = g.R.Rule.meaning rule in
    let a = c.in-Asking-Some-Grant in
    let said : c.args.note ≡ Some (Grant a.lock a.marks) = search rules in
    let e = grant-goes_on R c.args.role.now.me c.args.self.now c.with.result c.with_marks.result c.args.from (g.met.R.Rule.sized rule).1 a.is-0 said (sym c.if-is_due.ensures) c.with.ensures c.with_marks.ensures c.in-Some.ensures.is in
    subst (Leads _ _ _) (sym e) (record { station = refl; delivery = refl; posts = c.single.ensures ∙ ap (λ o. record { to = o; note = Ask c.in-Some.next } ∷ []) c.owner.ensures.is })

pub returns-in-None-clause-takes : goal.returns-in-None-clause-takes
returns-in-None-clause-takes g c =
    let rule = c.args.role.now.rule.now in
    let R = g.R.Rule.meaning rule in
    let a = c.in-Asking-Some-Grant in
    let v = c.reach-verdict in
    let said : c.args.note ≡ Some (Grant a.lock a.marks) = search rules in
    let e = grant-goes_on R c.args.role.now.me c.args.self.now c.with.result c.with_marks.result c.args.from (g.met.R.Rule.sized rule).1 a.is-0 said (sym c.if-is_due.ensures) c.with.ensures c.with_marks.ensures c.in-None.ensures.is in
    subst (Leads _ _ _) (sym e)
    (record {
      station = refl;
      delivery = ap (λ x. Ok (Some x)) (c.settle-settles.ensures.answer ∙ ap₂ (λ x d. record { event = x; decision = d }) v.ensures.event v.ensures.decision);
      posts =
          c.settle-settles.ensures.posts
          ∙ told-concerned R (g.met.R.Rule.lawful rule) (g.met.R.Rule.stationed rule).1 _ a.event _ v.ensures.concerned
          ∙ ap₂ (λ x d. to_each (concerned R a.event) (Settle x (accepted d)) R.stations) v.ensures.event v.ensures.decision;
    })

pub returns-in_default-clause-stray : goal.returns-in_default-clause-stray
returns-in_default-clause-stray g c =
    let R = g.R.Rule.meaning c.args.role.now.rule.now in
    let S = shows c.args.self.now in
    let h : Leads c.in_default.self astray [] (step R c.args.role.now.me S c.args.from c.args.note) = search rules in
    h.station ∙ (step-stray R c.args.role.now.me S c.args.from c.args.note (sym h.delivery)).0
