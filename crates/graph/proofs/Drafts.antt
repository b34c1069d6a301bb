-- What a draft keeps as it grows.
use Rattle.std.proofs.Common.{◌≡◌, ℕ, ◌+◌, ◌<◌, false, List, length, take, set, sym, subst, ap₂, arith}
use Rattle.std.proofs.lemmas.List.{length-take-le, take_more_set}
use Rattle.std.proofs.lemmas.Bool.{both_ways}
use Rattle.graph.specs.declared.kind.Kind.TheVariants.{Milestone}
use Rattle.graph.specs.declared.release.Release.{Release}
use Rattle.graph.specs.declared.relation.Relation.{Relation}
use Rattle.graph.specs.declared.draft.Draft.{Draft}
use Rattle.graph.specs.Held.{held}
use Rattle.graph.specs.Content.{Apart, EndsIn, NoMilestone, Sound, blank}
use Rattle.graph.specs.Releases.{barred}
use Rattle.graph.proofs.Tables.{fill}
use Rattle.graph.proofs.Clashes.{apart-push, met}

module _ (rs : List Relation) (n : ℕ) (r : Relation) (room : n < length rs) where
  pub ends_more : (s : ℕ) → r.from < s → r.to < s → EndsIn s (take n rs) → EndsIn s (take (n + 1) (set rs n r))
  ends_more s a b h = fill blank (λ _ x. (x.from < s) × (x.to < s)) rs n r room h (a, b)

  pub milestones-more : (v : Release) → barred v r.kind ≡ false → NoMilestone v (take n rs) → NoMilestone v (take (n + 1) (set rs n r))
  milestones-more v had h e = fill blank (λ _ x. x.kind ≡ Milestone → ⊥) rs n r room (h e) (λ m. both_ways _ had (ap₂ barred e m))

  pub apart_more : met (take n rs) r ≡ false → Apart (take n rs) → Apart (take (n + 1) (set rs n r))
  apart_more none h = subst Apart (sym (take_more_set rs n r room)) (apart-push (take n rs) r none h)

-- what a draft holds is sound
pub sound : (d : Draft) → Sound (held d)
sound d =
    let few = d.sized in
    let relations : length (take d.relations d.table) ≡ d.relations = length-take-le d.relations d.table (omega arith) in
    record {
      some_stations = few.0;
      few_stations = few.1;
      few_events = omega arith;
      few_relations = omega arith;
      owners = d.owners;
      ends = d.ends;
      apart = d.apart;
      milestones = d.milestones;
    }
