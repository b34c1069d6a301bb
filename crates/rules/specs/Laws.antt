-- The four laws, over any relations between the events, and for the releases.
use Rattle.std.specs.Prelude.{◌≡◌, ℕ, ◌<◌, ◌≤◌, true, false, cond, length, None, nat_lt, refl}
use Rattle.std.proofs.Common.{ap, inl, inr, arith}
use Rattle.std.proofs.lemmas.Bool.Decides.{nat_tests}
use Rattle.std.proofs.lemmas.List.{get_or_past}
use Rattle.std.proofs.lemmas.Bool.{cases_lt}
use Rattle.events.specs.declared.marks.Marks.{Marks}
use Rattle.graph.proofs.Drafts.{sound}
use Rattle.graph.specs.Content.{Content, Sound, bare, event_at}
use Rattle.graph.specs.Held.{content}
use Rattle.graph.specs.declared.graph.Graph.{Graph}
use Rattle.graph.specs.declared.kind.Kind.TheVariants.{Condition, Milestone, Response, Include, Exclude}
use Rattle.graph.specs.declared.release.Release.{Release}
use Rattle.graph.specs.declared.release.Release.TheVariants.{Four}
use Rattle.rules.specs.Rule.{Lawful}
use Rattle.rules.specs.Semantics.{Relations, decides, holding, leaves, locked, lowest, meant, read, rule_of, unmet}
use Rattle.rules.specs.Lowest.{lowest-none, lowest-same}
use Rattle.rules.specs.Related.{Within, read-within}

module _ (rel : Relations) (n : ℕ) (within : Within n rel) where
  pub unmet-within : (e : ℕ) (M : ℕ → Marks) (a : ℕ) → unmet rel e M a ≡ true → a < n
  unmet-within e M a t = let c = within Condition a e in grind arith

  pub holding-within : (e : ℕ) (M : ℕ → Marks) (a : ℕ) → holding rel e M a ≡ true → a < n
  holding-within e M a t = let c = within Milestone a e in grind arith

  -- an event that is locked, and the one that locks it, are both of the rule
  pub locked-within : (e k : ℕ) → locked rel n e k ≡ true → (e < n) × (k < n)
  locked-within e k t =
      let c = within Condition k e in
      let m = within Milestone k e in
      let r = within Response e k in
      let i = within Include e k in
      let x = within Exclude e k in
      (grind (arith, nat_tests), grind (arith, nat_tests))

module _ (rel : Relations) (n : ℕ) where
  self-locked : (e : ℕ) → e < n → locked rel n e e ≡ true
  self-locked e l = grind (arith, nat_tests)

  unmet-reads : (e : ℕ) (M N : ℕ → Marks) (a : ℕ) → (locked rel n e a ≡ true → M a ≡ N a) → unmet rel e M a ≡ unmet rel e N a
  unmet-reads e M N a h = grind (arith, nat_tests)

  holding-reads : (e : ℕ) (M N : ℕ → Marks) (a : ℕ) → (locked rel n e a ≡ true → M a ≡ N a) → holding rel e M a ≡ holding rel e N a
  holding-reads e M N a h = grind (arith, nat_tests)

  decides-reads : (e : ℕ) (M N : ℕ → Marks) → e < n → ((k : ℕ) → locked rel n e k ≡ true → M k ≡ N k) → decides rel n e M ≡ decides rel n e N
  decides-reads e M N l h =
      let i : (M e).included ≡ (N e).included = ap (λ x. x.included) (h e (self-locked e l)) in
      let c = lowest-same (unmet rel e M) (unmet rel e N) n (λ a. unmet-reads e M N a (h a)) in
      let m = lowest-same (holding rel e M) (holding rel e N) n (λ a. holding-reads e M N a (h a)) in
      cc

  leaves-others : (e k : ℕ) (x : Marks) → e < n → locked rel n e k ≡ false → cond (nat_lt e n) (leaves rel e k x) x ≡ x
  leaves-others e k x l h = grind (arith, nat_tests)

lawful-of : (c : Content) (rel : Relations) → Sound c → Within (length c.events) rel → Lawful (rule_of c rel)
lawful-of c rel s w =
    record {
      owners_are_stations = s.owners;
      locks_itself = self-locked rel _;
      locks_events = λ e k l t. (locked-within rel _ w e k t).1;
      decides_by_locks = decides-reads rel _;
      keeps_others = λ e M k. leaves-others rel _ e k (M k);
      acts_on_each = λ e M N k l. ap (λ x. cond (nat_lt e (length c.events)) (leaves rel e k x) x);
    }

-- in release 4 nothing holds an event
pub nothing-holds : (c : Content) (e : ℕ) (M : ℕ → Marks) → lowest (holding (read Four c.relations) e M) (length c.events) ≡ None
nothing-holds c e M = lowest-none _ _ (λ j. refl)

-- ---- the laws of a rule over a graph

module _ (g : Graph) where
  pub graph-within : (v : Release) → Within (length (content g).events) (read v (content g).relations)
  graph-within v = read-within v _ (content g).relations (sound g.draft).ends

  pub lawful-graph : (v : Release) → Lawful (meant v (content g))
  lawful-graph v = lawful-of _ (read v (content g).relations) (sound g.draft) (graph-within v)

  pub stationed-graph : (1 ≤ (content g).stations) × ((content g).stations ≤ 8)
  stationed-graph = let s = sound g.draft in (s.some_stations, s.few_stations)

  pub sized-graph : (1 ≤ length (content g).events) × (length (content g).events ≤ 64)
  sized-graph = (g.some, (sound g.draft).few_events)

  pub owner-few : (e : ℕ) → (event_at (content g).events e).owner < 8
  owner-few e =
      let s = sound g.draft in
      elim (cases_lt e (length (content g).events)) [
        | inl l ↦ omega (arith, s.owners e l)
        | inr l ↦ let past : (event_at (content g).events e).owner ≡ 0 = ap (λ x. x.owner) (get_or_past (content g).events e bare l) in omega arith
      ]
