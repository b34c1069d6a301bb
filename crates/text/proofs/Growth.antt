-- One more line of a text is one more declaration of its graph.
use Rattle.std.proofs.Common.{◌≡◌, ℕ, suc, ◌+◌, ◌<◌, nat_lt, Bool, true, false, cond, not, List, [], ◌∷◌, ◌++◌, map, length, Some, None, Option, Ok, Err, Result, MatchResult, sym, ap, ◌∙◌, append_assoc, append-nil, arith}
use Rattle.std.proofs.lemmas.List.{map_push, nil_from_length}
use Rattle.std.proofs.lemmas.Bool.{and_parts, cond-false, eqb-true, ltb-false}
use Rattle.events.specs.Marks.{sum_of}
use Rattle.graph.specs.declared.kind.Kind.{Kind}
use Rattle.graph.specs.declared.event.Event as event
use Rattle.graph.specs.declared.relation.Relation as relation
use Rattle.graph.specs.declared.error.BuildError.{BuildError}
use Rattle.graph.specs.declared.error.BuildError.TheVariants.{Full, Invalid, Conflict}
use Rattle.graph.specs.Content.{Content}
use Rattle.graph.specs.Declarations.{Declared, clashing, error_number, event_error, fits_event, fits_relation, full_of_events, full_of_relations, plus_event, plus_relation, relation_error}
use Rattle.graph.specs.Releases.{release_number}
use Rattle.text.specs.declared.declaration.Declaration.TheVariants.{Stations, Event, Relation}
use Rattle.text.specs.Declarations.{declarations, numbered, related}
use Rattle.text.specs.Reading.{breaks}

numbered-push : (k : ℕ) (es : List event.Event) (e : event.Event) → numbered k (es ++ e ∷ []) ≡ numbered k es ++ Event (k + length es) e.owner (sum_of e.marks) ∷ []
numbered-push k [] e = λ i. Event ((let z : k ≡ k + 0 = omega arith in z) i) e.owner (sum_of e.marks) ∷ []
numbered-push k (x ∷ es) e =
    ap (λ l. Event k x.owner (sum_of x.marks) ∷ l)
    (numbered-push (k + 1) es e ∙ (λ i. numbered (k + 1) es ++ Event ((let z : k + 1 + length es ≡ k + suc (length es) = omega arith in z) i) e.owner (sum_of e.marks) ∷ []))

event-declared : (c : Content) (e : event.Event) (owner marks : ℕ) → e.owner ≡ owner → sum_of e.marks ≡ marks → length c.relations ≡ 0 → declarations (plus_event c e) ≡ declarations c ++ Event (length c.events) owner marks ∷ []
event-declared c e owner marks p q none =
    let head = Stations c.stations (release_number c.release) in
    let gone : map related c.relations ≡ [] = ap (map related) (nil_from_length c.relations none) in
    (λ i. head ∷ numbered-push 0 c.events e i ++ gone i) ∙ append-nil _
    ∙ (λ i. head ∷ sym (append-nil (numbered 0 c.events)) i ++ Event ((let z : 0 + length c.events ≡ length c.events = omega arith in z) i) (p i) (q i) ∷ [])
    ∙ (λ i. head ∷ (numbered 0 c.events ++ sym gone i) ++ Event (length c.events) owner marks ∷ [])

relation-declared : (c : Content) (r : relation.Relation) → declarations (plus_relation c r) ≡ declarations c ++ related r ∷ []
relation-declared c r =
    let head = Stations c.stations (release_number c.release) in
    (λ i. head ∷ numbered 0 c.events ++ map_push related c.relations r i)
    ∙ (λ i. head ∷ sym (append_assoc (numbered 0 c.events) (map related c.relations) (related r ∷ [])) i)

-- the number of what a draft refuses, 0 for nothing
abbrev pub number_of : Option BuildError → ℕ
number_of None = 0
number_of (Some f) = error_number f

told_more : (f : BuildError) → 0 < error_number f
told_more f = grind arith

relation-cases : (full fits met : Bool) → cond full 6 (cond (not fits) 3 (cond met 5 0)) ≡ number_of (cond full (Some Full) (cond fits (cond met (Some Conflict) None) (Some Invalid)))
relation-cases full fits met = grind arith

event-cases : (full fits : Bool) → cond full 6 (cond (not fits) 3 0) ≡ number_of (cond full (Some Full) (cond fits None (Some Invalid)))
event-cases full fits = grind arith

event-breaks : (c : Content) (k o m : ℕ) → nat_lt 0 (length c.relations) ≡ false → breaks (Some c) (Event k o m) ≡ number_of (event_error c k o m)
event-breaks c k o m first = cond-false _ _ _ first ∙ event-cases (full_of_events c) (fits_event c k o m)

relation-breaks : (c : Content) (kind : Kind) (a b : ℕ) → breaks (Some c) (Relation kind a b) ≡ number_of (relation_error c kind a b)
relation-breaks c kind a b = relation-cases (full_of_relations c) (fits_relation c kind a b) (clashing c.relations kind a b)

-- an event that is taken has the next number
taken : (full fits : Bool) → ◌≡◌ {A = Option BuildError} (cond full (Some Full) (cond fits None (Some Invalid))) None → fits ≡ true
taken full fits e = grind arith

next-number : (c : Content) (k o m : ℕ) → event_error c k o m ≡ None → k ≡ length c.events
next-number c k o m e = eqb-true _ _ (and_parts _ _ (and_parts _ _ (taken (full_of_events c) (fits_event c k o m) e)).0).0

-- one more event, or why it is refused
pub event-outcome : (c d : Content) (k o m : ℕ) (r : Result (Unit {0}) BuildError) (same : Type 0) →
    MatchResult r (λ _. (event_error c k o m ≡ None) × ((e : event.Event) × Declared e o m × (d ≡ plus_event c e))) (λ f. (event_error c k o m ≡ Some f) × same) → nat_lt 0 (length c.relations) ≡ false →
    MatchResult r (λ _. declarations d ≡ declarations c ++ Event k o m ∷ []) (λ f. (0 < error_number f) × (breaks (Some c) (Event k o m) ≡ error_number f))
event-outcome c d k o m (Ok x) same h first =
    let z : length c.relations ≡ 0 = (let q = ltb-false 0 _ first in omega arith) in
    ap declarations h.1.2 ∙ event-declared c h.1.0 o m h.1.1.0 h.1.1.1 z
    ∙ (λ i. declarations c ++ Event (sym (next-number c _ _ _ h.0) i) o m ∷ [])
event-outcome c d k o m (Err f) same h first = (told_more f, event-breaks c k o m first ∙ ap number_of h.0)

-- one more relation, or why it is refused
pub relation-outcome : (c d : Content) (kind : Kind) (a b : ℕ) (o : Result (Unit {0}) BuildError) (same : Type 0) →
    MatchResult o (λ _. (relation_error c kind a b ≡ None) × (d ≡ plus_relation c (record { kind = kind; from = a; to = b }))) (λ f. (relation_error c kind a b ≡ Some f) × same) →
    MatchResult o (λ _. declarations d ≡ declarations c ++ Relation kind a b ∷ []) (λ f. (0 < error_number f) × (breaks (Some c) (Relation kind a b) ≡ error_number f))
relation-outcome c d kind a b (Ok x) same h = ap declarations h.1 ∙ relation-declared c _
relation-outcome c d kind a b (Err f) same h = (told_more f, relation-breaks c kind a b ∙ ap number_of h.0)
