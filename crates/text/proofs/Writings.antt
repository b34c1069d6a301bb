-- A text that writes a graph down is not refused, and writes one graph.
use Rattle.std.proofs.Common.{◌≡◌, ℕ, suc, ◌+◌, ◌<◌, ◌≤◌, true, false, cond, not, ◌||◌, eqb, ltb, ◌⊎◌, List, [], ◌∷◌, ◌++◌, map, length, Some, None, Option, sym, refl, ap, ◌∙◌, subst, inl, inr, ⊎_elim, arith}
use Rattle.std.specs.List.{AllByRecursion}
use Rattle.std.proofs.ByRecursion.{All-append, All-from_get_or}
use Rattle.std.proofs.lemmas.List.{get_or_append_left, get_or_at, length-append}
use Rattle.std.proofs.lemmas.Bool.{and_from, and_parts, both_ways, cases_Bool, cond-false, eq-eqb, le-leb, le-ltb, leb-true, lt-ltb, ne_eqb, or_cases}
use Rattle.events.specs.Marks.{sum_of}
use Rattle.events.proofs.Sums.{sum-few, sums_apart}
use Rattle.graph.specs.declared.kind.Kind.{Kind}
use Rattle.graph.specs.declared.kind.Kind.TheVariants.{Condition, Milestone, Response, Include, Exclude}
use Rattle.graph.specs.declared.release.Release.{Release}
use Rattle.graph.specs.declared.release.Release.TheVariants.{Four, Six}
use Rattle.graph.specs.declared.event.Event as event
use Rattle.graph.specs.declared.relation.Relation as relation
use Rattle.graph.specs.Content.{Content, Sound, bare, blank, clash, event_at, relation_at}
use Rattle.graph.specs.Declarations.{clashing}
use Rattle.graph.specs.Releases.{barred, release_number}
use Rattle.text.specs.declared.declaration.Declaration.{Declaration}
use Rattle.text.specs.declared.declaration.Declaration.TheVariants.{Stations, Event, Relation}
use Rattle.text.specs.declared.fault.Report.{Report}
use Rattle.lexer.specs.Bytes.{clean, printable}
use Rattle.lexer.specs.Lines.{lines}
use Rattle.lexer.specs.Numbers.{digit_from, digits, shaped}
use Rattle.text.specs.Declarations.{Fits, declarations, field, letter_of, numbered, related, written}
use Rattle.text.specs.Reading.{Faulty, FirstFault, Refused, SoFar, Writes, breaks, complete, declared}
use Rattle.lexer.proofs.Numerals.{digits-shaped}
use Rattle.text.proofs.FieldLaws.{field-is, field-same}

-- the part of a list that begins as another list does
pub split-map : {A B : Type 0} (f : A → B) (P : A → Type 0) → ((x y : A) → P x → P y → f x ≡ f y → x ≡ y) → (xs ys : List A) (l : B) (rest : List B) → AllByRecursion P xs → AllByRecursion P ys → map f xs ≡ map f ys ++ l ∷ rest → (i : A) × (zs : List A) × (xs ≡ ys ++ i ∷ zs) × (l ≡ f i) × P i
split-map f P inj (x ∷ xs) [] l rest px py e = let h : l ≡ f x = cc in (x, xs, refl, h, px.0)
split-map f P inj (x ∷ xs) (y ∷ ys) l rest px py e =
    let h : f x ≡ f y = cc in
    let t : map f xs ≡ map f ys ++ l ∷ rest = cc in
    let r = split-map f P inj xs ys l rest px.1 py.1 t in
    let s = inj x y px.0 py.0 h in
    (r.0, r.1, (λ i. s i ∷ r.2 i), r.3, r.4)
split-map f P inj [] (y ∷ ys) l rest px py e = absurd cc
split-map f P inj xs ys l rest px py e = absurd cc

pub map_same : {A B : Type 0} (f : A → B) (P : A → Type 0) → ((x y : A) → P x → P y → f x ≡ f y → x ≡ y) → (xs ys : List A) → AllByRecursion P xs → AllByRecursion P ys → map f xs ≡ map f ys → xs ≡ ys
map_same f P inj [] [] px py e = refl
map_same f P inj (x ∷ xs) (y ∷ ys) px py e =
    let h : f x ≡ f y = cc in
    let t : map f xs ≡ map f ys = cc in
    let s = inj x y px.0 py.0 h in
    let r = map_same f P inj xs ys px.1 py.1 t in
    (λ i. s i ∷ r i)
map_same f P inj xs ys px py e = cc

-- a letter is of one kind
kind_by : ℕ → Kind
kind_by n = cond (eqb n 99) Condition (cond (eqb n 109) Milestone (cond (eqb n 114) Response (cond (eqb n 105) Include Exclude)))

back : (k : Kind) → kind_by (letter_of k) ≡ k
unfolding kind_by
back k = grind arith

pub two-same : (a b c d : ℕ) → (a < 1000) × (b < 1000) → (c < 1000) × (d < 1000) → field a ++ field b ≡ field c ++ field d → (a ≡ c) × (b ≡ d)
two-same a b c d f g e =
    let p = field-same a c (field b) (field d) f.0 g.0 (λ _. refl) (λ _. refl) e in
    (p.0, field-is b d f.1 g.1 p.1)

-- a line writes one item
pub written_same : (i j : Declaration) → Fits i → Fits j → written i ≡ written j → i ≡ j
written_same (Stations n r) (Stations m s) fi fj e =
    let t : field n ++ field r ≡ field m ++ field s = cc in
    let p = two-same n r m s fi fj t in
    (λ i. Stations (p.0 i) (p.1 i))
written_same (Event k o m) (Event k' o' m') fi fj e =
    let t : field k ++ (field o ++ field m) ≡ field k' ++ (field o' ++ field m') = cc in
    let p = field-same k k' (field o ++ field m) (field o' ++ field m') fi.0 fj.0 (λ _. refl) (λ _. refl) t in
    let q = two-same o m o' m' (fi.1, fi.2) (fj.1, fj.2) p.1 in
    (λ i. Event (p.0 i) (q.0 i) (q.1 i))
written_same (Relation k a b) (Relation k' a' b') fi fj e =
    let l : letter_of k ≡ letter_of k' = cc in
    let t : field a ++ field b ≡ field a' ++ field b' = cc in
    let p = two-same a b a' b' fi fj t in
    let q = sym (back k) ∙ ap kind_by l ∙ back k' in
    (λ i. Relation (q i) (p.0 i) (p.1 i))
written_same i j fi fj e = absurd (grind arith)

-- a written line is clean
printable-is : (b : ℕ) → 32 ≤ b → b ≤ 126 → printable b ≡ true
printable-is b h k = and_from _ _ (le-leb 32 b h) (le-leb b 126 k)

printable-digit : (low b : ℕ) → 32 ≤ low → digit_from low b ≡ true → printable b ≡ true
printable-digit low b h e = let p = and_parts _ _ e in let a = leb-true low b p.0 in let c = leb-true b 57 p.1 in printable-is b (omega arith) (omega arith)

clean-shaped : (w : List ℕ) → shaped w ≡ true → clean w ≡ true
clean-shaped [] e = refl
clean-shaped (a ∷ []) e = and_from _ _ (printable-digit 48 a (omega arith) e) refl
clean-shaped (a ∷ b ∷ []) e =
    let p = and_parts _ _ e in
    and_from _ _ (printable-digit 49 a (omega arith) p.0) (and_from _ _ (printable-digit 48 b (omega arith) p.1) refl)
clean-shaped (a ∷ b ∷ c ∷ []) e =
    let p = and_parts _ _ e in
    let q = and_parts _ _ p.0 in
    and_from _ _ (printable-digit 49 a (omega arith) q.0) (and_from _ _ (printable-digit 48 b (omega arith) q.1) (and_from _ _ (printable-digit 48 c (omega arith) p.1) refl))
clean-shaped (a ∷ b ∷ c ∷ d ∷ ds) e = absurd (both_ways false refl e)

pub clean-append : (xs ys : List ℕ) → clean xs ≡ true → clean ys ≡ true → clean (xs ++ ys) ≡ true
clean-append [] ys a b = b
clean-append (x ∷ xs) ys a b = let p = and_parts _ _ a in and_from _ _ p.0 (clean-append xs ys p.1 b)

pub clean-field : (n : ℕ) → n < 1000 → clean (field n) ≡ true
clean-field n h = clean-shaped (digits n) (digits-shaped n h).0

letter-printable : (k : Kind) → printable (letter_of k) ≡ true
letter-printable k = grind arith

pub clean-written : (i : Declaration) → Fits i → clean (written i) ≡ true
clean-written (Stations n r) f = clean-append (field n) (field r) (clean-field n f.0) (clean-field r f.1)
clean-written (Event k o m) f = clean-append (field k) (field o ++ field m) (clean-field k f.0) (clean-append (field o) (field m) (clean-field o f.1) (clean-field m f.2))
clean-written (Relation k a b) f = and_from _ _ (letter-printable k) (clean-append (field a) (field b) (clean-field a f.0) (clean-field b f.1))

-- equal declarations are of equal contents
event-same : (x y : event.Event) → x.owner ≡ y.owner → sum_of x.marks ≡ sum_of y.marks → x ≡ y
event-same x y o m = let s = sums_apart x.marks y.marks m in λ j. record { owner = o j; marks = s j }

related_same : (p q : relation.Relation) → Unit {0} → Unit {0} → related p ≡ related q → p ≡ q
related_same p q _ _ e =
    let k : p.kind ≡ q.kind = cc in
    let a : p.from ≡ q.from = cc in
    let b : p.to ≡ q.to = cc in
    (λ i. record { kind = k i; from = a i; to = b i })

all-unit : (rs : List relation.Relation) → AllByRecursion (λ _. Unit {0}) rs
all-unit [] = tt
all-unit (r ∷ rs) = (tt, all-unit rs)

parts_same : (k : ℕ) (es fs : List event.Event) (rs ts : List relation.Relation) → numbered k es ++ map related rs ≡ numbered k fs ++ map related ts → (es ≡ fs) × (rs ≡ ts)
parts_same k [] [] rs ts e = (refl, map_same related (λ _. Unit {0}) related_same rs ts (all-unit rs) (all-unit ts) e)
parts_same k (x ∷ es) (f ∷ fs) rs ts e =
    let o : x.owner ≡ f.owner = cc in
    let m : sum_of x.marks ≡ sum_of f.marks = cc in
    let t : numbered (k + 1) es ++ map related rs ≡ numbered (k + 1) fs ++ map related ts = cc in
    let r = parts_same (k + 1) es fs rs ts t in
    ((λ j. event-same x f o m j ∷ r.0 j), r.1)
parts_same k [] fs [] ts e = absurd cc
parts_same k es [] rs [] e = absurd cc
parts_same k es fs rs ts e = absurd cc

release-same : (r q : Release) → release_number r ≡ release_number q → r ≡ q
release-same r q e = grind arith

pub declarations-same : (c d : Content) → declarations c ≡ declarations d → c ≡ d
declarations-same c d e =
    let st : c.stations ≡ d.stations = cc in
    let rn : release_number c.release ≡ release_number d.release = cc in
    let t : numbered 0 c.events ++ map related c.relations ≡ numbered 0 d.events ++ map related d.relations = cc in
    let r = parts_same 0 c.events d.events c.relations d.relations t in
    let rl = release-same c.release d.release rn in
    (λ i. record { stations = st i; release = rl i; events = r.0 i; relations = r.1 i })

-- the numbers of a graph's declarations have at most three digits
fits-relations : (rs : List relation.Relation) → AllByRecursion (λ r. (r.from < 1000) × (r.to < 1000)) rs → AllByRecursion Fits (map related rs)
fits-relations [] h = tt
fits-relations (r ∷ rs) h = (h.0, fits-relations rs h.1)

fits-events : (k : ℕ) (es : List event.Event) → k + length es < 1000 → AllByRecursion (λ e. e.owner < 1000) es → AllByRecursion Fits (numbered k es)
fits-events k [] l h = tt
fits-events k (e ∷ es) l h = ((omega arith, h.0, let few = sum-few e.marks in omega arith), fits-events (k + 1) es (omega arith) h.1)

release-fits : (r : Release) → release_number r < 1000
release-fits r = grind arith

fits-declarations : (c : Content) → Sound c → AllByRecursion Fits (declarations c)
fits-declarations c s =
    let few = s.few_stations in (
      (omega arith, release-fits c.release),
      All-append Fits (numbered 0 c.events) (map related c.relations)
          (fits-events 0 c.events (let n = s.few_events in omega arith) (All-from_get_or _ c.events bare (λ k h. let b = s.owners k h in omega arith)))
          (fits-relations c.relations (All-from_get_or _ c.relations blank (λ k h. let b = s.ends k h in let n = s.few_events in (omega arith, omega arith)))),
    )

pub fits-declared : (before : Option Content) → SoFar before → AllByRecursion Fits (declared before)
fits-declared None s = tt
fits-declared (Some c) s = fits-declarations c s

some-clash : (rs : List relation.Relation) (r : relation.Relation) → clashing rs r.kind r.from r.to ≡ true → (k : ℕ) × (k < length rs) × (clash (relation_at rs k) r ≡ true)
some-clash [] r e = absurd (both_ways false refl e)
some-clash (q ∷ rs) r e =
    ⊎_elim
    (λ h. (0, omega arith, h))
    (λ h. let t = some-clash rs r h in (suc t.0, omega (arith, t.1), t.2))
    (or_cases _ _ e)

-- what comes after the events fs and the relations ts among the declarations of es and rs
NextEvent : (k : ℕ) (es fs : List event.Event) (ts : List relation.Relation) (d : Declaration) → Type 0
NextEvent k es fs ts d = (ts ≡ []) × ((e : event.Event) × (es' : List event.Event) × (es ≡ fs ++ e ∷ es') × (d ≡ Event (k + length fs) e.owner (sum_of e.marks)))

NextRelation : (es fs : List event.Event) (rs ts : List relation.Relation) (d : Declaration) → Type 0
NextRelation es fs rs ts d = (es ≡ fs) × ((r : relation.Relation) × (rs' : List relation.Relation) × (rs ≡ ts ++ r ∷ rs') × (d ≡ related r))

next : (k : ℕ) (es fs : List event.Event) (rs ts : List relation.Relation) (d : Declaration) (zs : List Declaration) → numbered k es ++ map related rs ≡ (numbered k fs ++ map related ts) ++ d ∷ zs → NextEvent k es fs ts d ⊎ NextRelation es fs rs ts d
unfolding NextEvent NextRelation
next k [] [] rs ts d zs e =
    let r = split-map related (λ _. Unit {0}) related_same rs ts d zs (all-unit rs) (all-unit ts) e in
    inr (refl, (r.0, r.1, r.2, r.3))
next k (x ∷ es) [] rs [] d zs e =
    let h : d ≡ Event k x.owner (sum_of x.marks) = cc in
    inl (refl, (x, es, refl, h ∙ (λ j. Event ((let z : k ≡ k + 0 = omega arith in z) j) x.owner (sum_of x.marks))))
next k (x ∷ es) (f ∷ fs) rs ts d zs e =
    let o : x.owner ≡ f.owner = cc in
    let m : sum_of x.marks ≡ sum_of f.marks = cc in
    let same : x ≡ f = event-same x f o m in
    let t : numbered (k + 1) es ++ map related rs ≡ (numbered (k + 1) fs ++ map related ts) ++ d ∷ zs = cc in
    ⊎_elim
    (λ r. inl (r.0, (r.1.0, r.1.1, (λ j. same j ∷ r.1.2 j), r.1.3 ∙ (λ j. Event ((let z : k + 1 + length fs ≡ k + suc (length fs) = omega arith in z) j) r.1.0.owner (sum_of r.1.0.marks)))))
    (λ r. inr ((λ j. same j ∷ r.0 j), r.1))
    (next (k + 1) es fs rs ts d zs t)
next k [] fs [] ts d zs e = absurd cc
next k es fs rs ts d zs e = absurd cc

known : (r : Release) → (eqb (release_number r) 4 || eqb (release_number r) 6) ≡ true
known Four = refl
known Six = refl

barred-is : (r : Release) (k : Kind) → barred r k ≡ true → (r ≡ Four) × (k ≡ Milestone)
barred-is Four Milestone e = (refl, refl)
barred-is Four Condition e = absurd (both_ways false refl e)
barred-is Four Response e = absurd (both_ways false refl e)
barred-is Four Include e = absurd (both_ways false refl e)
barred-is Four Exclude e = absurd (both_ways false refl e)
barred-is Six k e = absurd (both_ways false refl e)

-- a declaration of a graph can follow those before it: h is declared so far, g in the end
module _ (h g : Content) (s : Sound g) (st : g.stations ≡ h.stations) (rl : g.release ≡ h.release) (d : Declaration) where
  event-follows : NextEvent 0 g.events h.events h.relations d → breaks (Some h) d ≡ 0
  unfolding NextEvent
  event-follows n =
      let x = n.1.0 in
      let rest = n.1.1 in
      let is = n.1.2 in
      let at = length h.events in
      let none : length h.relations ≡ 0 = ap length n.0 in
      let long : length g.events ≡ at + suc (length rest) = ap length is ∙ length-append h.events (x ∷ rest) in
      let few = s.few_events in
      let lt : at < length g.events = omega arith in
      let here : event_at g.events at ≡ x = ap (λ l. event_at l at) is ∙ get_or_at h.events x rest bare at refl in
      let own : x.owner < h.stations = subst (λ y. y.owner < h.stations) here (subst (λ m. (event_at g.events at).owner < m) st (s.owners at lt)) in
      let k : 0 + at ≡ at = omega arith in
      subst (λ y. breaks (Some h) y ≡ 0) (sym n.1.3)
      (cond-false _ _ _ (le-ltb 0 (length h.relations) (omega arith))
      ∙ cond-false _ _ _ (ne_eqb at 64 (λ q. omega arith))
      ∙ cond-false _ _ _ (ap not (and_from _ _ (and_from _ _ (eq-eqb _ _ k) (lt-ltb x.owner h.stations own)) (le-leb (sum_of x.marks) 7 (sum-few x.marks)))))

  relation-follows : NextRelation g.events h.events g.relations h.relations d → breaks (Some h) d ≡ 0
  unfolding NextRelation
  relation-follows n =
      let r = n.1.0 in
      let rest = n.1.1 in
      let is = n.1.2 in
      let at = length h.relations in
      let ev : length g.events ≡ length h.events = ap length n.0 in
      let long : length g.relations ≡ at + suc (length rest) = ap length is ∙ length-append h.relations (r ∷ rest) in
      let few = s.few_relations in
      let lt : at < length g.relations = omega arith in
      let here : relation_at g.relations at ≡ r = ap (λ l. relation_at l at) is ∙ get_or_at h.relations r rest blank at refl in
      let ends : (r.from < length h.events) × (r.to < length h.events) = subst (λ y. (y.from < length h.events) × (y.to < length h.events)) here (subst (λ m. ((relation_at g.relations at).from < m) × ((relation_at g.relations at).to < m)) ev (s.ends at lt)) in
      let had : barred h.release r.kind ≡ false =
      ⊎_elim
      (λ t. let p = barred-is h.release r.kind t in absurd (s.milestones (rl ∙ p.0) at lt (ap (λ y. y.kind) here ∙ p.1)))
      (λ f. f)
      (cases_Bool (barred h.release r.kind)) in
      let free : clashing h.relations r.kind r.from r.to ≡ false =
      ⊎_elim
      (λ t. let k = some-clash h.relations r t in
      let that : relation_at g.relations k.0 ≡ relation_at h.relations k.0 = ap (λ l. relation_at l k.0) is ∙ get_or_append_left h.relations (r ∷ rest) blank k.0 k.1 in
      absurd (s.apart k.0 at k.1 lt ((λ j. clash (that j) (here j)) ∙ k.2)))
      (λ f. f)
      (cases_Bool (clashing h.relations r.kind r.from r.to)) in
      subst (λ y. breaks (Some h) y ≡ 0) (sym n.1.3)
      (cond-false _ _ _ (ne_eqb at 512 (λ q. omega arith))
      ∙ cond-false _ _ _ (ap not (and_from _ _ (and_from _ _ (lt-ltb r.from _ ends.0) (lt-ltb r.to _ ends.1)) (ap not had)))
      ∙ cond-false _ _ _ free)

pub follows : (before : Option Content) (g : Content) (d : Declaration) (zs : List Declaration) → Sound g → declarations g ≡ declared before ++ d ∷ zs → breaks before d ≡ 0
follows None g d zs s e =
    let first : Stations g.stations (release_number g.release) ≡ d = cc in
    subst (λ x. breaks None x ≡ 0) first
    (cond-false _ _ _ (ap not (and_from _ _ (and_from _ _ (lt-ltb 0 g.stations s.some_stations) (le-leb g.stations 8 s.few_stations)) (known g.release))))
follows (Some h) g d zs s e =
    let st : g.stations ≡ h.stations = cc in
    let rn : release_number g.release ≡ release_number h.release = cc in
    let t : numbered 0 g.events ++ map related g.relations ≡ (numbered 0 h.events ++ map related h.relations) ++ d ∷ zs = cc in
    let rl = release-same g.release h.release rn in
    ⊎_elim (event-follows h g s st rl d) (relation-follows h g s st rl d) (next 0 g.events h.events g.relations h.relations d zs t)

-- a line that writes such a declaration has no fault
pub no-fault : (before : Option Content) (d : Declaration) (l : List ℕ) (k : ℕ) (p : Report) → l ≡ written d → Fits d → breaks before d ≡ 0 → Faulty before l k p → ⊥
no-fault before d l k p is fit none =
    elim [
      | inl (inl bad) ↦ both_ways _ bad.0 (ap clean is ∙ clean-written d fit)
      | inl (inr bad) ↦ bad.1 d fit is
      | inr (j, fj, e, more, told) ↦
          let same : j ≡ d = written_same j d fj fit (sym e ∙ is) in
          let z : breaks before j ≡ 0 = ap (breaks before) same ∙ none in
          omega arith
    ]

-- a text that ends too soon writes no graph with an event
whole : (before : Option Content) (g : Content) → declarations g ≡ declared before → 0 < length g.events → complete before ≡ false → ⊥
whole None g e some bad = let z : ◌≡◌ {A = ℕ} (suc (length (numbered 0 g.events ++ map related g.relations))) 0 = ap length e in omega arith
whole (Some h) g e some bad = let same = declarations-same g h e in both_ways _ bad (subst (λ c. ltb 0 (length c.events) ≡ true) same (lt-ltb 0 (length g.events) some))

first-refused : (text : List ℕ) (g : Content) (p : Report) → Writes text g → FirstFault (lines text) p → ⊥
first-refused text g p w f =
    let r = split-map written Fits written_same (declarations g) (declared f.before) f.line f.rest (fits-declarations g w.sound) (fits-declared f.before f.sound) (sym w.written ∙ f.split) in
    no-fault f.before r.0 f.line (length (declared f.before) + 1) p r.3 r.4 (follows f.before g r.0 r.1 w.sound r.2) f.faulty

pub not-refused : (text : List ℕ) (g : Content) (p : Report) → Writes text g → Refused text p → ⊥
not-refused text g p w =
    elim [
      | inl long ↦ let a = w.short in let b = long.0 in omega arith
      | inr (short, inl f) ↦ first-refused text g p w f
      | inr (short, inr u) ↦ whole u.before g (map_same written Fits written_same (declarations g) (declared u.before) (fits-declarations g w.sound) (fits-declared u.before u.sound) (sym w.written ∙ u.all)) w.some u.lacks
    ]

pub one-writing : (text : List ℕ) (c d : Content) → Writes text c → Writes text d → c ≡ d
one-writing text c d a b = declarations-same c d (map_same written Fits written_same (declarations c) (declarations d) (fits-declarations c a.sound) (fits-declarations d b.sound) (sym a.written ∙ b.written))
