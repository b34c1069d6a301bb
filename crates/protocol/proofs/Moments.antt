-- A message carried keeps the site in step with the machine.
use Rattle.std.proofs.Common.{◌≡◌, ℕ, suc, ◌+◌, ◌≤◌, Bool, true, false, cond, not, ◌&&◌, List, [], ◌∷◌, ◌++◌, length, is_some, Some, None, Option, sym, refl, ap, ◌∙◌, subst, ap₂, append_assoc, append-nil, arith, length-append, Ok, Err}
use Rattle.std.proofs.lemmas.Bool.Decides.{nat_tests}
use Rattle.lines.specs.declared.note.Note.{Note}
use Rattle.rules.specs.Rule.{Meaning}
use Rattle.protocol.specs.declared.answer.Answer.{Answer}
use Rattle.protocol.specs.Outcomes.{Delivery}
use Rattle.std.specs.List.{AllByRecursion}
use Rattle.protocol.specs.Station.{Step, put_pair, is, step}
use Rattle.protocol.specs.Queues.{Queues}
use Rattle.protocol.specs.Sites.{Site, moved}
use Rattle.protocol.specs.Costs.{total, count, cost, costs}
use Rattle.protocol.specs.Machine.{Machine, decides, answers, Gives, gave}
use Rattle.protocol.specs.Turns.{Transfer, is_stray, goes, answer_of, Carries, Chain, one_answer, answers_in}
use Rattle.protocol.specs.Served.{Stuck}
use Rattle.protocol.specs.Promise.{Moment, later, after_each, Proper}
use Rattle.protocol.proofs.Whole.{Both, expects, after, open_cost, due, open_count, Spent}
use Rattle.protocol.proofs.Locking.{Invariant}
use Rattle.protocol.proofs.Shows.{Shows}
use Rattle.protocol.proofs.Carrying.{InStep, carry-next, shown_of, moves_next}
use Rattle.protocol.proofs.OwnOnly.{OwnOnly, own-step, own-moved}

abbrev pub both_of : Meaning → Moment → Both
both_of R m = record { site = m.site; table = m.machine; said = []; judged = []; strays = false; carries = m.carried; costs = costs R m.answers }

-- the site is in step with the machine, and its stations have records of their own events only
pub record Coherent (R : Meaning) (m : Moment) : Type 0 where
  pub in_step : InStep R (both_of R m)
  pub own : OwnOnly R m.site

pub same_step : (R : Meaning) (B C : Both) → InStep R B → C.table ≡ B.table → C.site ≡ B.site → C.said ≡ C.judged →
    C.strays ≡ false → C.carries ≡ B.carries → C.costs ≡ B.costs → InStep R C
same_step R B C g t s a n c k = record {
  locking = g.locking;
  invariant = subst (λ (T : Machine). Invariant R g.locking T.marking) (sym t) g.invariant;
  shown = subst (λ (S : Site). Shows R S g.locking) (sym s) g.shown;
  asked = λ u. ap (λ (T : Machine). T.asked u) t ∙ g.asked u;
  answers = a;
  no_stray = n;
  counted = let h = g.counted in omega arith;
}

-- ---- answers in a row

costs-append : (R : Meaning) (xs ys : List Answer) → costs R (xs ++ ys) ≡ costs R xs + costs R ys
costs-append R [] ys = omega arith
costs-append R (x ∷ xs) ys = let h = costs-append R xs ys in omega arith

gave-append : (R : Meaning) (m : Machine) (xs ys : List Answer) → gave R (gave R m xs) ys ≡ gave R m (xs ++ ys)
gave-append R m [] ys = refl
gave-append R m (x ∷ xs) ys = gave-append R (answers R m x.event) xs ys

gives-append : (R : Meaning) (m : Machine) (xs ys : List Answer) → Gives R m xs → Gives R (gave R m xs) ys → Gives R m (xs ++ ys)
gives-append R m [] ys g h = h
gives-append R m (x ∷ xs) ys g h = (g.0, g.1, gives-append R (answers R m x.event) xs ys g.2 h)

judged-so : (b : Bool) (x y : Answer) → (x ∷ []) ≡ cond b (y ∷ []) [] → (b ≡ true) × (x ≡ y)
judged-so b x y h = (grind arith, grind arith)

by-some : (o : Option ℕ) (e : ℕ) → is o e ≡ true → o ≡ Some e
by-some o e h = grind (arith, nat_tests)

-- what is due, and what is open, are read off the costs and the table
same-due : (R : Meaning) (C D : Both) → D.table ≡ C.table → D.costs ≡ C.costs → due R D ≡ due R C
same-due R C D t c = ap₂ (λ (n : ℕ) (T : Machine). n + total (λ s. open_cost R (T.asked s)) R.stations) c t

same-open : (R : Meaning) (C D : Both) → D.table ≡ C.table → open_count R D ≡ open_count R C
same-open R C D t = ap (λ (T : Machine). count (λ s. is_some (T.asked s)) R.stations) t

-- ---- one message

module _ (R : Meaning) where
  abbrev landed : Moment → Option Answer → Site → Moment
  landed m o S = later R m (record { from = 0; to = 0; answer = o; site = S })

  -- messages carried from m to n: the site is still in step, the machine gives the answers, and nothing that is due is lost
  pub record Advances (m n : Moment) (given : List Answer) : Type 0 where
    pub coherent : Coherent R n
    pub gives : Gives R m.machine given
    pub dues : due R (both_of R n) ≡ due R (both_of R m)
    pub opens : length given + open_count R (both_of R n) ≡ open_count R (both_of R m)

  lands : (m : Moment) (w : Delivery) (S : Site) → OwnOnly R S → InStep R (after R (both_of R m) S (Some w)) →
      Spent R (both_of R m) (after R (both_of R m) S (Some w)) → Advances m (landed m (answer_of w) S) (one_answer (answer_of w))
  lands m (Err stray) S own g p = let h = g.no_stray in absurd (grind arith)
  lands m (Ok None) S own g p =
      let B : Both = both_of R m in
      let C : Both = after R B S (Some (Ok None)) in
      let D : Both = both_of R (landed m None S) in
      let k : costs R (m.answers ++ []) ≡ costs R m.answers = ap (costs R) (append-nil m.answers) in
      let d = same-due R C D refl k in let p1 = p.1 in let p2 = p.2 in
      record {
        coherent = record { in_step = same_step R C D g refl refl refl refl refl k; own = own };
        gives = tt;
        dues = d ∙ p1;
        opens = (let z : 0 + open_count R B ≡ open_count R B = omega arith in p2 ∙ z);
      }
  lands m (Ok (Some a)) S own g p =
      let B : Both = both_of R m in
      let C : Both = after R B S (Some (Ok (Some a))) in
      let D : Both = both_of R (landed m (Some a) S) in
      let j = judged-so (expects R m.machine a.event) a (decides R m.machine a.event) g.answers in
      let k : costs R (m.answers ++ a ∷ []) ≡ costs R m.answers + cost R a.event =
      (let h = costs-append R m.answers (a ∷ []) in omega arith) in
      let t : D.table ≡ C.table = ap (λ (b : Bool). cond b D.table B.table) (sym j.0) in
      let d = same-due R C D t k in let o = same-open R C D t in let p1 = p.1 in let p2 = p.2 in
      record {
        coherent = record { in_step = same_step R C D g t refl refl refl refl k; own = own };
        gives = (by-some (m.machine.asked (R.owner a.event)) a.event j.0, j.1, tt);
        dues = d ∙ p1;
        opens = (let z : 0 + open_count R B ≡ open_count R B = omega arith in ap (λ n. 1 + n) o ∙ p2 ∙ z);
      }

  module _ (P : Proper R) (limit : ℕ) (enough : 3 ≤ limit) where
    not-stray : (B : Both) (S : Site) (w : Delivery) → InStep R (after R B S (Some w)) → is_stray w ≡ false
    not-stray B S w g = let h = g.no_stray in grind arith

    -- no message is stray, and no pair full
    always-goes : (B : Both) → InStep R B → (a b : ℕ) (n : Option Note) (q : List (Option Note)) → B.site.waits a b ≡ n ∷ q →
        goes limit (put_pair B.site.waits a b q) b (step R b (B.site.station b) a n) ≡ true
    always-goes B G a b n q h =
        let Q : Queues = put_pair B.site.waits a b q in
        let t : Step = step R b (B.site.station b) a n in
        let k = carry-next R P.lawful P.stations B G a b n q h in
        let r = moves_next R limit enough B Q b t k.0.locking (shown_of R B (Some t.delivery) (moved B.site Q b t) k.0) in
        let s = not-stray B (moved B.site Q b t) t.delivery k.0 in
        ap₂ (λ (c d : Bool). not c && d) s r

    pub never_stuck : (m : Moment) → Coherent R m → (a b : ℕ) (T : Site) → Stuck R limit m.site a b T → ⊥
    never_stuck m G a b T k =
        let y = always-goes (both_of R m) G.in_step a b k.oldest k.others k.waits in let n = k.unfit in grind arith

    pub carried-well : (m : Moment) → Coherent R m → (x : Transfer) → Carries R limit m.site x → Advances m (later R m x) (one_answer x.answer)
    carried-well m G x c =
        let Q : Queues = put_pair m.site.waits x.from x.to c.others in
        let t : Step = step R x.to (m.site.station x.to) x.from c.oldest in
        let n = carry-next R P.lawful P.stations (both_of R m) G.in_step x.from x.to c.oldest c.others c.waits in
        let own = own-moved R m.site Q x.to t G.own (own-step R x.to (m.site.station x.to) (G.own x.to) x.from c.oldest) in
        let r = lands m t.delivery (moved m.site Q x.to t) own n.0 n.1 in
        let A : Option Answer → Site → Type 0 = λ o S. Advances m (landed m o S) (one_answer o) in
        subst (λ (o : Option Answer). A o x.site) (sym c.answers) (subst (A (answer_of t.delivery)) (sym c.moves) r)

    -- ---- messages in a row

    abbrev pub ended : Moment → List Transfer → Site → Moment
    ended m xs T = record { site = T; machine = gave R m.machine (answers_in xs); answers = m.answers ++ answers_in xs; carried = m.carried + length xs }

    ended-more : (m : Moment) (x : Transfer) (xs : List Transfer) (T : Site) → ended (later R m x) xs T ≡ ended m (x ∷ xs) T
    ended-more m x xs T =
        let k = gave-append R m.machine (one_answer x.answer) (answers_in xs) in
        let a = append_assoc m.answers (one_answer x.answer) (answers_in xs) in
        let n : suc m.carried + length xs ≡ m.carried + length (x ∷ xs) = omega arith in
        λ i. record { site = T; machine = k i; answers = a i; carried = n i }

    ended-none : (m : Moment) (T : Site) → T ≡ m.site → m ≡ ended m [] T
    ended-none m T e =
        let a = append-nil m.answers in
        let n : m.carried ≡ m.carried + length {A = Transfer} [] = omega arith in
        λ i. record { site = sym e i; machine = m.machine; answers = sym a i; carried = n i }

    pub chain-well : (m : Moment) → Coherent R m → (xs : List Transfer) (T : Site) → Chain R limit m.site xs T →
        AllByRecursion (Coherent R) (after_each R m xs) × Advances m (ended m xs T) (answers_in xs)
    chain-well m G [] T c =
        (tt, subst (λ (n : Moment). Advances m n []) (ended-none m T c) (record { coherent = G; gives = tt; dues = refl; opens = omega arith }))
    chain-well m G (x ∷ xs) T c =
        let first = carried-well m G x c.2 in
        let r = chain-well (later R m x) first.coherent xs T c.3 in
        let d0 = first.dues in let d1 = r.1.dues in let o0 = first.opens in let o1 = r.1.opens in
        let l = length-append (one_answer x.answer) (answers_in xs) in (
          (first.coherent, r.0),
          subst (λ (n : Moment). Advances m n (answers_in (x ∷ xs))) (ended-more m x xs T) (record {
            coherent = r.1.coherent;
            gives = gives-append R m.machine (one_answer x.answer) (answers_in xs) first.gives r.1.gives;
            dues = d1 ∙ d0;
            opens = omega arith;
          }),
        )
