-- A settle, one message more at a time, and the table of its answers.
use Rattle.std.proofs.Common.{◌≡◌, ℕ, ◌+◌, ◌-◌, ◌*◌, ◌/◌, ◌%◌, ◌<◌, ◌≤◌, min, Bool, true, ltb, List, [], ◌∷◌, ◌++◌, length, get_or, take, drop, set, Some, None, Ok, Err, Option, Result, sym, refl, ap, ◌∙◌, subst, subst₂, inl, inr, append_assoc, append-nil, arith, length-take, take_all, take_at}
use lib.Seq.{set-append_seam, take-append-le}
use Rattle.std.proofs.lemmas.List.{drop_more, length_push}
use Rattle.std.proofs.lemmas.Bool.Decides.{nat_tests}
use Rattle.rules.specs.Lowest.{Tells}
use Rattle.rules.specs.Rule.{Meaning}
use Rattle.protocol.proofs.Pairs.{filled, holds_at, pair-tells}
use Rattle.protocol.specs.Machine.{unless}
use Rattle.protocol.specs.Queues.{Queues}
use Rattle.protocol.specs.Served.{Served}
use Rattle.protocol.specs.Sites.{Site}
use Rattle.protocol.specs.Turns.{Carries, Chain, Obeys, Serves, Status, Transfer, Turn, answers_in, holds_any, lowest_pair, one_answer, refusal}
use Rattle.protocol.specs.declared.answer.Answer.{Answer}
use Rattle.protocol.specs.declared.call.Call.TheVariants.{Settle}
use Rattle.protocol.specs.declared.call.Reply.TheVariants.{Settled}
use Rattle.protocol.specs.declared.delivery.StrayMessage.{StrayMessage}
use Rattle.protocol.specs.declared.refusal.Refusal.{Refusal}
use Rattle.protocol.specs.declared.refusal.Refusal.TheVariants.{ShortTable, WrongState}
use Rattle.site.specs.Outcomes.{settling}
use Rattle.site.specs.Settling.{AllCarried, Carrying, Settles, noted}
use Rattle.site.specs.Transfers.{Transferred}
use Rattle.site.specs.declared.site.CarryAnswer.{CarryAnswer}
use Rattle.site.specs.declared.site.CarryAnswer.TheVariants.{Nothing, Carried, Answered}
use Rattle.site.specs.declared.site.Settlement.{Settlement}

-- the lowest pair holds a message
lowest-filled : (Q : Queues) (a b : ℕ) → lowest_pair Q ≡ Some (8 * a + b) → b < 8 → Q a b ≡ [] → ⊥
lowest-filled Q a b h l e =
    let t = subst (Tells (holds_at Q) 64) h (pair-tells Q) in
    let d : (8 * a + b) / 8 ≡ a = omega arith in
    let m : (8 * a + b) % 8 ≡ b = omega arith in
    filled (Q a b) (subst₂ (λ x y. holds_any (Q x y) ≡ true) d m t.0) e

-- ---- the table

-- as many answers as the table notes
noted-all : (answers table : List Answer) → length answers ≤ 8 → noted answers table ≡ answers ++ drop (length answers) table
noted-all answers table h = ap (λ (l : List Answer). l ++ drop (length l) table) (take_all 8 answers h)

-- an answer more, up to eight
noted_more : (answers old : List Answer) (v : Answer) → length answers < 8 → 8 ≤ length old →
    set (noted answers old) (length answers) v ≡ noted (answers ++ (v ∷ [])) old
noted_more answers old v h l =
    let k : ℕ = length answers in
    let e = length_push answers v in
    ap (λ (t : List Answer). set t k v) (noted-all answers old (omega arith) ∙ ap (λ (r : List Answer). answers ++ r) (drop_more old k v (omega arith)))
    ∙ set-append_seam answers (get_or old k v) (drop (k + 1) old) v
    ∙ sym (append_assoc answers (v ∷ []) (drop (k + 1) old))
    ∙ ap (λ (n : ℕ). (answers ++ (v ∷ [])) ++ drop n old) (sym e)
    ∙ sym (noted-all (answers ++ (v ∷ [])) old (omega arith))

-- a ninth answer is not noted
noted-ninth : (answers old : List Answer) (v : Answer) → length answers ≡ 8 → noted (answers ++ (v ∷ [])) old ≡ noted answers old
noted-ninth answers old v h =
    ap (λ (l : List Answer). l ++ drop (length l) old) (take-append-le 8 answers (v ∷ []) (omega arith))

-- ---- the messages

answers-more : (xs : List Transfer) (x : Transfer) → answers_in (xs ++ (x ∷ [])) ≡ answers_in xs ++ one_answer x.answer
answers-more [] x = append-nil (one_answer x.answer)
answers-more (y ∷ xs) x =
    ap (λ (l : List Answer). one_answer y.answer ++ l) (answers-more xs x)
    ∙ sym (append_assoc (one_answer y.answer) (answers_in xs) (one_answer x.answer))

chain_more : (R : Meaning) (limit : ℕ) (S T : Site) (xs : List Transfer) (x : Transfer) → Chain R limit S xs T →
    lowest_pair T.waits ≡ Some (8 * x.from + x.to) → x.to < 8 → Carries R limit T x → Chain R limit S (xs ++ (x ∷ [])) x.site
chain_more R limit S T [] x c l t d =
    let P : Site → Type 0 = λ X. (lowest_pair X.waits ≡ Some (8 * x.from + x.to)) × (x.to < 8) × Carries R limit X x × (x.site ≡ x.site) in
    subst P c (l, t, d, refl)
chain_more R limit S T (y ∷ xs) x c l t d = (c.0, c.1, c.2, chain_more R limit y.site T xs x c.3 l t d)

-- ---- the settle

-- a message from a to b, which leaves U
abbrev over : ℕ → ℕ → Site → Option Answer → Transfer
over a b U o = record { from = a; to = b; answer = o; site = U }

-- after some messages, one more from the lowest pair
module _ (R : Meaning) (limit : ℕ) (S : Site) (old : List Answer) (n k : ℕ) (table : List Answer) (T : Site) (c : Carrying R limit S old n k table T) (a b : ℕ) (low : lowest_pair T.waits ≡ Some (8 * a + b)) (t : b < 8) (U : Site) where
  longer : (o : Option Answer) → Carries R limit T (over a b U o) → Chain R limit S (c.transfers ++ (over a b U o ∷ [])) U
  longer o d = chain_more R limit S T c.transfers (over a b U o) c.chain low t d

  -- it gives no answer
  pub carrying-on : Carries R limit T (over a b U None) → Carrying R limit S old (n + 1) k table U
  carrying-on d =
      let m = length_push c.transfers (over a b U None) in let e = c.messages_are in
      let v = answers-more c.transfers (over a b U None) ∙ append-nil (answers_in c.transfers) in
      record {
        transfers = c.transfers ++ (over a b U None ∷ []);
        chain = longer None d;
        messages_are = omega arith;
        answers_are = ap length v ∙ c.answers_are;
        few = c.few;
        table_is = c.table_is ∙ ap (λ (l : List Answer). noted l old) (sym v);
      }

  module _ (v : Answer) (d : Carries R limit T (over a b U (Some v))) where
    more : answers_in (c.transfers ++ (over a b U (Some v) ∷ [])) ≡ answers_in c.transfers ++ (v ∷ [])
    more = answers-more c.transfers (over a b U (Some v))

    -- it gives one of the first eight answers
    pub answering-on : k < 8 → 8 ≤ length old → Carrying R limit S old (n + 1) (k + 1) (set table k v) U
    answering-on f room =
        let m = length_push c.transfers (over a b U (Some v)) in let e = c.messages_are in
        let r = c.answers_are in
        record {
          transfers = c.transfers ++ (over a b U (Some v) ∷ []);
          chain = longer (Some v) d;
          messages_are = omega arith;
          answers_are = ap length more ∙ length_push (answers_in c.transfers) v ∙ ap (λ (j : ℕ). j + 1) r;
          few = omega arith;
          table_is =
              ap (λ (l : List Answer). set l k v) c.table_is
              ∙ ap (λ (j : ℕ). set (noted (answers_in c.transfers) old) j v) (sym r)
              ∙ noted_more (answers_in c.transfers) old v (omega arith) room
              ∙ ap (λ (l : List Answer). noted l old) (sym more);
        }

    -- it gives a ninth answer
    carry-ninth : (e : StrayMessage) → 8 ≤ k → AllCarried R limit S old (Err e) table U
    carry-ninth e f =
        let r = c.answers_are in let s = c.few in let p = length_push (answers_in c.transfers) v in
        let w = ap length more in
        let is = c.table_is ∙ sym (noted-ninth (answers_in c.transfers) old v (omega arith)) ∙ ap (λ (l : List Answer). noted l old) (sym more) in
        (c.transfers ++ (over a b U (Some v) ∷ []), U, longer (Some v) d, inr (inr (omega arith), refl), is)

  -- it gives a ninth answer: a pair that holds a message always gives one, and an answer within the first eight goes on
  pub carry-ends : (x : CarryAnswer) → Transferred R limit T a b (Ok x) U → (x ≡ Carried → ⊥) → ((v : Answer) → x ≡ Answered v → 8 ≤ k) → (e : StrayMessage) → AllCarried R limit S old (Err e) table U
  carry-ends Nothing d other ninth e = absurd (lowest-filled T.waits a b low t d.0)
  carry-ends Carried d other ninth e = absurd (other refl)
  carry-ends (Answered v) d other ninth e = carry-ninth v d e (ninth v refl)

-- ---- the call, with a part of eight entries for its table

module _ (R : Meaning) (limit : ℕ) (h g : Status) (room m : ℕ) (is : m ≡ min room 8) (eight : List Answer) (full : length eight ≡ 8) where
  same-refusal : refusal R h (Settle (length (take (m - 0) eight))) ≡ refusal R h (Settle room)
  same-refusal =
      let l = length-take (m - 0) eight in
      let e : ltb 7 (length (take (m - 0) eight)) ≡ ltb 7 room = grind (arith, nat_tests) in
      ap (λ (t : Bool). unless h.is_open WrongState (unless t ShortTable None)) e

  obeys : (t : Turn) (o : Option Refusal) → t.call ≡ Settle room → refusal R h (Settle (length (take (m - 0) eight))) ≡ o → Obeys R limit h t o → Serves R limit h t
  obeys t o call e = subst (Obeys R limit h t) (sym e ∙ same-refusal ∙ ap (refusal R h) (sym call))

  pub settle-served : (r : Result Settlement Refusal) (table rest : List Answer) → Settles R limit h (take (m - 0) eight) r table g →
      Served R limit h (Settle room) (settling r (table ++ rest)) g
  settle-served (Ok s) table rest (fine, T, c, none, e) =
      let v : List Answer = answers_in c.transfers in
      let w : List Answer = drop (length v) (take (m - 0) eight) in
      let few = c.few in
      let are = c.answers_are in
      let gives = ap (λ (n : ℕ). Ok (Settled (record { table = table ++ rest; count = s.answers }) n)) (sym c.messages_are) in
      let whole = ap (λ (l : List Answer). l ++ rest) (c.table_is ∙ noted-all v (take (m - 0) eight) (omega arith)) ∙ append_assoc v w rest in
      let told = ap (take s.answers) whole ∙ take_at v (w ++ rest) s.answers are in
      inl (c.transfers, obeys _ None refl fine (T, c.chain, none, e, record { table = table ++ rest; count = s.answers }, gives, told))
  settle-served (Err x) table rest (inl (refused, table_is, e)) = inl ([], obeys _ (Some x) refl refused (refl, refl, e))
  settle-served (Err x) table rest (inr (fine, stray, xs, S, T, chain, ends, table_is, e)) =
      inr ((sym same-refusal ∙ fine, xs, S, T, chain, ends, e), ap Err stray)
