-- The reader's progress: the lines so far are those of the draft.
use Rattle.std.proofs.Common.{◌≡◌, ℕ, ◌+◌, ◌≤◌, ltb, false, List, [], ◌∷◌, ◌++◌, map, length, Some, None, Option, MatchOption, MatchResult, sym, ap, ◌∙◌, subst, inl, inr, append_assoc, append-nil, arith}
use Rattle.std.proofs.lemmas.List.{length_push, map-append}
use Rattle.std.specs.Option.{ok_or}
use Rattle.graph.specs.declared.graph.Graph.{Graph}
use Rattle.graph.specs.Content.{Content, Sound}
use Rattle.graph.specs.Held.{content}
use Rattle.text.specs.Faults.{told}
use Rattle.text.specs.declared.fault.GraphFault.{GraphFault}
use Rattle.text.specs.declared.declaration.Declaration.{Declaration}
use Rattle.text.specs.declared.fault.Report.{Report}
use Rattle.lexer.specs.Lines.{lines, successor}
use Rattle.text.specs.Declarations.{declarations, written}
use Rattle.text.specs.Reading.{Comes, Faulty, Refused, SoFar, Writes, complete, declared}

-- the lines of the text so far, n of them, are those declared, and rest is left
pub record Reached (text : List ℕ) (before : Option Content) (rest : List ℕ) (n : ℕ) : Type 0 where
  pub short : length text ≤ 65536
  pub sound : SoFar before
  pub seen : lines text ≡ map written (declared before) ++ lines rest
  pub count : n ≡ length (declared before)
  pub room : n + length rest ≤ length text

module _ {text : List ℕ} {before : Option Content} {rest : List ℕ} {n : ℕ} (s : Reached text before rest n) where
  module _ (l tail : List ℕ) (next : Comes rest l tail) where
    counted : successor n ≡ length (declared before) + 1
    counted = let a = s.room in let b = s.short in let c = next.1 in let d = s.count in omega arith

    pub fault : (p : Report) → Faulty before l (successor n) p → Refused text p
    fault p bad =
        inr (
          s.short,
          inl (record {
            before = before;
            sound = s.sound;
            line = l;
            rest = lines tail;
            split = s.seen ∙ ap (λ x. map written (declared before) ++ x) next.0;
            faulty = subst (λ k. Faulty before l k p) counted bad;
          }),
        )

    pub more : (c : Content) (d : Declaration) → l ≡ written d → Sound c → declarations c ≡ declared before ++ d ∷ [] → Reached text (Some c) tail (successor n)
    more c d is sound e =
        record {
          short = s.short;
          sound = sound;
          seen =
              s.seen ∙ ap (λ x. map written (declared before) ++ x) next.0
              ∙ (λ i. map written (declared before) ++ is i ∷ lines tail)
              ∙ sym (append_assoc (map written (declared before)) (written d ∷ []) (lines tail))
              ∙ ap (λ x. x ++ lines tail) (sym (map-append written (declared before) (d ∷ [])))
              ∙ (λ i. map written (sym e i) ++ lines tail);
          count = counted ∙ sym (ap length e ∙ length_push (declared before) d);
          room = let a = s.room in let b = s.short in let c = next.1 in omega arith;
        }

  -- the text ends
  all : lines rest ≡ [] → lines text ≡ map written (declared before)
  all none = s.seen ∙ ap (λ x. map written (declared before) ++ x) none ∙ append-nil _

  pub ends : lines rest ≡ [] → complete before ≡ false → (p : Report) → p ≡ record { number = 4; layer = 3; line = n + 1 } → Refused text p
  ends none lacks p is =
      inr (
        s.short,
        inr (record {
          before = before;
          sound = s.sound;
          all = all none;
          lacks = lacks;
          told = is ∙ (λ i. record { number = 4; layer = 3; line = s.count i + 1 });
        }),
      )

-- the text ends, with a graph or too soon
pub done : {text : List ℕ} {c : Content} {rest : List ℕ} {n : ℕ} → Reached text (Some c) rest n → lines rest ≡ [] → (o : Option Graph) → MatchOption o (length c.events ≡ 0) (λ g. content g ≡ c) →
    (f : GraphFault) → told f ≡ record { number = 4; layer = 3; line = n + 1 } → MatchResult (ok_or o f) (λ g. Writes text (content g)) (λ f. Refused text (told f))
done s none None lacks f is = ends s none (ap (ltb 0) lacks) (told f) is
done s none (Some g) holds f is =
    record { short = s.short; sound = subst Sound (sym holds) s.sound; some = g.some; written = all s none ∙ ap (λ c. map written (declarations c)) (sym holds) }
