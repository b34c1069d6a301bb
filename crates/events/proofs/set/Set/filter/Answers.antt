-- Each number below the end is tested if it is a member, and past the end there is none.
use Rattle.std.proofs.Common.{◌≡◌, ℕ, true, false, cond, sym, ap, subst, ◌∙◌, arith, rules}
use Rattle.std.proofs.lemmas.Bool.{cond-false, cond-true}
use Rattle.events.specs.Members.{member, named}
use Rattle.events.proofs.Filtering.{all-tested, goes_on, named-itself, named-other, starts}
use Rattle.events.proofs.MemberLaws.{member_below}
use Rattle.events.proofs.set.Set.filter.Goals as goal
use Rattle.events.proofs.set.Set.filter.Goals.{then-has+then-test, else-has, else-has-via-then-has+else-test, else-has-via-else-has}

pub loop-number-init : goal.loop-number-init
loop-number-init g c = starts (λ k b. g.F.Fn.post c.args.test (k, tt) b) _ _ c.empty-passing.ensures

pub loop-number-preserved : goal.loop-number-preserved
loop-number-preserved g c =
    let n = c.loop-number.number in
    let width = g.W.Word.WIDTH in
    let in_set = member (g.W.Word.number c.args.self.bits) in
    let before = member (g.W.Word.number c.loop-number.passing.bits) in
    let after = member (g.W.Word.number c.if-has.passing.bits) in
    let not_yet : before n ≡ false = (c.loop-number.invariant n).1 (omega arith) in
    let on = goes_on (λ k b. g.F.Fn.post c.args.test (k, tt) b) _ n _ (g.W.Word.number c.if-has.passing.bits) c.loop-number.invariant in
    elim c.if-has.branch [
      | then-has+then-test w ↦
          let here : in_set n ≡ true = sym w.if-has.ensures in
          let more : (k : ℕ) → after k ≡ cond (named width n k) true (before k) = λ k. ap (λ s. member (g.W.Word.number s.bits) k) w.passing-is ∙ w.with-passing.ensures k in
          let passes : after n ≡ true = more n ∙ cond-true (named width n n) true (before n) (named-itself width n (member_below width _ n c.widen.ensures.below here)) in
          on
          (λ _. subst (λ b. g.F.Fn.post c.args.test (n, tt) b) (sym passes) w.if-test.ensures, λ out. absurd (let z = sym here ∙ out in search rules))
          (λ k other. more k ∙ cond-false (named width n k) true (before k) (named-other width n k other))
      | else-has w ↦
          let same : (k : ℕ) → after k ≡ before k = λ k. ap (λ s. member (g.W.Word.number s.bits) k) w.passing-is in
          on
          (elim w.else-has.branch [
            | else-has-via-then-has+else-test v ↦ (λ _. subst (λ b. g.F.Fn.post c.args.test (n, tt) b) (sym (same n ∙ not_yet)) v.if-test.ensures, λ _. same n ∙ not_yet)
            | else-has-via-else-has v ↦ (λ here. absurd (let z = v.if-has.ensures ∙ here in search rules), λ _. same n ∙ not_yet)
          ])
          (λ k other. same k)
    ]

pub returns-clause-tested : goal.returns-clause-tested
returns-clause-tested g c k =
    (all-tested (λ k b. g.F.Fn.post c.args.test (k, tt) b) _ _ _ _ _ c.loop-number.invariant c.widen.ensures.number c.end-number-end.ensures.past c.loop-number-test.false k).0

pub returns-clause-no_more : goal.returns-clause-no_more
returns-clause-no_more g c k =
    (all-tested (λ k b. g.F.Fn.post c.args.test (k, tt) b) _ _ _ _ _ c.loop-number.invariant c.widen.ensures.number c.end-number-end.ensures.past c.loop-number-test.false k).1
