use Rattle.std.proofs.Common.{◌+◌, Some, ◌∙◌, subst, inl, inr}
use Rattle.std.proofs.lemmas.Result.{err_from_is_err_and}
use Rattle.graph.specs.Held.{held}
use Rattle.text.specs.Faults.{told}
use Rattle.text.specs.Reading.{BadLine, breaks}
use Rattle.text.specs.declared.fault.GraphFault.TheVariants.{Line}
use Rattle.text.proofs.Steps.{done, fault}
use Rattle.text.proofs.builder.build.Goals as goal

pub returns-in_err-entry : goal.returns-in_err-entry
returns-in_err-entry c =
    let p = err_from_is_err_and c.from_residual-in_err-entry.result c.from_residual-in_err-entry.ensures.1 in
    let t = c.in-Some.ensures.steps in
    let bad = rw c.in_err-entry.was at t.3 in
    rw (p.1, p.2) (fault c.loop-entry.invariant.0 t.0 _ t.1 _ (inl (subst (λ k. BadLine t.0 k (told (Line c.in_err-entry.field-0.0))) t.2 bad)))

pub returns-in_err-extend : goal.returns-in_err-extend
returns-in_err-extend c =
    let p = err_from_is_err_and c.from_residual-in_err-extend.result c.from_residual-in_err-extend.ensures.1 in
    let t = c.in-Some.ensures.steps in
    let u = rw c.in_ok-entry.was at t.3 in
    let refused = c.in_err-extend.ensures in
    let entry = c.in_ok-entry.entry in
    rw (p.1, p.2) (fault c.loop-entry.invariant.0 t.0 _ t.1 _ (inr (entry.declaration, u.0, u.1, refused.0, refused.1 ∙ (λ i. record { number = breaks (Some (held c.loop-entry.draft)) entry.declaration; layer = 3; line = (u.2 ∙ t.2) i }))))

pub returns : goal.returns
returns c =
    let inv = c.loop-entry.invariant in
    rw c.ok_or-2.ensures.value (done inv.0 c.in-None.ensures.steps c.finish.result c.finish.ensures _ (λ i. record { number = 4; layer = 3; line = inv.1 i + 1 }))
