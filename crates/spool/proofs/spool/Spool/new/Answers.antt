use Rattle.std.proofs.Common.{◌≡◌, ◌<◌, ◌≤◌, length, get_or, refl, ap, ◌∙◌, arith}
use Rattle.spool.specs.Slots.{Cleared, SameBeyond}
use Rattle.spool.proofs.Slots.{cleared, zeroed-laid}
use Rattle.spool.proofs.spool.Spool.new.Goals as goal
use Rattle.spool.proofs.spool.Spool.new.Goals.{then-bytes-ge-SIZE, else-bytes-ge-SIZE}

pub returns : goal.returns
returns c =
    let bs = c.args.bytes.now in
    let cs = c.if-bytes-ge-SIZE.bytes in
    let zeros : 832 ≤ length bs → Cleared cs =
    elim c.if-bytes-ge-SIZE.branch [
      | then-bytes-ge-SIZE w ↦ λ h k l. ap (λ x. get_or x k 0) w.bytes-is ∙ w.clear.ensures.cleared k l
      | else-bytes-ge-SIZE w ↦ λ h. absurd (omega (arith, w.if-bytes-ge-SIZE.false))
    ] in
    let past : SameBeyond bs cs =
    elim c.if-bytes-ge-SIZE.branch [
      | then-bytes-ge-SIZE w ↦ λ k l. ap (λ x. get_or x k 0) w.bytes-is ∙ w.clear.ensures.beyond k l
      | else-bytes-ge-SIZE w ↦ λ k l. ap (λ x. get_or x k 0) w.bytes-is
    ] in
    let same : length bs < 832 → cs ≡ bs =
    elim c.if-bytes-ge-SIZE.branch
    [ then-bytes-ge-SIZE w ↦ λ h. absurd (omega (arith, w.if-bytes-ge-SIZE.true)) | else-bytes-ge-SIZE w ↦ λ h. w.bytes-is ] in
    let long = c.if-bytes-ge-SIZE.auto.bytes in
    record {
      empty = λ h. cleared cs (zeros h);
      laid = λ h. zeroed-laid cs (omega arith) (zeros h);
      cleared = zeros;
      beyond = past;
      long = long;
      short = same;
      lender = refl;
    }
