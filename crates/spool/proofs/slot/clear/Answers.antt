use Rattle.spool.proofs.Parts.{past-front, zero-front}
use Rattle.spool.proofs.slot.clear.Goals as goal

pub returns : goal.returns
returns c =
    let z = c.fill.ensures.after (λ y e. e) in
    record { cleared = λ k h. zero-front 832 c.args.bytes.now c.fill.new.self k c.requires z h; beyond = λ k h. past-front 832 c.args.bytes.now c.fill.new.self k c.requires z h }
