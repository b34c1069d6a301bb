use Rattle.std.proofs.Common.{◌≡◌, ◌+◌, ◌-◌, ◌*◌, true, false, cond, ltb, [], ◌∷◌, ◌++◌, length, get_or, sym, ap, ◌∙◌, arith}
use Rattle.std.proofs.lemmas.Bool.{lt-ltb, le-ltb}
use Rattle.spool.specs.Slots.{slot_at}
use Rattle.spool.proofs.Slots.{length-messages}
use Rattle.spool.proofs.Pushing.{pushed, pushed-laid, pushed-slot}
use Rattle.spool.proofs.slot.push.Goals as goal

pub returns-then-count-ge4 : goal.returns-then-count-ge4
returns-then-count-ge4 c =
    let old = c.args.slot.now in
    let n = length-messages (get_or old 0 0) old 1 in
    let no : ltb (length (slot_at old 0)) 4 ≡ false = le-ltb _ _ (omega arith) in
    record { answer = sym no; list = ap (λ b. cond b (slot_at old 0 ++ c.args.message ∷ []) (slot_at old 0)) (sym no); slot = c.requires.1 }

pub returns : goal.returns
returns c =
    let old = c.args.slot.now in
    let m = c.args.message in
    let n = length-messages (get_or old 0 0) old 1 in
    let yes : ltb (length (slot_at old 0)) 4 ≡ true = lt-ltb _ _ (omega arith) in
    let p = pushed old (1 + 3 * get_or old 0 0 + 3 - (1 + 3 * get_or old 0 0)) c.copy_from_slice.new.self m c.requires.0 c.if-count-ge4.false (omega arith) c.copy_from_slice.ensures.after in
    record {
      answer = sym yes;
      list = pushed-slot old _ m p ∙ ap (λ b. cond b (slot_at old 0 ++ m ∷ []) (slot_at old 0)) (sym yes);
      slot = pushed-laid old _ m p c.if-count-ge4.false c.requires.1;
    }
