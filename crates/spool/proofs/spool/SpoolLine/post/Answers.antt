use Rattle.std.proofs.Common.{◌≡◌, ◌+◌, ◌-◌, ◌*◌, Some, List, cond, ltb, [], ◌∷◌, ◌++◌, length, sym, refl, ap, ◌∙◌, arith}
use Rattle.std.specs.Result.{result_ok}
use Rattle.lines.specs.declared.message.Message.{Message}
use Rattle.lines.proofs.Placing.{fits-place, one-posted}
use Rattle.spool.specs.Slots.{slots}
use Rattle.spool.proofs.Slots.{length-part, part_kept, part_laid, put-beyond, put-elsewhere, put-laid, put-list}
use borrow.Rule.Slice.PartMut.{put_mid}
use Rattle.spool.proofs.spool.SpoolLine.post.Goals as goal

pub push-requires : goal.push-requires
push-requires c =
    let at : c.place.result ≡ Some c.in_ok-pair.pair = c.ok_or.ensures.ok_part ∙ ap result_ok c.in_ok-pair.was in
    let e = rw at at c.place.ensures in
    let long : 13 * c.in_ok-pair.pair + 13 - 13 * c.in_ok-pair.pair ≡ 13 = omega arith in
    let bs = c.args.self.now.bytes.now in
    let n = 13 * c.in_ok-pair.pair + 13 - 13 * c.in_ok-pair.pair in
    (length-part bs c.in_ok-pair.pair n c.requires e.2 long, part_laid bs c.in_ok-pair.pair n c.requires e.2 long)

pub returns : goal.returns
returns c =
    let p = c.in_ok-pair.pair in
    let at : c.place.result ≡ Some c.in_ok-pair.pair = c.ok_or.ensures.ok_part ∙ ap result_ok c.in_ok-pair.was in
    let e = rw at at c.place.ensures in
    let f = c.push.ensures in
    let bs = c.args.self.now.bytes.now in
    let cs = c.push.new.slot in
    let n = 13 * c.in_ok-pair.pair + 13 - 13 * c.in_ok-pair.pair in
    let long : 13 * c.in_ok-pair.pair + 13 - 13 * c.in_ok-pair.pair ≡ 13 = omega arith in
    let was = part_kept bs p n c.requires e.2 long in
    let list : List Message → List Message = λ l. cond (ltb (length l) 4) (l ++ c.args.message ∷ []) l in
    record {
      kept = put-laid bs p n c.requires e.2 long cs c.push.auto.slot f.slot;
      beside = (refl, put-beyond bs p n c.requires e.2 long cs c.push.auto.slot f.slot);
      answer = f.answer ∙ ap (λ l. ltb (length l) 4) was ∙ sym (fits-place 4 (slots bs) c.args.from c.args.to p e.0 e.1);
      lists = one-posted 4 (slots bs) (slots (put_mid (13 * p) n bs cs)) c.args.from c.args.to p c.args.message e.0 e.1
          (put-elsewhere bs p n c.requires e.2 long cs c.push.auto.slot f.slot) (put-list bs p n c.requires e.2 long cs c.push.auto.slot f.slot ∙ f.list ∙ ap list was);
    }
