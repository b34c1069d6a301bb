use Rattle.std.proofs.Common.{◌≡◌, ◌+◌, ◌-◌, ◌*◌, Some, sym, refl, ap, ◌∙◌, arith}
use Rattle.lines.proofs.Placing.{at_place, one-taken}
use Rattle.lines.specs.Lists.{oldest, younger}
use Rattle.spool.specs.Slots.{slots}
use Rattle.spool.proofs.Slots.{part_kept, put-beyond, put-elsewhere, put-laid, put-list}
use borrow.Rule.Slice.PartMut.{put_mid}
use Rattle.spool.proofs.spool.SpoolLine.take.Goals as goal

pub returns : goal.returns
returns c =
    let p = c.in_ok-pair.pair in
    let at : c.place.result ≡ Some c.in_ok-pair.pair = c.in_ok-pair.was in
    let e = rw at at c.place.ensures in
    let f = c.pop.ensures in
    let bs = c.args.self.now.bytes.now in
    let cs = c.pop.new.slot in
    let n = 13 * c.in_ok-pair.pair + 13 - 13 * c.in_ok-pair.pair in
    let long : 13 * c.in_ok-pair.pair + 13 - 13 * c.in_ok-pair.pair ≡ 13 = omega arith in
    let was = part_kept bs p n c.requires e.2 long in
    record {
      kept = put-laid bs p n c.requires e.2 long cs c.pop.auto.slot f.slot;
      beside = (refl, put-beyond bs p n c.requires e.2 long cs c.pop.auto.slot f.slot);
      answer = f.answer ∙ ap oldest (was ∙ sym (at_place (slots bs) c.args.from c.args.to p e.0 e.1));
      lists = one-taken (slots bs) (slots (put_mid (13 * p) n bs cs)) c.args.from c.args.to p e.0 e.1
          (put-elsewhere bs p n c.requires e.2 long cs c.pop.auto.slot f.slot) (put-list bs p n c.requires e.2 long cs c.pop.auto.slot f.slot ∙ f.list ∙ ap younger was);
    }
