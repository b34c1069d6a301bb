use Rattle.std.proofs.Common.{◌≡◌, length, rules}
use Rattle.fompaqi.specs.Scripts.{NoNumbers}
use Rattle.fompaqi.proofs.Numbers.{first_large, second_large, too_large}
use Rattle.fompaqi.proofs.script.two_numbers.Goals as goal

pub returns-in_err-ok : goal.returns-in_err-ok
returns-in_err-ok c =
    let two : length c.in_ok-a.field-0 ≡ 2 = search rules in
    let t = c.in_ok-a.ensures in
    let none : NoNumbers c.args.words.now.rest.bytes.now =
    first_large _ c.in_ok-a.field-0 two t.0 t.1 (too_large _ c.try_from.result c.ok.result c.try_from.ensures (search rules) c.ok.ensures.value) in
    search rules

pub returns-in_err-ok-2 : goal.returns-in_err-ok-2
returns-in_err-ok-2 c =
    let two : length c.in_ok-a.field-0 ≡ 2 = search rules in
    let t = c.in_ok-a.ensures in
    let none : NoNumbers c.args.words.now.rest.bytes.now =
    second_large _ c.in_ok-a.field-0 two t.0 t.1 (too_large _ c.try_from-2.result c.ok-2.result c.try_from-2.ensures (search rules) c.ok-2.ensures.value) in
    search rules
