use Rattle.std.proofs.Common.{inl, inr, refl, subst}
use Rattle.lexer.specs.Words.{Follows}
use Rattle.text.proofs.FieldLaws.{field-none, field-read}
use Rattle.text.proofs.parser.field.Goals as goal

pub returns-in-Number : goal.returns-in-Number
returns-in-Number c =
    let t = subst (Follows c.args.words.now.rest.bytes.now c.next.new.self.rest.bytes.now) c.in-Number.is c.in_ok-digits.ensures.steps.word in
    field-read _ _ _ _ t.0 (record { is = refl; free = t.1; stop = t.2 }) t.3 c.number.result c.number.ensures

pub returns-in-Other : goal.returns-in-Other
returns-in-Other c =
    let F = Follows c.args.words.now.rest.bytes.now c.next.new.self.rest.bytes.now in
    elim c.in-Other.is [
      | inl (at, bytes, e) ↦ let t = subst F e c.in_ok-digits.ensures.steps.word in field-none _ _ _ _ t.0 (record { is = refl; free = t.1; stop = t.2 }) t.3
      | inr (at, byte, e) ↦ let t = subst F e c.in_ok-digits.ensures.steps.word in absurd t.3
    ]
