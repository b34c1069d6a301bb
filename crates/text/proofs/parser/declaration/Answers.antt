use Rattle.std.proofs.Common.{◌≡◌, ◌∷◌, ◌∙◌, sym, subst}
use Rattle.lexer.specs.Words.{Begins}
use Rattle.text.specs.Declarations.{NoDeclaration}
use Rattle.text.proofs.FieldLaws.{none-headed, none-marked}
use Rattle.text.proofs.parser.declaration.Goals as goal
use Rattle.text.proofs.parser.declaration.Goals.{In-Letter}

module _ (c : In-Letter) where
  begins : c.args.words.now.rest.bytes.now ≡ c.in-Letter.byte.now ∷ c.letter.new.self.rest.bytes.now
  begins = subst (Begins c.args.words.now.rest.bytes.now c.letter.new.self.rest.bytes.now) c.in-Letter.is c.in_ok-byte.ensures.word

pub returns-in_err-stations-in-s : goal.returns-in_err-stations-in-s
returns-in_err-stations-in-s c =
    let is = begins (goal.at.returns-in_err-stations-in-s c).In-Letter ∙ (λ i. c.in-s.is i ∷ c.letter.new.self.rest.bytes.now) in
    rw c.from_residual-in_err-stations-in-s.ensures (subst NoDeclaration (sym is) (none-headed _ c.in_err-stations-in-s.ensures))

pub returns-in_err-number-in-e : goal.returns-in_err-number-in-e
returns-in_err-number-in-e c =
    let is = begins (goal.at.returns-in_err-number-in-e c).In-Letter ∙ (λ i. c.in-e.is i ∷ c.letter.new.self.rest.bytes.now) in
    rw c.from_residual-in_err-number-in-e.ensures (subst NoDeclaration (sym is) (none-marked _ c.in_err-number-in-e.ensures))
