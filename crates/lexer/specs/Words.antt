-- The words of a line and their places in the text.
use Rattle.std.specs.Prelude.{◌≡◌, ℕ, ◌<◌, true, false, List, [], ◌∷◌, ◌++◌, length, Option, MatchOption, ◌≢◌, slice_index}
use Rattle.std.specs.List.{AllByRecursion}
use Rattle.lexer.specs.Numbers.{shaped}
use Rattle.lexer.specs.Parts.{StandIn}
use Rattle.lexer.specs.declared.words.Word.{Word}
use Rattle.lexer.specs.declared.words.Words.{Words}
use Rattle.lexer.specs.declared.words.Word.TheVariants.{Letter, Number, Other}

abbrev pub spelled : Word → List ℕ
spelled (Letter at byte) = byte.now ∷ []
spelled (Number at digits) = digits.now
spelled (Other at bytes) = bytes.now

abbrev pub place_of : Word → ℕ
place_of (Letter at byte) = at
place_of (Number at digits) = at
place_of (Other at bytes) = at

-- what follows a word: nothing, or the next space
abbrev pub Stop : List ℕ → Type 0
Stop tail = 0 < length tail → slice_index tail 0 ≡ 32

-- a word that follows a space is told a number exactly when it is one
abbrev pub Kinded : Word → Type 0
Kinded (Letter at byte) = ⊥
Kinded (Number at digits) = shaped digits.now ≡ true
Kinded (Other at bytes) = shaped bytes.now ≡ false

-- the line is a space, the word up to the next space, and what is left
abbrev pub Follows : List ℕ → List ℕ → Word → Type 0
Follows line tail w = (line ≡ 32 ∷ spelled w ++ tail) × AllByRecursion (λ b. b ≢ 32) (spelled w) × Stop tail × Kinded w

-- the line is the letter and what is left
abbrev pub Begins : List ℕ → List ℕ → Word → Type 0
Begins line tail (Letter at byte) = line ≡ byte.now ∷ tail
Begins line tail (Number at digits) = ⊥
Begins line tail (Other at bytes) = ⊥

-- the word after one space, at its place, and what is left after it
pub record NextWord (before : Words) (w : Word) (after : Words) : Type 0 where
  pub word : Follows before.rest.bytes.now after.rest.bytes.now w
  pub place : StandIn before.rest (place_of w) (spelled w)
  pub next_place : StandIn before.rest after.rest.at after.rest.bytes.now

-- the next word is taken, or no space comes next
abbrev pub TakesWord : Words → Option Word → Words → Type 0
TakesWord before result after =
    MatchOption result ((0 < length before.rest.bytes.now → slice_index before.rest.bytes.now 0 ≢ 32) × (after ≡ before)) (λ w. NextWord before w after)
