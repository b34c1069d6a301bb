-- How a text falls into lines.
use Rattle.std.specs.Prelude.{◌≡◌, ℕ, ◌+◌, ◌-◌, ◌^◌, ◌<◌, min, cond, ◌⊎◌, List, [], ◌∷◌, ◌++◌, length, Option, MatchOption, ◌==◌, ◌≢◌}
use Rattle.std.specs.List.{AllByRecursion}
use Rattle.lexer.specs.Parts.{StandIn}
use Rattle.lexer.specs.declared.lines.Line.{Line}
use Rattle.lexer.specs.declared.lines.Lines.{Lines}

-- one more byte before the first line
abbrev pub onto : ℕ → List (List ℕ) → List (List ℕ)
onto b [] = (b ∷ []) ∷ []
onto b (l ∷ ls) = (b ∷ l) ∷ ls

-- the lines of a text: byte 10 ends a line
abbrev pub lines : List ℕ → List (List ℕ)
lines [] = []
lines (b ∷ bs) = cond (b == 10) ([] ∷ lines bs) (onto b (lines bs))

-- lines put together again, each with its end of line
abbrev pub ended : List (List ℕ) → List ℕ
ended [] = []
ended (l ∷ ls) = l ++ 10 ∷ ended ls

-- the last line is not empty
abbrev pub Lasting : List (List ℕ) → Type 0
Lasting [] = ⊥
Lasting (l ∷ []) = 0 < length l
Lasting (l ∷ m ∷ ls) = Lasting (m ∷ ls)

-- these lines make up the text: none holds an end of line, and put together again they are the text;
-- a last line that is not empty may lack its end
abbrev pub MakeUp : List (List ℕ) → List ℕ → Type 0
MakeUp ls text = AllByRecursion (λ l. AllByRecursion (λ b. b ≢ 10) l) ls × ((ended ls ≡ text) ⊎ ((ended ls ≡ text ++ 10 ∷ []) × Lasting ls))

-- the lines of a text make it up, and no other lines do
abbrev pub LinesAreTheText : Type 0
LinesAreTheText = (text : List ℕ) → MakeUp (lines text) text

abbrev pub OnlyLines : Type 0
OnlyLines = (text : List ℕ) (ls : List (List ℕ)) → MakeUp ls text → ls ≡ lines text

-- the next line number, as far as machine numbers go
abbrev pub successor : ℕ → ℕ
successor n = min (n + 1) (2 ^ 64 - 1)

-- the line is the first of those still to come, and the others come after it
pub record FirstLine (before : Lines) (l : Line) (after : Lines) : Type 0 where
  pub line : lines before.rest.bytes.now ≡ l.part.bytes.now ∷ lines after.rest.bytes.now
  pub shorter : length after.rest.bytes.now < length before.rest.bytes.now
  pub number : l.number ≡ successor before.number
  pub counted : after.number ≡ l.number
  pub place : StandIn before.rest l.part.at l.part.bytes.now
  pub next_place : StandIn before.rest after.rest.at after.rest.bytes.now

-- the next line is taken, or none is left
abbrev pub TakesLine : Lines → Option Line → Lines → Type 0
TakesLine before result after = MatchOption result ((lines before.rest.bytes.now ≡ []) × (after ≡ before)) (λ l. FirstLine before l after)
