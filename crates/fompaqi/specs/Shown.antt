-- How the line of a file is shown to a person.
use Rattle.std.specs.Prelude.{ℕ, cond, List, [], ◌++◌, map, length, take, codes, nat_lt}
use Rattle.lexer.specs.Bytes.{printable}

-- a byte that is not printable is shown as a question mark
abbrev pub shown_byte : ℕ → ℕ
shown_byte b = cond (printable b) b 63

-- no more than 120 bytes are shown, and of a longer line three dots say so
abbrev pub shown_line : List ℕ → List ℕ
shown_line bytes = map shown_byte (take 120 bytes) ++ cond (nat_lt 120 (length bytes)) (codes " ...") []
