-- The lists of a line, and what posting and taking make of them.
use Rattle.std.specs.Prelude.{◌≡◌, ℕ, ◌+◌, ◌*◌, Bool, false, cond, ◌&&◌, List, [], ◌∷◌, ◌++◌, length, Some, None, Option, ◌==◌, nat_lt}
use Rattle.std.proofs.Common.{ap}
use Rattle.lines.specs.declared.message.Message.{Message}

-- the messages that wait from the first station to the second, oldest first
abbrev pub Lists : Type 0
Lists = ℕ → ℕ → List Message

-- whether both are numbers of stations
abbrev pub inside : ℕ → ℕ → Bool
inside a b = nat_lt a 8 && nat_lt b 8

-- whether a, b is the pair from, to
abbrev pub same : ℕ → ℕ → ℕ → ℕ → Bool
same from to a b = a == from && b == to

abbrev pub oldest : {A : Type 0} → List A → Option A
oldest [] = None
oldest (m ∷ q) = Some m

abbrev pub younger : {A : Type 0} → List A → List A
younger [] = []
younger (m ∷ q) = q

-- whether the pair is one of a line and its list is below the limit
abbrev pub fits : ℕ → Lists → ℕ → ℕ → Bool
fits limit W from to = inside from to && nat_lt (length (W from to)) limit

abbrev pub posted : ℕ → Lists → ℕ → ℕ → Message → Lists
posted limit W from to m a b = cond (fits limit W from to && same from to a b) (W a b ++ m ∷ []) (W a b)

abbrev pub taken : Lists → ℕ → ℕ → Lists
taken W from to a b = cond (same from to a b) (younger (W a b)) (W a b)

-- the lists of a line that keeps that of the pair a, b at the place 8a+b
abbrev pub placed : (ℕ → List Message) → Lists
placed at a b = cond (inside a b) (at (8 * a + b)) []

pub none-outside : (at : ℕ → List Message) (a b : ℕ) → inside a b ≡ false → placed at a b ≡ []
none-outside at a b h = ap (λ t. cond t (at (8 * a + b)) []) h
