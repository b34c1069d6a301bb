-- Which texts write a graph down, and with which fault every other text is refused.
use Rattle.std.specs.Prelude.{◌≡◌, ℕ, ◌+◌, ◌<◌, ◌≤◌, Bool, true, false, cond, not, ◌⊎◌, List, [], ◌∷◌, ◌++◌, map, length, Some, None, Option, Result, MatchOption, MatchResult, nat_lt}
use Rattle.graph.specs.Content.{Content, Sound}
use Rattle.graph.specs.Declarations.{clashing, fits_event, fits_head, fits_relation, full_of_events, full_of_relations}
use Rattle.text.specs.declared.declaration.Declaration.{Declaration}
use Rattle.text.specs.declared.declaration.Declaration.TheVariants.{Stations, Event, Relation}
use Rattle.text.specs.declared.fault.GraphFault.TheVariants.{Line}
use Rattle.text.specs.declared.fault.LineFault.{LineFault}
use Rattle.text.specs.declared.fault.Report.{Report}
use Rattle.text.specs.declared.parser.Entries.{Entries}
use Rattle.text.specs.declared.parser.Entry.{Entry}
use Rattle.lexer.specs.Bytes.{clean}
use Rattle.lexer.specs.Lines.{lines, successor}
use Rattle.text.specs.Declarations.{Fits, NoDeclaration, declarations, written}
use Rattle.text.specs.Faults.{told}

-- the text writes the graph down: its lines are those that write the graph's declarations
pub record Writes (text : List ℕ) (c : Content) : Type 0 where
  pub short : length text ≤ 65536
  pub sound : Sound c
  pub some : 0 < length c.events
  pub written : lines text ≡ map written (declarations c)

-- what the lines so far declare: nothing yet, or a graph that may still lack events
abbrev pub SoFar : Option Content → Type 0
SoFar None = Unit {0}
SoFar (Some c) = Sound c

abbrev pub declared : Option Content → List Declaration
declared None = []
declared (Some c) = declarations c

-- 4: a first line that is no s line, a later s line, an e line after a relation line
abbrev pub misplaced : Option Content → Declaration → Bool
misplaced None (Stations n r) = false
misplaced None (Event k o m) = true
misplaced None (Relation k a b) = true
misplaced (Some c) (Stations n r) = true
misplaced (Some c) (Event k o m) = nat_lt 0 (length c.relations)
misplaced (Some c) (Relation k a b) = false

-- 6: the 65th event, the 513th relation
abbrev pub overfull : Option Content → Declaration → Bool
overfull None d = false
overfull (Some c) (Stations n r) = false
overfull (Some c) (Event k o m) = full_of_events c
overfull (Some c) (Relation k a b) = full_of_relations c

-- 3: stations, release, number, owner, marks or ends out of range, a milestone in release 4
abbrev pub invalid : Option Content → Declaration → Bool
invalid None (Stations n r) = not (fits_head n r)
invalid None (Event k o m) = false
invalid None (Relation k a b) = false
invalid (Some c) (Stations n r) = false
invalid (Some c) (Event k o m) = not (fits_event c k o m)
invalid (Some c) (Relation k a b) = not (fits_relation c k a b)

-- 5: a relation given twice, or include with exclude
abbrev pub conflicting : Option Content → Declaration → Bool
conflicting None d = false
conflicting (Some c) (Stations n r) = false
conflicting (Some c) (Event k o m) = false
conflicting (Some c) (Relation k a b) = clashing c.relations k a b

-- the fault of one more declaration, 0 for none: the order is 4, 6, 3, 5
abbrev pub breaks : Option Content → Declaration → ℕ
breaks before d = cond (misplaced before d) 4 (cond (overfull before d) 6 (cond (invalid before d) 3 (cond (conflicting before d) 5 0)))

-- line l, of number k, has a byte that is not printable, or else is not made as any line is
abbrev pub BadLine : List ℕ → ℕ → Report → Type 0
BadLine l k p =
    ((clean l ≡ false) × (p ≡ record { number = 1; layer = 1; line = k }))
    ⊎ ((clean l ≡ true) × NoDeclaration l × (p ≡ record { number = 2; layer = 2; line = k }))

-- or it declares what cannot follow the lines before it
abbrev pub Faulty : Option Content → List ℕ → ℕ → Report → Type 0
Faulty before l k p =
    BadLine l k p
    ⊎ ((d : Declaration) × Fits d × (l ≡ written d) × (0 < breaks before d) × (p ≡ record { number = breaks before d; layer = 3; line = k }))

-- the first faulty line decides: the lines before it write a graph so far
pub record FirstFault (ls : List (List ℕ)) (p : Report) : Type 0 where
  pub before : Option Content
  pub sound : SoFar before
  pub line : List ℕ
  pub rest : List (List ℕ)
  pub split : ls ≡ map written (declared before) ++ line ∷ rest
  pub faulty : Faulty before line (length (declared before) + 1) p

-- an s line and an e line are there
abbrev pub complete : Option Content → Bool
complete None = false
complete (Some c) = nat_lt 0 (length c.events)

-- the text ends too soon: the line is one past the last
pub record Unfinished (ls : List (List ℕ)) (p : Report) : Type 0 where
  pub before : Option Content
  pub sound : SoFar before
  pub all : ls ≡ map written (declared before)
  pub lacks : complete before ≡ false
  pub told : p ≡ record { number = 4; layer = 3; line = length (declared before) + 1 }

-- the text is refused so: a text that is too long before all else
abbrev pub Refused : List ℕ → Report → Type 0
Refused text p =
    ((65536 < length text) × (p ≡ record { number = 7; layer = 1; line = 0 }))
    ⊎ ((length text ≤ 65536) × (FirstFault (lines text) p ⊎ Unfinished (lines text) p))

-- the text's first line is l, and rest is left after it
abbrev pub Comes : List ℕ → List ℕ → List ℕ → Type 0
Comes text l rest = (lines text ≡ l ∷ lines rest) × (length rest < length text)

-- the next line is taken, with what it declares or its fault, or none is left
abbrev pub TakesEntry : Entries → Option (Result Entry LineFault) → Entries → Type 0
TakesEntry before result after =
    MatchOption result (lines before.lines.rest.bytes.now ≡ [])
    (λ r. (l : List ℕ) × Comes before.lines.rest.bytes.now l after.lines.rest.bytes.now × (after.lines.number ≡ successor before.lines.number)
    × MatchResult r (λ e. Fits e.declaration × (l ≡ written e.declaration) × (e.line ≡ after.lines.number)) (λ f. BadLine l after.lines.number (told (Line f))))
