-- The line that writes a declaration, and the declarations of a graph.
use Rattle.std.specs.Prelude.{◌≡◌, ℕ, ◌+◌, ◌<◌, List, [], ◌∷◌, ◌++◌, length, map, ◌≢◌}
use Rattle.std.specs.List.{AllByRecursion}
use Rattle.events.specs.Marks.{sum_of}
use Rattle.graph.specs.declared.kind.Kind.{Kind}
use Rattle.graph.specs.declared.kind.Kind.TheVariants.{Condition, Milestone, Response, Include, Exclude}
use Rattle.graph.specs.declared.event.Event as event
use Rattle.graph.specs.declared.relation.Relation as relation
use Rattle.graph.specs.Content.{Content}
use Rattle.graph.specs.Releases.{release_number}
use Rattle.text.specs.declared.declaration.Declaration.{Declaration}
use Rattle.text.specs.declared.declaration.Declaration.TheVariants.{Stations, Event, Relation}
use Rattle.lexer.specs.Numbers.{digits}
use Rattle.lexer.specs.Words.{Stop}

-- the letter of a relation line: c, m, r, i, x
abbrev pub letter_of : Kind → ℕ
letter_of Condition = 99
letter_of Milestone = 109
letter_of Response = 114
letter_of Include = 105
letter_of Exclude = 120

-- each field follows one space
abbrev pub field : ℕ → List ℕ
field n = 32 ∷ digits n

-- the line that writes a declaration: s, e or the relation's letter, and its fields
abbrev pub written : Declaration → List ℕ
written (Stations n r) = 115 ∷ field n ++ field r
written (Event k o m) = 101 ∷ field k ++ (field o ++ field m)
written (Relation k a b) = letter_of k ∷ field a ++ field b

-- its numbers have at most three digits
abbrev pub Fits : Declaration → Type 0
Fits (Stations n r) = (n < 1000) × (r < 1000)
Fits (Event k o m) = (k < 1000) × (o < 1000) × (m < 1000)
Fits (Relation k a b) = (a < 1000) × (b < 1000)

-- the line writes no declaration
abbrev pub NoDeclaration : List ℕ → Type 0
NoDeclaration line = (d : Declaration) → Fits d → line ≢ written d

-- the events from number k on, each on its line
abbrev pub numbered : ℕ → List event.Event → List Declaration
numbered k [] = []
numbered k (e ∷ es) = Event k e.owner (sum_of e.marks) ∷ numbered (k + 1) es

abbrev pub related : relation.Relation → Declaration
related r = Relation r.kind r.from r.to

-- the declarations of a graph, in order: its stations and release, its events, its relations
abbrev pub declarations : Content → List Declaration
declarations c = Stations c.stations (release_number c.release) ∷ numbered 0 c.events ++ map related c.relations

-- no field stands there
abbrev pub NoField : List ℕ → Type 0
NoField rest = (n : ℕ) (tail : List ℕ) → n < 1000 → Stop tail → rest ≢ field n ++ tail

-- fields one after another
abbrev pub fields : List ℕ → List ℕ
fields [] = []
fields (n ∷ []) = field n
fields (n ∷ m ∷ ns) = field n ++ fields (m ∷ ns)

-- each has at most three digits
abbrev pub Small : List ℕ → Type 0
Small = AllByRecursion (λ n. n < 1000)

-- no so many fields, and nothing else, stand there
abbrev pub NoFields : ℕ → List ℕ → Type 0
NoFields count rest = (ns : List ℕ) → length ns ≡ count → Small ns → rest ≢ fields ns
