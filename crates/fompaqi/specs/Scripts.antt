-- What the lines of a script say: a call is specified by the line that writes it.
use Rattle.std.specs.Prelude.{◌≡◌, ◌≢◌, ℕ, ◌<◌, ◌⊎◌, List, [], ◌∷◌, ◌++◌, Option, None, Some, Result, Ok, Err, length, slice_index}
use Rattle.text.specs.Declarations.{field}
use Rattle.protocol.specs.declared.call.Call as site
use Rattle.protocol.specs.declared.call.Call.TheVariants.{Start, Request, Carry, Settle, WorkList, Tally}
use Rattle.runs.specs.declared.table.TableCall as table
use Rattle.runs.specs.declared.table.TableCall.TheVariants as table_calls
use Rattle.fompaqi.specs.declared.script.NoCall.{NoCall}

-- a comment begins with byte 35; a blank line has spaces at most
abbrev pub Passed : List ℕ → Type 0
Passed line = (slice_index line 0 ≡ 35) ⊎ ((k : ℕ) → k < length line → slice_index line k ≡ 32)

-- the line that writes a call of a table: q and the event, or w
abbrev pub table_line : table.TableCall → List ℕ
table_line (table_calls.Request e) = 113 ∷ field e
table_line table_calls.WorkList = 119 ∷ []

-- a call whose numbers are below 256
abbrev pub TableFits : table.TableCall → Type 0
TableFits (table_calls.Request e) = e < 256
TableFits table_calls.WorkList = Unit {0}

-- the line that writes a call of a site: b, q, t, z, w or y, and the stations and the event
abbrev pub site_line : site.Call → List ℕ
site_line Start = 98 ∷ []
site_line (Request s e) = 113 ∷ field s ++ field e
site_line (Carry a b) = 116 ∷ field a ++ field b
site_line (Settle room) = 122 ∷ []
site_line WorkList = 119 ∷ []
site_line (Tally s) = 121 ∷ field s

-- a call whose numbers are below 256; a settle of a script has a table of eight entries
abbrev pub SiteFits : site.Call → Type 0
SiteFits Start = Unit {0}
SiteFits (Request s e) = (s < 256) × (e < 256)
SiteFits (Carry a b) = (a < 256) × (b < 256)
SiteFits (Settle room) = room ≡ 8
SiteFits WorkList = Unit {0}
SiteFits (Tally s) = s < 256

-- what a line is, where calls are written by their lines: it is passed over, or it writes that call, or it is neither
abbrev pub Tells : {T : Type 0} → (T → List ℕ) → (T → Type 0) → List ℕ → Result (Option T) NoCall → Type 0
Tells written Fits line (Ok None) = Passed line
Tells written Fits line (Ok (Some c)) = Fits c × (line ≡ written c)
Tells {T = T} written Fits line (Err _) = (Passed line → ⊥) × ((c : T) → Fits c → line ≢ written c)

-- every line is passed over or writes a call
abbrev pub InOrder : {T : Type 0} → (T → List ℕ) → (T → Type 0) → List (List ℕ) → Type 0
InOrder written Fits [] = Unit {0}
InOrder {T = T} written Fits (line ∷ rest) = (Passed line ⊎ ((c : T) × Fits c × (line ≡ written c))) × InOrder written Fits rest

-- the calls that the lines write, in order, the other lines left out
abbrev pub WritesCalls : {T : Type 0} → (T → List ℕ) → (T → Type 0) → List (List ℕ) → List T → Type 0
WritesCalls written Fits [] calls = calls ≡ []
WritesCalls {T = T} written Fits (line ∷ rest) calls =
    (((c : T) → Fits c → line ≢ written c) × WritesCalls written Fits rest calls)
    ⊎ ((c : T) × (more : List T) × Fits c × (line ≡ written c) × (calls ≡ c ∷ more) × WritesCalls written Fits rest more)

-- no number, and no two numbers, below 256 end the line
abbrev pub NoNumber : List ℕ → Type 0
NoNumber rest = (n : ℕ) → n < 256 → rest ≢ field n

abbrev pub NoNumbers : List ℕ → Type 0
NoNumbers rest = (a b : ℕ) → a < 256 → b < 256 → rest ≢ field a ++ field b
