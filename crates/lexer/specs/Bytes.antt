-- The bytes of a line.
use Rattle.std.specs.Prelude.{◌≡◌, ℕ, ◌<◌, ◌≤◌, Bool, ◌&&◌, List, length, ◌≢◌, nat_le, slice_index}
use Rattle.std.specs.List.{list_all}

-- a printable byte: 32 to 126
abbrev pub printable : ℕ → Bool
printable b = nat_le 32 b && nat_le b 126

-- every byte is printable
abbrev pub clean : List ℕ → Bool
clean = list_all printable

-- place r is where the byte first stands, or the end where it does not
pub record FirstAt (bytes : List ℕ) (byte r : ℕ) : Type 0 where
  pub within : r ≤ length bytes
  pub before : (k : ℕ) → k < r → slice_index bytes k ≢ byte
  pub found : r < length bytes → slice_index bytes r ≡ byte
