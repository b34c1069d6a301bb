-- The number of the refusal of memory.
use Rattle.std.specs.Prelude.{ℕ}
use Rattle.spool.specs.declared.spool.ShortMemory.{ShortMemory}

abbrev pub memory_number : ShortMemory → ℕ
memory_number refusal = 16
