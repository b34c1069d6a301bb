-- The number of the refusal of a post.
use Rattle.std.specs.Prelude.{ℕ}
use Rattle.lines.specs.declared.line.Full.{Full}

abbrev pub post_number : Full → ℕ
post_number refusal = 14
