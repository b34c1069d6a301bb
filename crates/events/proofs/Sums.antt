-- The sums of marks: each is below 8, and tells the marks.
use Rattle.std.proofs.Common.{◌≤◌, arith}
use Rattle.std.proofs.lemmas.Bool.Decides.{nat_tests}
use Rattle.events.specs.declared.marks.Marks.{Marks}
use Rattle.events.specs.Marks.{SumsTellMarks, sum_of}

pub sum-few : (m : Marks) → sum_of m ≤ 7
sum-few m = grind (arith, nat_tests)

pub sums_apart : SumsTellMarks
sums_apart m n e = grind (arith, nat_tests)
