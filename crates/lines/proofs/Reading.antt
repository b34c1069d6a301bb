-- What is written down reads back.
use Rattle.std.proofs.Common.{◌≡◌, ℕ, ◌≤◌, sym, ◌∙◌, arith}
use Rattle.events.proofs.Sums.{sums_apart}
use Rattle.events.specs.Marks.{sum_of}
use Rattle.events.specs.declared.marks.Marks.{Marks}
use Rattle.lines.specs.Messages.{WrittenReads, marks_of, reads}

sum_back : (n : ℕ) → n ≤ 7 → sum_of (marks_of n) ≡ n
sum_back n h = grind arith

pub of_sum : (n : ℕ) (m : Marks) → n ≤ 7 → sum_of m ≡ n → m ≡ marks_of n
of_sum n m h e = sums_apart m (marks_of n) (e ∙ sym (sum_back n h))

pub written_reads : WrittenReads
unfolding reads
written_reads n = grind arith
