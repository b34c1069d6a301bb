-- The marks of an event, their sum, and the marks that a marking gives each event.
use Rattle.std.specs.Prelude.{◌≡◌, ℕ, ◌+◌, false, cond}
use Rattle.events.specs.Members.{member}
use Rattle.events.specs.declared.marking.Marking.{Marking}
use Rattle.events.specs.declared.marks.Marks.{Marks}

abbrev pub unmarked : Marks
unmarked = record { executed = false; pending = false; included = false }

-- executed counts 1, pending 2 and included 4
abbrev pub sum_of : Marks → ℕ
sum_of m = cond m.executed 1 0 + cond m.pending 2 0 + cond m.included 4 0

abbrev pub SumsTellMarks : Type 0
SumsTellMarks = (a b : Marks) → sum_of a ≡ sum_of b → a ≡ b

-- the marks of the event k
abbrev pub marks : Marking → ℕ → Marks
marks m k =
    record {
      executed = member m.executed.bits k;
      pending = member m.pending.bits k;
      included = member m.included.bits k;
    }
