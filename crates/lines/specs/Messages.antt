-- What three bytes say, and the bytes that say it.
use Rattle.std.specs.Prelude.{◌≡◌, ℕ, ◌/◌, ◌%◌, cond, ◌&&◌, Some, None, Option, ◌==◌, nat_lt}
use Rattle.events.specs.Marks.{sum_of}
use Rattle.events.specs.declared.marks.Marks.{Marks}
use Rattle.lines.specs.declared.message.Message.{Message}
use Rattle.lines.specs.declared.note.Note.{Note}
use Rattle.lines.specs.declared.note.Note.TheVariants.{Ask, Grant, Settle}

-- the marks of a sum below 8: executed 1, pending 2, included 4
abbrev pub marks_of : ℕ → Marks
marks_of n = record { executed = (n % 2 == 1); pending = (n / 2 % 2 == 1); included = (n / 4 == 1) }

-- kind 1 asks with extra 0, kind 2 grants with the event's marks, kind 3 settles with 1 for accepted and 0 for refused
abbrev pub written : Note → Message
written (Ask e) = record { kind = 1; event = e; extra = 0 }
written (Grant e x) = record { kind = 2; event = e; extra = sum_of x }
written (Settle e ok) = record { kind = 3; event = e; extra = cond ok 1 0 }

-- any other kind or extra says nothing
unfoldable pub reads : Message → Option Note
reads m =
    cond (m.kind == 1 && m.extra == 0) (Some (Ask m.event))
    (cond (m.kind == 2 && nat_lt m.extra 8) (Some (Grant m.event (marks_of m.extra)))
    (cond (m.kind == 3 && nat_lt m.extra 2) (Some (Settle m.event (m.extra == 1))) None))

-- what was written down reads back
abbrev pub WrittenReads : Type 0
WrittenReads = (n : Note) → reads (written n) ≡ Some n
