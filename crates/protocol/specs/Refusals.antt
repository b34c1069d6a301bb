-- The numbers of the refusals of a site.
use Rattle.std.specs.Prelude.{ℕ}
use Rattle.protocol.specs.declared.refusal.Refusal.{Refusal}
use Rattle.protocol.specs.declared.refusal.Refusal.TheVariants.{UnknownStation, UnknownEvent, OtherOwner, RequestOpen, MessageWaits, WrongState, Stray, ShortTable}

abbrev pub refusal_number : Refusal → ℕ
refusal_number UnknownStation = 8
refusal_number UnknownEvent = 9
refusal_number OtherOwner = 10
refusal_number RequestOpen = 11
refusal_number MessageWaits = 12
refusal_number WrongState = 13
refusal_number Stray = 14
refusal_number ShortTable = 17
