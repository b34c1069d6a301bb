-- What an outbox holds.
use Rattle.lines.specs.declared.note.Note.TheVariants.{Ask}
use Rattle.protocol.specs.declared.delivery.Post.{Post}

abbrev pub blank : Post
blank = record { to = 0; note = Ask 0 }
