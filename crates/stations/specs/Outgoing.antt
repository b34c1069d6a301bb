-- What an outbox holds.
use Rattle.std.specs.Prelude.{List}
use Rattle.protocol.specs.declared.delivery.Post.{Post}
use Rattle.stations.specs.declared.outbox.Outbox.{Outbox}

-- the posts that are to go out, in order
abbrev pub outgoing : Outbox → List Post
outgoing o = o.posts.items
