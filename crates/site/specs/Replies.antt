-- What a carry replies.
use Rattle.protocol.specs.declared.call.Reply.{Reply}
use Rattle.protocol.specs.declared.call.Reply.TheVariants.{Nothing, Carried, Answered}
use Rattle.site.specs.declared.site.CarryAnswer.{CarryAnswer}
use Rattle.site.specs.declared.site.CarryAnswer.TheVariants.{Nothing as NothingWaits, Carried as Delivered, Answered as Answering}

abbrev pub carry_reply : CarryAnswer → Reply
carry_reply NothingWaits = Nothing
carry_reply Delivered = Carried
carry_reply (Answering a) = Answered a
