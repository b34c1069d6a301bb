-- The contract of one message carried.
use Rattle.std.specs.Prelude.{◌≡◌, ℕ, [], Some, None, Ok, Err, Result}
use Rattle.protocol.specs.Served.{Stuck}
use Rattle.protocol.specs.Sites.{Site}
use Rattle.protocol.specs.Turns.{Carries}
use Rattle.protocol.specs.declared.delivery.StrayMessage.{StrayMessage}
use Rattle.rules.specs.Rule.{Meaning}
use Rattle.site.specs.declared.site.CarryAnswer.{CarryAnswer}
use Rattle.site.specs.declared.site.CarryAnswer.TheVariants.{Nothing, Carried, Answered}

-- a message from a to b leads from S to T
abbrev pub Transferred : Meaning → ℕ → Site → ℕ → ℕ → Result CarryAnswer StrayMessage → Site → Type 0
Transferred R limit S a b (Ok Nothing) T = (S.waits a b ≡ []) × (T ≡ S)
Transferred R limit S a b (Ok Carried) T = Carries R limit S (record { from = a; to = b; answer = None; site = T })
Transferred R limit S a b (Ok (Answered v)) T = Carries R limit S (record { from = a; to = b; answer = Some v; site = T })
Transferred R limit S a b (Err e) T = Stuck R limit S a b T
