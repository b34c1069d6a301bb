-- The contract of a settle: its carries, and the table of its answers.
use Rattle.std.specs.Prelude.{◌≡◌, ℕ, ◌≤◌, false, ◌⊎◌, List, ◌++◌, length, take, drop, Some, None, Ok, Err, Result}
use Rattle.protocol.specs.Served.{EndsEarly}
use Rattle.protocol.specs.Sites.{Site}
use Rattle.protocol.specs.Turns.{Chain, Status, Transfer, answers_in, opened, refusal, waiting}
use Rattle.protocol.specs.declared.answer.Answer.{Answer}
use Rattle.protocol.specs.declared.call.Call.TheVariants.{Settle}
use Rattle.protocol.specs.declared.delivery.StrayMessage.{StrayMessage}
use Rattle.protocol.specs.declared.refusal.Refusal.{Refusal}
use Rattle.protocol.specs.declared.refusal.Refusal.TheVariants.{Stray}
use Rattle.rules.specs.Rule.{Meaning}
use Rattle.site.specs.declared.site.Settlement.{Settlement}

-- the first eight answers in order, and the other entries as they were
abbrev pub noted : List Answer → List Answer → List Answer
noted answers table = take 8 answers ++ drop (length (take 8 answers)) table

-- the messages xs were carried from S, and their answers are noted in the table, which was old before; no more than eight were given
pub record Carrying (R : Meaning) (limit : ℕ) (S : Site) (old : List Answer) (messages answers : ℕ) (table : List Answer) (T : Site) : Type 0 where
  pub transfers : List Transfer
  pub chain : Chain R limit S transfers T
  pub messages_are : length transfers ≡ messages
  pub answers_are : length (answers_in transfers) ≡ answers
  pub few : answers ≤ 8
  pub table_is : table ≡ noted (answers_in transfers) old

-- the carries of a settle from S with a table: what it gives, the table and the site as it leaves them
abbrev pub AllCarried : Meaning → ℕ → Site → List Answer → Result Settlement StrayMessage → List Answer → Site → Type 0
AllCarried R limit S old (Ok s) table T = Carrying R limit S old s.messages s.answers table T × (waiting T ≡ false)
AllCarried R limit S old (Err e) table T =
    (xs : List Transfer) × (U : Site) × Chain R limit S xs U × EndsEarly R limit xs U T × (table ≡ noted (answers_in xs) old)

-- a settle at h with a table: what it gives, the table and the site as it leaves them
abbrev pub Settles : Meaning → ℕ → Status → List Answer → Result Settlement Refusal → List Answer → Status → Type 0
Settles R limit h old (Ok s) table g =
    (refusal R h (Settle (length old)) ≡ None)
    × (T : Site) × Carrying R limit h.site old s.messages s.answers table T × (waiting T ≡ false) × (g ≡ opened T)
Settles R limit h old (Err e) table g =
    ((refusal R h (Settle (length old)) ≡ Some e) × (table ≡ old) × (g ≡ h))
    ⊎ ((refusal R h (Settle (length old)) ≡ None) × (e ≡ Stray)
    × (xs : List Transfer) × (S : Site) × (T : Site) × Chain R limit h.site xs S × EndsEarly R limit xs S T
    × (table ≡ noted (answers_in xs) old) × (g ≡ opened T))
