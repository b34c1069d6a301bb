-- The contract of a single call: it does its turn, or it meets what never happens in a site that was started.
use Rattle.std.specs.Prelude.{◌≡◌, ℕ, ◌+◌, ◌*◌, ◌<◌, false, ◌⊎◌, List, ◌∷◌, length, Some, None, Option, Err}
use Rattle.lines.specs.declared.note.Note.{Note}
use Rattle.rules.specs.Rule.{Meaning}
use Rattle.protocol.specs.declared.call.Call.{Call}
use Rattle.protocol.specs.declared.call.Call.TheVariants.{Start, Request, Carry, Settle, WorkList, Tally}
use Rattle.protocol.specs.declared.refusal.Refusal.TheVariants.{Stray}
use Rattle.protocol.specs.Outcomes.{Outcome}
use Rattle.protocol.specs.Sites.{Site}
use Rattle.protocol.specs.Station.{put_pair, step}
use Rattle.protocol.specs.Turns.{Chain, Serves, Status, Transfer, answers_in, asking, goes, lowest_pair, opened, refusal}

-- the oldest message of a pair is stray, or its step meets a full pair: it is removed, and nothing else changes
pub record Stuck (R : Meaning) (limit : ℕ) (S : Site) (a b : ℕ) (T : Site) : Type 0 where
  pub oldest : Option Note
  pub others : List (Option Note)
  pub waits : S.waits a b ≡ oldest ∷ others
  pub unfit : goes limit (put_pair S.waits a b others) b (step R b (S.station b) a oldest) ≡ false
  pub left : T ≡ record { station = S.station; waits = put_pair S.waits a b others }

-- a settle ends early at S, and leaves T: at a message that is stuck, after more than 1,152 messages or after a ninth answer
abbrev pub EndsEarly : Meaning → ℕ → List Transfer → Site → Site → Type 0
EndsEarly R limit xs S T =
    ((a : ℕ) × (b : ℕ) × (lowest_pair S.waits ≡ Some (8 * a + b)) × (b < 8) × Stuck R limit S a b T)
    ⊎ (((1152 < length xs) ⊎ (8 < length (answers_in xs))) × (T ≡ S))

-- what is refused 14, and how it leaves the site
abbrev pub Fails : Meaning → ℕ → Status → Call → Status → Type 0
Fails R limit h Start g = ⊥
Fails R limit h (Request s e) g =
    (refusal R h (Request s e) ≡ None) × (goes limit h.site.waits s (asking R h.site s e) ≡ false) × (g ≡ h)
Fails R limit h (Carry a b) g =
    (refusal R h (Carry a b) ≡ None) × (T : Site) × Stuck R limit h.site a b T × (g ≡ opened T)
Fails R limit h (Settle n) g =
    (refusal R h (Settle n) ≡ None) × (xs : List Transfer) × (S : Site) × (T : Site)
    × Chain R limit h.site xs S × EndsEarly R limit xs S T × (g ≡ opened T)
Fails R limit h WorkList g = ⊥
Fails R limit h (Tally s) g = ⊥

-- the call c at h has the outcome o and leaves g
abbrev pub Served : Meaning → ℕ → Status → Call → Outcome → Status → Type 0
Served R limit h c o g =
    ((xs : List Transfer) × Serves R limit h (record { call = c; outcome = o; transfers = xs; after = g }))
    ⊎ (Fails R limit h c g × (o ≡ Err Stray))
