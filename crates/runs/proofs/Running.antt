-- One call more of a list.
use Rattle.std.proofs.Common.{◌≡◌, ℕ, ◌+◌, ◌<◌, ◌≤◌, false, List, [], ◌∷◌, ◌++◌, map, length, get_or, take, drop, set, sym, ap, ◌∙◌, subst, subst₂, append_assoc, arith}
use Rattle.std.proofs.lemmas.List.{drop-drop, drop-set-lt, take_more, take_more_set}
use Rattle.lines.specs.Lists.{Lists, inside}
use Rattle.lines.specs.Messages.{reads}
use Rattle.rules.specs.Rule.{Meaning}
use Rattle.protocol.proofs.Kept.{kept}
use Rattle.protocol.specs.Promise.{Promise, Proper}
use Rattle.protocol.specs.Served.{Served}
use Rattle.protocol.specs.Turns.{Status}
use Rattle.protocol.specs.declared.call.Call.{Call}
use Rattle.protocol.specs.Outcomes.{Outcome}
use Rattle.protocol.specs.Queues.{queues}
use Rattle.runs.specs.Running.{Lasts, Promised}

-- one turn of a loop over the calls; x is the rule at the start, and y the rule now
pub lasts-more : {X : Type 0} (means : X → Meaning) (limit : ℕ) (x y : X) → Proper (means x) → 3 ≤ limit → (h g k : Status) (calls : List Call) (i : ℕ) (d : Call) (outcomes : List Outcome) (o : Outcome)
    → Lasts (means x) limit h (take i calls) (take i outcomes) g → y ≡ x → i < length calls → i < length outcomes → Served (means y) limit g (get_or calls i d) o k
    → Lasts (means x) limit h (take (i + 1) calls) (take (i + 1) (set outcomes i o)) k
lasts-more {X} means limit x y proper enough h g k calls i d outcomes o lasts e few room s before past told p =
    let c : Call = get_or calls i d in
    let m = kept.goes_on (means x) proper limit enough before g k (past ++ take i calls) (told ++ take i outcomes) c o (lasts before past told p) (subst (λ (z : X). Served (means z) limit g c o k) e s) in
    let a : (past ++ take i calls) ++ (c ∷ []) ≡ past ++ take (i + 1) calls = append_assoc past (take i calls) (c ∷ []) ∙ ap (λ l. past ++ l) (sym (take_more calls i d few)) in
    let b : (told ++ take i outcomes) ++ (o ∷ []) ≡ told ++ take (i + 1) (set outcomes i o) = append_assoc told (take i outcomes) (o ∷ []) ∙ ap (λ l. told ++ l) (sym (take_more_set outcomes i o room)) in
    subst₂ (λ a b. Promise (means x) limit before a b k) a b m

-- the places that are left stay as they were
pub rest_more : (outcomes old : List Outcome) (i : ℕ) (o : Outcome) → drop i outcomes ≡ drop i old → drop (i + 1) (set outcomes i o) ≡ drop (i + 1) old
rest_more outcomes old i o h = drop-set-lt (i + 1) outcomes i o (omega arith) ∙ sym (drop-drop 1 i outcomes) ∙ ap (drop 1) h ∙ drop-drop 1 i old

-- the promise of a site that was put together for the calls
pub promised : {X Y : Type 0} (means : X → Meaning) (waits : Y → Lists) (limit : ℕ) (rule x : X) (line y : Y) (h g : Status) (calls : List Call) (outcomes : List Outcome)
    → x ≡ rule → y ≡ line → Proper (means x) → 3 ≤ limit → h.is_open ≡ false → h.site.waits ≡ queues (waits y) → ((a b : ℕ) → inside a b ≡ false → waits y a b ≡ [])
    → Lasts (means x) limit h calls outcomes g → Promised (means rule) limit (queues (waits line)) calls outcomes
promised means waits limit rule x line y h g calls outcomes e f proper enough shut over none lasts =
    record {
      before = h;
      now = g;
      over = over ∙ ap (λ z. queues (waits z)) f;
      promise = subst (λ z. Promise (means z) limit h calls outcomes g) e
          (lasts h [] [] (kept.begins (means x) proper limit enough h (record { shut = shut; within = λ a b k. ap (λ Q. Q a b) over ∙ ap (map reads) (none a b k) })));
    }
