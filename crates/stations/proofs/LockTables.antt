-- The table of lock records: all free, and with one record changed.
use Rattle.std.proofs.Common.{◌≡◌, ℕ, ◌<◌, ◌≤◌, false, cond, eqb, List, length, get_or, set, replicate, None, ap, ◌∙◌, inl, inr, zero-le, lit<, get_or-set_other, get_or-set_same}
use mathlib.Core.Path.{fun_ext}
use lib.ListN.{length-replicate}
use Rattle.std.proofs.lemmas.List.{get_or_past, get_or-replicate}
use Rattle.std.proofs.lemmas.Bool.{cases_eq, cases_lt, eq-eqb, ne_eqb}
use Rattle.events.proofs.MemberLaws.{member-past}
use Rattle.events.specs.Members.{NoMember, member}
use Rattle.stations.specs.Shows.{holders, unlocked, waiters}
use Rattle.stations.specs.declared.station.Lock.{Lock}

-- the empty set of an unlocked record
pub none_in : NoMember 0
none_in k = member-past 0 0 k (lit< tt) zero-le

-- a field of each record, after one was changed
pub table-put : {X : Type 0} (F : Lock → X) (locks : List Lock) (e : ℕ) (v : Lock) (g : ℕ) → e < length locks → F (get_or (set locks e v) g unlocked) ≡ cond (eqb g e) (F v) (F (get_or locks g unlocked))
table-put F locks e v g h =
    elim (cases_eq g e) [
      | inl q ↦ let t = eq-eqb g e q in rw (t, q, get_or-set_same locks e v unlocked h)
      | inr n ↦ let t = ne_eqb g e n in rw (t, get_or-set_other locks e g v unlocked n)
    ]

-- a field of each record of a table with one record throughout
table_same : {X : Type 0} (F : Lock → X) (n : ℕ) (v : Lock) (x : X) → F v ≡ x → F unlocked ≡ x → (g : ℕ) → F (get_or (replicate n v) g unlocked) ≡ x
table_same F n v x h u g =
    elim (cases_lt g n) [
      | inl l ↦ ap F (get_or-replicate n g v unlocked l) ∙ h
      | inr l ↦ let m : length (replicate n v) ≤ g = rw (length-replicate n v) l in ap F (get_or_past (replicate n v) g unlocked m) ∙ u
    ]

pub none-held : (n : ℕ) (v : Lock) → v.holder ≡ None → holders (replicate n v) ≡ (λ _. None)
none-held n v h = fun_ext (table_same (λ l. l.holder) n v None h (λ _. None))

pub none-waits : (n : ℕ) (v : Lock) → NoMember v.waiting.bits → waiters (replicate n v) ≡ (λ _ _. false)
none-waits n v h =
    fun_ext λ g. fun_ext λ w. table_same (λ l. member l.waiting.bits w) n v false (h w) (none_in w) g
