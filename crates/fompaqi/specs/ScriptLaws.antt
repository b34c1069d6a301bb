-- Lines that write calls write one call each, are printable, and are not passed over.
use Rattle.std.specs.Prelude.{◌≡◌, ℕ, ◌≤◌, true, List, [], ◌∷◌, ◌++◌, slice_index, refl}
use Rattle.std.proofs.Common.{sym, ap, ◌∙◌, inl, inr, arith}
use Rattle.lexer.specs.Bytes.{clean}
use Rattle.text.specs.Declarations.{field}
use Rattle.text.proofs.FieldLaws.{field-is}
use Rattle.text.proofs.Writings.{clean-append, clean-field, two-same}
use Rattle.protocol.specs.declared.call.Call as site
use Rattle.protocol.specs.declared.call.Call.TheVariants.{Start, Request, Carry, Settle, WorkList, Tally}
use Rattle.runs.specs.declared.table.TableCall as table
use Rattle.runs.specs.declared.table.TableCall.TheVariants as table_calls
use Rattle.fompaqi.specs.Scripts.{Passed, SiteFits, TableFits, site_line, table_line}

-- what begins with a letter is not passed over
pub noticed : (letter : ℕ) (rest : List ℕ) → 36 ≤ letter → Passed (letter ∷ rest) → ⊥
noticed letter rest h (inl e) = absurd (omega arith)
noticed letter rest h (inr all) = let z : letter ≡ 32 = all 0 (omega arith) in absurd (omega arith)

pub table-one : (c d : table.TableCall) → TableFits c → TableFits d → table_line c ≡ table_line d → c ≡ d
table-one (table_calls.Request e) (table_calls.Request f) fc fd eq =
    let t : field e ≡ field f = cc in
    let same = field-is e f (omega arith) (omega arith) t in
    λ i. table_calls.Request (same i)
table-one table_calls.WorkList table_calls.WorkList fc fd eq = refl
table-one c d fc fd eq = absurd (let z = ap (λ l. slice_index l 0) eq in omega arith)

pub table-plain : (c : table.TableCall) → TableFits c → (clean (table_line c) ≡ true) × (Passed (table_line c) → ⊥)
table-plain (table_calls.Request e) f = (clean-field e (omega arith), noticed 113 (field e) (omega arith))
table-plain table_calls.WorkList f = (refl, noticed 119 [] (omega arith))

pub site-one : (c d : site.Call) → SiteFits c → SiteFits d → site_line c ≡ site_line d → c ≡ d
site-one Start Start fc fd eq = refl
site-one (Request s e) (Request t f) fc fd eq =
    let h : field s ++ field e ≡ field t ++ field f = cc in
    let p = two-same s e t f (omega arith, omega arith) (omega arith, omega arith) h in
    λ i. Request (p.0 i) (p.1 i)
site-one (Carry a b) (Carry x y) fc fd eq =
    let h : field a ++ field b ≡ field x ++ field y = cc in
    let p = two-same a b x y (omega arith, omega arith) (omega arith, omega arith) h in
    λ i. Carry (p.0 i) (p.1 i)
site-one (Settle m) (Settle n) fc fd eq = ap Settle (fc ∙ sym fd)
site-one WorkList WorkList fc fd eq = refl
site-one (Tally s) (Tally t) fc fd eq =
    let h : field s ≡ field t = cc in
    ap Tally (field-is s t (omega arith) (omega arith) h)
site-one c d fc fd eq = absurd (let z = ap (λ l. slice_index l 0) eq in omega arith)

pub site-plain : (c : site.Call) → SiteFits c → (clean (site_line c) ≡ true) × (Passed (site_line c) → ⊥)
site-plain Start f = (refl, noticed 98 [] (omega arith))
site-plain (Request s e) f =
    (clean-append (field s) (field e) (clean-field s (omega arith)) (clean-field e (omega arith)), noticed 113 (field s ++ field e) (omega arith))
site-plain (Carry a b) f =
    (clean-append (field a) (field b) (clean-field a (omega arith)) (clean-field b (omega arith)), noticed 116 (field a ++ field b) (omega arith))
site-plain (Settle room) f = (refl, noticed 122 [] (omega arith))
site-plain WorkList f = (refl, noticed 119 [] (omega arith))
site-plain (Tally s) f = (clean-field s (omega arith), noticed 121 (field s) (omega arith))
