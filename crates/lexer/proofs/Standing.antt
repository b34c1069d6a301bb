-- Parts of a text and their places.
use Rattle.std.proofs.Common.{◌≡◌, ℕ, ◌+◌, ◌-◌, ◌^◌, ◌<◌, ◌≤◌, min, List, [], ◌∷◌, ◌++◌, length, take, drop, sym, refl, ap, ◌∙◌, subst, arith}
use Rattle.std.proofs.lemmas.List.{length-append, length-drop, length-take, drop-take, drop-drop, drop_at, take_at, take-take}
use Rattle.lexer.specs.Parts.{StandAt, StandIn}
use Rattle.lexer.specs.declared.part.Part.{Part}

stand-drop : (text : List ℕ) (at : ℕ) (a b : List ℕ) → StandAt text at (a ++ b) → StandAt text (at + length a) b
stand-drop text at a b h =
    ap (take (length b)) (sym (drop-drop (length a) at text))
    ∙ sym (drop-take (length a) (length b) (drop at text))
    ∙ ap (λ n. drop (length a) (take n (drop at text))) (sym (length-append a b))
    ∙ ap (drop (length a)) h
    ∙ drop_at a b (length a) refl

stand-take : (text : List ℕ) (at : ℕ) (a b : List ℕ) → StandAt text at (a ++ b) → StandAt text at a
stand-take text at a b h =
    let n : length a ≤ length (a ++ b) = omega (arith, length-append a b) in
    sym (take-take (length a) (length (a ++ b)) (drop at text) n) ∙ ap (take (length a)) h ∙ take_at a b (length a) refl

-- what stands in a text of a machine's size, some of it at least, ends within it
stand-within : (text : List ℕ) (at : ℕ) (a : List ℕ) → 0 < length a → StandAt text at a → at + length a ≤ length text
stand-within text at a some h = omega (arith, ap length h, length-take (length a) (drop at text), length-drop at text)

-- the part after a, at a place that is counted as far as machine numbers go
stand-next : (text : List ℕ) (at : ℕ) (a b : List ℕ) (next : ℕ) → length text < 2 ^ 64 → next ≡ min (at + length a) (2 ^ 64 - 1) → StandAt text at (a ++ b) → StandAt text next b
stand-next text at a [] next short e h = refl
stand-next text at a (x ∷ b) next short e h =
    let fits = stand-within text at (a ++ x ∷ b) (omega (arith, length-append a (x ∷ b))) h in
    let is : at + length a ≡ next = omega (arith, length-append a (x ∷ b)) in
    subst (λ n. StandAt text n (x ∷ b)) is (stand-drop text at a (x ∷ b) h)

-- where a part stands, its front and what is left of it stand
pub stand-parts : (whole : Part) (front tail : List ℕ) (next : ℕ) → whole.bytes.now ≡ front ++ tail → next ≡ min (whole.at + length front) (2 ^ 64 - 1) → StandIn whole whole.at front × StandIn whole next tail
stand-parts whole front tail next is e = (
  λ text short h. stand-take text whole.at front tail (subst (StandAt text whole.at) is h),
  λ text short h. stand-next text whole.at front tail next short e (subst (StandAt text whole.at) is h),
)
