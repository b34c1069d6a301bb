-- On each pair a line is a queue.
use Rattle.std.proofs.Common.{◌≡◌, ℕ, ◌+◌, ◌<◌, Bool, true, false, cond, ◌&&◌, eqb, ltb, List, [], ◌∷◌, ◌++◌, length, get_or, take, drop, set, sym, refl, ap, ◌∙◌, ap₂, arith}
use mathlib.Core.Path.{fun_ext}
use Rattle.std.proofs.lemmas.List.{drop-drop, drop-set-lt, take_more, take_more_set}
use Rattle.std.proofs.lemmas.Bool.{and_parts, eqb-true}
use Rattle.lines.specs.declared.message.Message.{Message}
use Rattle.lines.specs.declared.play.LineAnswer.{LineAnswer}
use Rattle.lines.specs.declared.play.LineAnswer.TheVariants.{Counted, Posted, Taken}
use Rattle.lines.specs.declared.play.LineCall.{LineCall}
use Rattle.lines.specs.declared.play.LineCall.TheVariants.{Count, Post, Take as Takes}
use Rattle.lines.specs.Lists.{Lists, fits, inside, oldest, same}
use Rattle.lines.specs.Plays.{PairsAreQueues, answers, answers_on, calls_on, is_on, lists, put, queue, queue_answers, queue_serves, queue_tells, served, told}

-- a call on the pair does what a queue does
module _ (limit : ℕ) (W : Lists) (a b : ℕ) where
  here : (from to : ℕ) → same from to a b ≡ true → W from to ≡ W a b
  here from to t = let p = and_parts (eqb a from) (eqb b to) t in ap₂ W (sym (eqb-true a from p.0)) (sym (eqb-true b to p.1))

  room : (from to : ℕ) → inside a b ≡ true → same from to a b ≡ true → fits limit W from to ≡ ltb (length (W a b)) limit
  room from to i t =
      let p = and_parts (eqb a from) (eqb b to) t in
      ap₂ (λ x y. fits limit W x y) (sym (eqb-true a from p.0)) (sym (eqb-true b to p.1)) ∙ ap (λ x. x && ltb (length (W a b)) limit) i

  pub tells : (c : LineCall) → inside a b ≡ true → is_on a b c ≡ true → told limit W c ≡ queue_tells limit (W a b) c
  tells (Post from to m) i t = ap (λ x. Posted (put x)) (room from to i t)
  tells (Takes from to) i t = ap (λ q. Taken (oldest q)) (here from to t)
  tells (Count from to) i t = ap (λ q. Counted (length q)) (here from to t)

  pub serves : (c : LineCall) → inside a b ≡ true → is_on a b c ≡ true → served limit W c a b ≡ queue_serves limit (W a b) c
  serves (Post from to m) i t = let r = room from to i t in grind arith
  serves c i t = grind arith

  pub leaves : (c : LineCall) → is_on a b c ≡ false → served limit W c a b ≡ W a b
  leaves c t = grind arith

-- what the law says of one list of calls
abbrev Same : ℕ → Lists → List LineCall → ℕ → ℕ → List LineCall → List Message → Type 0
Same limit W cs a b on q =
    (answers_on a b cs (answers limit W cs) ≡ queue_answers limit q on) × (lists limit W cs a b ≡ queue limit q on)

first : (limit : ℕ) (W : Lists) (c : LineCall) (cs : List LineCall) (a b : ℕ) → inside a b ≡ true
    → Same limit (served limit W c) cs a b (calls_on a b cs) (served limit W c a b) → Same limit W (c ∷ cs) a b (calls_on a b (c ∷ cs)) (W a b)
unfolding answers lists queue_answers queue calls_on answers_on
first limit W c cs a b i rest = go (is_on a b c) refl
  where
    go : (t : Bool) → is_on a b c ≡ t
        → (cond t (told limit W c ∷ answers_on a b cs (answers limit (served limit W c) cs)) (answers_on a b cs (answers limit (served limit W c) cs)) ≡ queue_answers limit (W a b) (cond t (c ∷ calls_on a b cs) (calls_on a b cs)))
        × (lists limit (served limit W c) cs a b ≡ queue limit (W a b) (cond t (c ∷ calls_on a b cs) (calls_on a b cs)))
    go true t =
        let s = serves limit W a b c i t in (
          ap₂ (λ x l. x ∷ l) (tells limit W a b c i t) (rest.0 ∙ ap (λ q. queue_answers limit q (calls_on a b cs)) s),
          rest.1 ∙ ap (λ q. queue limit q (calls_on a b cs)) s,
        )
    go false t =
        let s = leaves limit W a b c t in
        (rest.0 ∙ ap (λ q. queue_answers limit q (calls_on a b cs)) s, rest.1 ∙ ap (λ q. queue limit q (calls_on a b cs)) s)

pub queues : PairsAreQueues
unfolding answers lists queue_answers queue calls_on answers_on
queues limit W [] a b i = (refl, refl)
queues limit W (c ∷ cs) a b i = first limit W c cs a b i (queues limit (served limit W c) cs a b i)

-- ---- one call more

pub lists-more : (limit : ℕ) (W : Lists) (cs : List LineCall) (c : LineCall) → lists limit W (cs ++ c ∷ []) ≡ served limit (lists limit W cs) c
unfolding lists
lists-more limit W [] c = refl
lists-more limit W (x ∷ cs) c = lists-more limit (served limit W x) cs c

pub answers-more : (limit : ℕ) (W : Lists) (cs : List LineCall) (c : LineCall) → answers limit W (cs ++ c ∷ []) ≡ answers limit W cs ++ told limit (lists limit W cs) c ∷ []
unfolding answers lists
answers-more limit W [] c = refl
answers-more limit W (x ∷ cs) c = ap (λ l. told limit W x ∷ l) (answers-more limit (served limit W x) cs c)

-- the same of the first calls of a list, as far as a loop has come
module _ (limit : ℕ) (W V : Lists) (calls : List LineCall) (i : ℕ) (d : LineCall) (l : i < length calls) (e : V ≡ lists limit W (take i calls)) where
  pub lists-turn : (next : Lists) → ((a b : ℕ) → next a b ≡ served limit V (get_or calls i d) a b) → next ≡ lists limit W (take (i + 1) calls)
  lists-turn next h =
      fun_ext (λ a. fun_ext (λ b. h a b))
      ∙ ap (λ X. served limit X (get_or calls i d)) e
      ∙ sym (lists-more limit W (take i calls) (get_or calls i d))
      ∙ ap (lists limit W) (sym (take_more calls i d l))

  pub answers-turn : (places : List LineAnswer) (r : LineAnswer) → i < length places → take i places ≡ answers limit W (take i calls) → r ≡ told limit V (get_or calls i d)
      → take (i + 1) (set places i r) ≡ answers limit W (take (i + 1) calls)
  answers-turn places r m p q =
      take_more_set places i r m
      ∙ ap₂ (λ xs x. xs ++ x ∷ []) p (q ∙ ap (λ X. told limit X (get_or calls i d)) e)
      ∙ sym (answers-more limit W (take i calls) (get_or calls i d))
      ∙ ap (answers limit W) (sym (take_more calls i d l))

pub rest-turn : (places old : List LineAnswer) (i : ℕ) (r : LineAnswer) → drop i places ≡ drop i old → drop (i + 1) (set places i r) ≡ drop (i + 1) old
rest-turn places old i r h =
    drop-set-lt (i + 1) places i r (omega arith) ∙ sym (drop-drop 1 i places) ∙ ap (drop 1) h ∙ drop-drop 1 i old
