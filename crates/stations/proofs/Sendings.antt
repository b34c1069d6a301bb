-- Room for posts, and posts on a line.
use Rattle.std.proofs.Common.{◌≡◌, ℕ, ◌+◌, ◌-◌, ◌<◌, ◌≤◌, Bool, true, false, cond, ◌&&◌, eqb, ltb, List, [], ◌∷◌, ◌++◌, map, length, get_or, drop, Some, set, sym, refl, ap, ◌∙◌, subst, inl, inr, arith, length-set, get_or-set_other, get_or-set_same}
use mathlib.Core.Path.{fun_ext}
use Rattle.std.proofs.lemmas.List.Elements.{All-get_or}
use Rattle.std.specs.List.{All}
use Rattle.std.proofs.lemmas.List.{at_drop_all, at_drop_more, length-map, length_push, map_push}
use Rattle.std.proofs.lemmas.Bool.{and_parts, cases_eq, cond-false, cond-true, eq-eqb, eqb-true, ne_eqb}
use Rattle.std.proofs.lemmas.Bool.Decides.{nat_tests}
use Rattle.lines.proofs.Reading.{written_reads}
use Rattle.lines.specs.Lists.{Lists, fits, posted, same}
use Rattle.lines.specs.Messages.{reads, written}
use Rattle.lines.specs.declared.message.Message.{Message}
use Rattle.protocol.specs.Queues.{Queues, post, post_all, queues, room_for}
use Rattle.protocol.specs.declared.delivery.Post.{Post}
use Rattle.stations.proofs.Posts.{blank}

module _ (limit b : ℕ) (xs : List Post) (i : ℕ) (within : i < length xs) where
  room-more : (Q : Queues) → room_for limit Q b (drop i xs) ≡ (ltb (length (Q b (get_or xs i blank).to)) limit && room_for limit (post Q b (get_or xs i blank)) b (drop (i + 1) xs))
  unfolding room_for
  room-more Q = at_drop_more (room_for limit Q b) xs i blank within

  all_more : (Q : Queues) → post_all Q b (drop i xs) ≡ post_all (post Q b (get_or xs i blank)) b (drop (i + 1) xs)
  unfolding post_all
  all_more Q = at_drop_more (post_all Q b) xs i blank within

room-all : (limit b : ℕ) (xs : List Post) (i : ℕ) (Q : Queues) → length xs ≤ i → room_for limit Q b (drop i xs) ≡ true
unfolding room_for
room-all limit b xs i Q l = at_drop_all (room_for limit Q b) xs i l

all-all : (b : ℕ) (xs : List Post) (i : ℕ) (Q : Queues) → length xs ≤ i → post_all Q b (drop i xs) ≡ Q
unfolding post_all
all-all b xs i Q l = at_drop_all (post_all Q b) xs i l

-- ---- the room is counted

-- the table has how many more notes each list from b takes
abbrev pub Counts : ℕ → Queues → ℕ → List ℕ → ℕ → Type 0
Counts limit Q b room n = (k : ℕ) → k < n → get_or room k 0 ≡ limit - length (Q b k)

post-length : (Q : Queues) (b : ℕ) (p : Post) (k : ℕ) → length (post Q b p b k) ≡ cond (eqb k p.to) (length (Q b k) + 1) (length (Q b k))
post-length Q b p k =
    elim (cases_eq k p.to) [
      | inl q ↦ let t = eq-eqb k p.to q in let s = eq-eqb b b refl in rw (t, s, q, length_push (Q b p.to) (Some p.note))
      | inr ne ↦ let t = ne_eqb k p.to ne in let s = eq-eqb b b refl in rw (t, s)
    ]

-- with one place less for the list of the post
counts-less : (limit : ℕ) (Q : Queues) (b : ℕ) (p : Post) (room : List ℕ) → p.to < length room → Counts limit Q b room 8 → Counts limit (post Q b p) b (set room p.to (get_or room p.to 0 - 1)) 8
counts-less limit Q b p room h i k l =
    let n = post-length Q b p k in
    let r = i k l in
    let v = get_or room p.to 0 - 1 in
    elim (cases_eq k p.to) [
      | inl q ↦
          let m = n ∙ cond-true (eqb k p.to) _ _ (eq-eqb k p.to q) in
          let a : get_or (set room p.to v) k 0 ≡ v = rw q (get_or-set_same room p.to v 0 h) in
          let c : get_or room k 0 ≡ get_or room p.to 0 = ap (λ x. get_or room x 0) q in omega arith
      | inr ne ↦
          let m = n ∙ cond-false (eqb k p.to) _ _ (ne_eqb k p.to ne) in
          let a = get_or-set_other room p.to k v 0 ne in omega arith
    ]

-- after some posts that found room, the table counts for the lists with these posts
abbrev pub Counted : ℕ → Queues → ℕ → List Post → ℕ → List ℕ → Type 0
Counted limit Q b xs i room =
    (Q' : Queues) × (length room ≡ 8) × Counts limit Q' b room 8 × (room_for limit Q b xs ≡ room_for limit Q' b (drop i xs))

full : (n limit : ℕ) → limit - n ≡ 0 → ltb n limit ≡ false
full n limit e = grind (arith, nat_tests)

free : (n limit : ℕ) → (limit - n ≡ 0 → ⊥) → ltb n limit ≡ true
free n limit e = grind (arith, nat_tests)

-- each of the posts goes to a station
abbrev pub ToStations : List Post → Type 0
ToStations xs = All (λ p. p.to < 8) xs

module _ (limit : ℕ) (Q : Queues) (b : ℕ) (xs : List Post) (i to : ℕ) (room : List ℕ) (within : i < length xs) (sound : ToStations xs)
    (to-is : to ≡ (get_or xs i blank).to) (inv : Counted limit Q b xs i room)
  where
    abbrev p : Post
    p = get_or xs i blank

    small : p.to < 8
    small = All-get_or (λ (p : Post). p.to < 8) xs i blank within sound

    room-here : room_for limit Q b xs ≡ (ltb (length (inv.0 b p.to)) limit && room_for limit (post inv.0 b p) b (drop (i + 1) xs))
    room-here = inv.3 ∙ room-more limit b xs i within inv.0

    room-is : get_or room to 0 ≡ limit - length (inv.0 b p.to)
    room-is = ap (λ k. get_or room k 0) to-is ∙ inv.2 p.to small

    -- a post finds no room
    pub counted-full : get_or room to 0 ≡ 0 → false ≡ room_for limit Q b xs
    counted-full z =
        let t = full (length (inv.0 b p.to)) limit (sym room-is ∙ z) in
        sym (room-here ∙ ap (λ x. x && room_for limit (post inv.0 b p) b (drop (i + 1) xs)) t)

    -- a post finds room
    pub counted-more : (get_or room to 0 ≡ 0 → ⊥) → Counted limit Q b xs (i + 1) (set room to (get_or room to 0 - 1))
    counted-more z =
        let t = free (length (inv.0 b p.to)) limit (λ x. z (room-is ∙ x)) in
        let long = inv.1 in
        let l = small in
        let less : Counts limit (post inv.0 b p) b (set room to (get_or room to 0 - 1)) 8 =
        subst (λ k. Counts limit (post inv.0 b p) b (set room k (get_or room k 0 - 1)) 8) (sym to-is) (counts-less limit inv.0 b p room (omega arith) inv.2) in
        (post inv.0 b p, length-set room _ _ ∙ long, less, room-here ∙ ap (λ x. x && room_for limit (post inv.0 b p) b (drop (i + 1) xs)) t)

pub counted-all : (limit : ℕ) (Q : Queues) (b : ℕ) (xs : List Post) (i : ℕ) (room : List ℕ) → length xs ≤ i → Counted limit Q b xs i room → true ≡ room_for limit Q b xs
counted-all limit Q b xs i room l inv = sym (inv.3 ∙ room-all limit b xs i inv.0 l)

-- ---- the messages are posted

-- what is left to post leads to where all the posts lead, and finds room
abbrev pub Posting : ℕ → Queues → ℕ → List Post → ℕ → Queues → Type 0
Posting limit Q b xs i Q' = (post_all Q' b (drop i xs) ≡ post_all Q b xs) × (room_for limit Q' b (drop i xs) ≡ true)

one_place : (W : Lists) (b : ℕ) (p : Post) (x y : ℕ) (s t : Bool) → eqb x b ≡ s → eqb y p.to ≡ t → map reads (cond (s && t) (W x y ++ written p.note ∷ []) (W x y)) ≡ cond (s && t) (map reads (W b p.to) ++ Some p.note ∷ []) (map reads (W x y))
one_place W b p x y true true s t =
    let c : x ≡ b = eqb-true x b s in
    let d : y ≡ p.to = eqb-true y p.to t in
    rw (c, d) (map_push reads (W b p.to) (written p.note) ∙ ap (λ n. map reads (W b p.to) ++ n ∷ []) (written_reads p.note))
one_place W b p x y true false s t = refl
one_place W b p x y false t' s t = refl

-- one message that fits is one post
posted-one : (limit : ℕ) (W V : Lists) (b : ℕ) (p : Post) → fits limit W b p.to ≡ true → ((x y : ℕ) → V x y ≡ posted limit W b p.to (written p.note) x y) → queues V ≡ post (queues W) b p
posted-one limit W V b p t h = fun_ext λ x. fun_ext λ y.
    ap (map reads) (h x y ∙ ap (λ f. cond (f && same b p.to x y) (W x y ++ written p.note ∷ []) (W x y)) t)
    ∙ one_place W b p x y (eqb x b) (eqb y p.to) refl refl

fits-here : (limit b to n : ℕ) → b < 8 → to < 8 → ltb n limit ≡ true → ((ltb b 8 && ltb to 8) && ltb n limit) ≡ true
fits-here limit b to n k l t = grind (arith, nat_tests)

pub posting-more : (limit : ℕ) (Q : Queues) (W V : Lists) (b : ℕ) (xs : List Post) (i : ℕ) (m : Message) → i < length xs → ToStations xs → b < 8 → m ≡ written (get_or xs i blank).note → ((x y : ℕ) → V x y ≡ posted limit W b (get_or xs i blank).to m x y) → Posting limit Q b xs i (queues W) → Posting limit Q b xs (i + 1) (queues V)
posting-more limit Q W V b xs i m within sound few m-is h inv =
    let p : Post = get_or xs i blank in
    let small = All-get_or (λ (p : Post). p.to < 8) xs i blank within sound in
    let here = room-more limit b xs i within (queues W) in
    let parts = and_parts _ _ (sym here ∙ inv.1) in
    let room = sym (ap (λ n. ltb n limit) (length-map (W b p.to) reads)) ∙ parts.0 in
    let one = posted-one limit W V b p (fits-here limit b p.to (length (W b p.to)) few small room) (λ x y. h x y ∙ ap (λ n. posted limit W b p.to n x y) m-is) in (
      ap (λ U. post_all U b (drop (i + 1) xs)) one
          ∙ sym (all_more limit b xs i within (queues W))
          ∙ inv.0,
      ap (λ U. room_for limit U b (drop (i + 1) xs)) one ∙ parts.1,
    )

pub posting-all : (limit : ℕ) (Q Q' : Queues) (b : ℕ) (xs : List Post) (i : ℕ) → length xs ≤ i → Posting limit Q b xs i Q' → Q' ≡ post_all Q b xs
posting-all limit Q Q' b xs i l inv = sym (all-all b xs i Q' l) ∙ inv.0
