-- What posting a list of messages leaves, and when it finds room.
use Rattle.std.proofs.Common.{◌≡◌, ℕ, zero, suc, ◌≤◌, Bool, true, cond, ◌&&◌, eqb, ltb, List, [], ◌∷◌, ◌++◌, length, Some, Option, refl, ap, ◌∙◌, append_assoc, append-nil, arith, length-append}
use Rattle.std.proofs.lemmas.Bool.Decides.{nat_tests}
use Rattle.std.proofs.lemmas.Bool.{lt-ltb, eq-eqb, and_from}
use Rattle.events.specs.declared.marks.Marks.{Marks}
use Rattle.lines.specs.declared.note.Note.{Note}
use Rattle.lines.specs.declared.note.Note.TheVariants.{Grant}
use Rattle.protocol.specs.declared.delivery.Post.{Post}
use Rattle.protocol.specs.Station.{is, to_each, hand, hands}
use Rattle.protocol.specs.Queues.{post, post_all, room_for}

-- the messages among the posts that go to y
abbrev pub sent_to : ℕ → List Post → List (Option Note)
sent_to y [] = []
sent_to y (p ∷ ps) = cond (eqb p.to y) (Some p.note ∷ sent_to y ps) (sent_to y ps)

pub sent-app : (y : ℕ) (p q : List Post) → sent_to y (p ++ q) ≡ sent_to y p ++ sent_to y q
sent-app y [] q = refl
sent-app y (p ∷ ps) q = let h = sent-app y ps q in grind arith

post-one : (Q : ℕ → ℕ → List (Option Note)) (b : ℕ) (p : Post) (l : List (Option Note)) (x y : ℕ) →
    cond (eqb x b) (post Q b p x y ++ l) (post Q b p x y) ≡ cond (eqb x b) (Q x y ++ cond (eqb p.to y) (Some p.note ∷ l) l) (Q x y)
post-one Q b p l x y = let h = append_assoc (Q x y) (Some p.note ∷ []) l in grind (arith, nat_tests)

pub post-all : (Q : ℕ → ℕ → List (Option Note)) (b : ℕ) (ps : List Post) (x y : ℕ) → post_all Q b ps x y ≡ cond (eqb x b) (Q x y ++ sent_to y ps) (Q x y)
unfolding post_all
post-all Q b [] x y = let h = append-nil (Q x y) in grind arith
post-all Q b (p ∷ ps) x y = post-all (post Q b p) b ps x y ∙ post-one Q b p (sent_to y ps) x y

-- where every list ends within the limit, each post found room
pub room-for : (limit : ℕ) (Q : ℕ → ℕ → List (Option Note)) (b : ℕ) (ps : List Post) → ((y : ℕ) → length (post_all Q b ps b y) ≤ limit) →
    room_for limit Q b ps ≡ true
unfolding post_all room_for
room-for limit Q b [] h = refl
room-for limit Q b (p ∷ ps) h = and_from (ltb (length (Q b p.to)) limit) (room_for limit (post Q b p) b ps)
    (lt-ltb (length (Q b p.to)) limit
    (let k = h p.to in
    let e = ap (length {A = Option Note}) (post-all Q b (p ∷ ps) b p.to) in
    let l = length-append (Q b p.to) (Some p.note ∷ sent_to p.to ps) in
    let z : cond (eqb b b) (Q b p.to ++ cond (eqb p.to p.to) (Some p.note ∷ sent_to p.to ps) (sent_to p.to ps)) (Q b p.to) ≡ Q b
    p.to ++ (Some p.note ∷ sent_to p.to ps) =
    rw (eq-eqb b b refl, eq-eqb p.to p.to refl) refl in
    let y = ap (length {A = Option Note}) z in omega arith))
    (room-for limit (post Q b p) b ps h)

-- to each station once
pub sent-each : (p : ℕ → Bool) (m : Note) (n y : ℕ) → sent_to y (to_each p m n) ≡ cond (p y && ltb y n) (Some m ∷ []) []
sent-each p m zero y = grind (arith, nat_tests)
sent-each p m (suc n) y =
    let h = sent-each p m n y in let a = sent-app y (to_each p m n) (cond (p n) (record { to = n; note = m } ∷ []) []) in grind (arith, nat_tests)

-- the grants for one station, of the events below n in ascending order
abbrev pub grants : (ℕ → Bool) → (ℕ → Marks) → ℕ → List (Option Note)
grants p m zero = []
grants p m (suc n) = grants p m n ++ cond (p n) (Some (Grant n (m n)) ∷ []) []

pub sent-hands : (p : ℕ → Bool) (h : ℕ → Option ℕ) (m : ℕ → Marks) (n y : ℕ) → sent_to y (hands p h m n) ≡ grants (λ f. p f && is (h f) y) m n
sent-hands p h m zero y = refl
sent-hands p h m (suc n) y =
    let i = sent-hands p h m n y in let a = sent-app y (hands p h m n) (hand (p n) (h n) (Grant n (m n))) in grind (arith, nat_tests)
