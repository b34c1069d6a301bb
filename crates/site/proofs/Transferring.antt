-- One message carried: from what the line and the station did to what a transfer is.
use Rattle.std.specs.Prelude.{MatchResult}
use Rattle.std.specs.Result.{result_ok}
use Rattle.std.proofs.Common.{◌≡◌, ℕ, ◌<◌, Bool, true, false, cond, eqb, List, [], ◌∷◌, map, length, get_or, set, Some, None, Ok, Err, Option, Result, sym, refl, ap, ◌∙◌, subst, ap₂, arith}
use mathlib.Core.Path.{fun_ext}
use Rattle.std.proofs.lemmas.Bool.{and_parts, eqb-true}
use Rattle.lines.specs.Lists.{Lists, oldest, same, taken, younger}
use Rattle.lines.specs.Messages.{reads}
use Rattle.lines.specs.declared.message.Message.{Message}
use Rattle.lines.specs.declared.note.Note.{Note}
use Rattle.rules.specs.Rule.{Meaning}
use Rattle.protocol.specs.Outcomes.{Delivery, astray}
use Rattle.protocol.specs.Queues.{post_all, queues, room_for}
use Rattle.protocol.specs.Served.{Stuck}
use Rattle.protocol.specs.Sites.{Site, moved}
use Rattle.protocol.specs.Station.{Step, put_pair, step}
use Rattle.protocol.specs.Turns.{Carries, answer_of, goes}
use Rattle.protocol.specs.declared.answer.Answer.{Answer}
use Rattle.protocol.specs.declared.delivery.Post.{Post}
use Rattle.stations.specs.Shows.{blank, shows}
use Rattle.stations.specs.Steps.{Leads}
use Rattle.stations.specs.declared.station.Station.{Station}
use Rattle.site.specs.Statuses.{site_of}
use Rattle.site.proofs.Acting.{full-goes, leads-at, sent-goes, sent-moved, stray-goes}

-- ---- what is taken from the line

pub read-oldest : (q : List Message) (m : Message) → Some m ≡ oldest q → map reads q ≡ reads m ∷ map reads (younger q)
read-oldest [] m e = grind arith
read-oldest (x ∷ q) m e = let h : x ≡ m = cc in ap (λ y. reads y ∷ map reads q) h

pub popped : (W V : Lists) (a b : ℕ) → ((i j : ℕ) → V i j ≡ taken W a b i j) → put_pair (queues W) a b (map reads (younger (W a b))) ≡ queues V
popped W V a b h = fun_ext λ i. fun_ext λ j. at i j (same a b i j) refl ∙ ap (map reads) (sym (h i j))
  where
    at : (i j : ℕ) (t : Bool) → same a b i j ≡ t → cond t (map reads (younger (W a b))) (map reads (W i j)) ≡ map reads (cond t (younger (W i j)) (W i j))
    at i j true e =
        let p = and_parts (eqb i a) (eqb j b) e in
        ap₂ (λ x y. map reads (younger (W x y))) (sym (eqb-true i a p.0)) (sym (eqb-true j b p.1))
    at i j false e = refl

-- a message says what reading it gives, or nothing
pub says : {E : Type 0} (m : Message) (r : Result Note E) {n : Option Note} → MatchResult r (λ x. reads m ≡ Some x) (λ _. reads m ≡ None) → n ≡ result_ok r → reads m ≡ n
says m (Ok x) h e = h ∙ sym e
says m (Err x) h e = h ∙ sym e

-- ---- a transfer

-- the oldest message of the pair a, b was taken, which left V
record Taken (W V : Lists) (a b : ℕ) (m : Message) : Type 0 where
  pub oldest_is : Some m ≡ oldest (W a b)
  pub taken_is : (i j : ℕ) → V i j ≡ taken W a b i j

-- the same, where the numbers of the stations were told by calls
taking : {W V : Lists} {a b : ℕ} {m : Message} {from to : ℕ} → from ≡ a → to ≡ b → Some m ≡ oldest (W from to) → ((i j : ℕ) → V i j ≡ taken W from to i j) → Taken W V a b m
taking {W} x y old took =
    record { oldest_is = old ∙ ap₂ (λ i j. oldest (W i j)) x y; taken_is = λ i j. took i j ∙ ap₂ (λ k l. taken W k l i j) x y }

module _ (R : Meaning) (limit : ℕ) (W V : Lists) (stations : List Station) {a b : ℕ} {m : Message} {from to : ℕ} (from-is : from ≡ a) (to-is : to ≡ b) (first : Some m ≡ oldest (W from to)) (took : (i j : ℕ) → V i j ≡ taken W from to i j) where
  k : Taken W V a b m
  k = taking from-is to-is first took

  abbrev S : Site
  S = site_of W stations

  abbrev others : List (Option Note)
  others = map reads (younger (W a b))

  -- the queues without the message
  left_is : queues V ≡ put_pair S.waits a b others
  left_is = sym (popped W V a b k.taken_is)

  waits-are : (n : Option Note) → reads m ≡ n → S.waits a b ≡ n ∷ others
  waits-are n read = read-oldest (W a b) m k.oldest_is ∙ ap (λ x. x ∷ others) read

  stuck : (n : Option Note) → reads m ≡ n → (U : Lists) → queues U ≡ queues V → goes limit (queues V) b (step R b (S.station b) a n) ≡ false → Stuck R limit S a b (site_of U stations)
  stuck n read U same unfit =
      record {
        oldest = n;
        others = others;
        waits = waits-are n read;
        unfit = ap (λ X. goes limit X b (step R b (S.station b) a n)) (sym left_is) ∙ unfit;
        left = λ i. record { station = S.station; waits = (same ∙ left_is) i };
      }

  module _ {n : Option Note} (read : reads m ≡ n) {at : ℕ} (here : at ≡ b) where
    abbrev act : Step
    act = step R b (shows (get_or stations at blank)) a n

    turned : {s : Station} {d : Delivery} {ps : List Post} → Leads s d ps act → Leads s d ps (step R b (S.station b) a n)
    turned h = leads-at (λ X. step R b X a n) stations here h

    -- a stray step
    pub strayed : {s : Station} → Leads s astray [] act → Stuck R limit S a b (site_of V stations)
    strayed h = stuck n read V refl (stray-goes limit V b (turned h))

    module _ {s : Station} {x : Option Answer} {ps : List Post} (h : Leads s (Ok x) ps act) (U : Lists) where
      -- a full pair
      pub full : false ≡ room_for limit (queues V) b ps → queues U ≡ queues V → Stuck R limit S a b (site_of U stations)
      full none same = stuck n read U same (full-goes limit V b (turned h) none)

      -- it is carried
      pub gone : true ≡ room_for limit (queues V) b ps → queues U ≡ post_all (queues V) b ps → b < length stations → Carries R limit S (record { from = a; to = b; answer = x; site = site_of U (set stations at s) })
      gone room lists few =
          let t = turned h in
          let carried : Carries R limit S (record { from = a; to = b; answer = x; site = site_of U (set stations b s) }) = record {
            oldest = n;
            others = others;
            waits = waits-are n read;
            fits = ap (λ X. goes limit X b (step R b (S.station b) a n)) (sym left_is) ∙ sent-goes limit V b t room;
            moves = sent-moved limit V b t U lists W stations few ∙ ap (λ X. moved S X b (step R b (S.station b) a n)) left_is;
            answers = ap answer_of t.delivery;
          } in
          subst (λ j. Carries R limit S (record { from = a; to = b; answer = x; site = site_of U (set stations j s) })) (sym here) carried
