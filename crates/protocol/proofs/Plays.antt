-- What is promised is what is played.
use Rattle.std.proofs.Common.{◌≡◌, ℕ, zero, suc, ◌+◌, ◌*◌, ◌/◌, ◌%◌, ◌<◌, ◌≤◌, Bool, false, cond, List, [], ◌∷◌, map, length, is_some, Some, None, Option, sym, refl, ap, ◌∙◌, subst, ap₂, inl, inr, arith, take_all, Ok}
use Rattle.rules.specs.Rule.{Meaning}
use Rattle.protocol.specs.declared.answer.Answer.{Answer}
use Rattle.protocol.specs.declared.call.Call.{Call}
use Rattle.protocol.specs.declared.call.Call.TheVariants.{Carry, Settle}
use Rattle.protocol.specs.Outcomes.{Outcome, all_of}
use Rattle.protocol.specs.declared.call.Reply.TheVariants.{Settled}
use Rattle.protocol.specs.declared.refusal.Refusal.{Refusal}
use Rattle.std.specs.List.{AllByRecursion}
use Rattle.protocol.specs.Station.{Step, put_pair, step}
use Rattle.protocol.specs.Queues.{Queues}
use Rattle.protocol.specs.Sites.{Site, moved}
use Rattle.protocol.specs.Turns.{Status, Transfer, Turn, opened, lowest_pair, waiting, refusal, answer_of, Carries, Chain, answers_in, Does, Obeys, Follow}
use Rattle.protocol.specs.Promise.{Determined}
use Rattle.protocol.specs.Play.{transfer, transfer_at, chain_of, end_of, carry_turn, settle_turn, doing, play, plays, plain}
use Rattle.protocol.proofs.Kept.{along}

none_of : (o : Option ℕ) → is_some o ≡ false → o ≡ None
none_of o h = grind arith

module _ (R : Meaning) (limit : ℕ) where
  transfer-is : (S : Site) (x : Transfer) → Carries R limit S x → transfer R limit S x.from x.to (S.waits x.from x.to) ≡ Some x
  transfer-is S x c =
      let Q : Queues = put_pair S.waits x.from x.to c.others in
      let t : Step = step R x.to (S.station x.to) x.from c.oldest in
      let m = c.moves in let a = c.answers in
      let e : record { from = x.from; to = x.to; answer = answer_of t.delivery; site = moved S Q x.to t } ≡ x =
      (λ i. record { from = x.from; to = x.to; answer = sym a i; site = sym m i }) in
      ap (transfer R limit S x.from x.to) c.waits
      ∙ ap
      (λ (b : Bool). cond b (Some (record { from = x.from; to = x.to; answer = answer_of t.delivery; site = moved S Q x.to t })) None)
      c.fits
      ∙ ap Some e

  lowest-is : (S : Site) (x : Transfer) → lowest_pair S.waits ≡ Some (8 * x.from + x.to) → x.to < 8 → Carries R limit S x →
      transfer_at R limit S (lowest_pair S.waits) ≡ Some x
  lowest-is S x l t c =
      let d : (8 * x.from + x.to) / 8 ≡ x.from = omega arith in
      let m : (8 * x.from + x.to) % 8 ≡ x.to = omega arith in
      ap (transfer_at R limit S) l ∙ ap₂ (λ a b. transfer R limit S a b (S.waits a b)) d m ∙ transfer-is S x c

  no-chain : (n : ℕ) → chain_of R limit n None ≡ []
  no-chain zero = refl
  no-chain (suc n) = refl

  chain-is : (n : ℕ) (S T : Site) (xs : List Transfer) → Chain R limit S xs T → waiting T ≡ false → length xs ≤ n →
      (chain_of R limit n (transfer_at R limit S (lowest_pair S.waits)) ≡ xs) × (T ≡ end_of S xs)
  chain-is n S T [] c w l =
      (ap (λ (o : Option ℕ). chain_of R limit n (transfer_at R limit S o)) (none_of (lowest_pair S.waits) (subst (λ (X : Site). waiting X ≡ false) c w)) ∙ no-chain n, c)
  chain-is zero S T (x ∷ xs) c w l = absurd (omega arith)
  chain-is (suc n) S T (x ∷ xs) c w l =
      let r = chain-is n x.site T xs c.3 w (omega arith) in
      (ap (chain_of R limit (suc n)) (lowest-is S x c.0 c.1 c.2) ∙ ap (λ k. x ∷ k) r.0, r.1)

  abbrev Same : Turn → Turn → Type 0
  Same t u = (plain t.outcome ≡ plain u.outcome) × (t.after ≡ u.after)

  by_turn : (h t u : Turn) → u ≡ h → Same t h → Same t u
  by_turn h t u e s = subst (Same t) (sym e) s

  does-is : (h : Status) (t : Turn) (c : Call) → Does R limit h t c → length t.transfers ≤ 1152 → Same t (doing R limit h c)
  does-is h t (Carry a b) d l = elim d [
    | inl n ↦ by_turn (carry_turn (Carry a b) h None) t (doing R limit h (Carry a b)) (ap (λ q. carry_turn (Carry a b) h (transfer R limit h.site a b q)) n.0) (ap plain n.1, n.3)
    | inr c ↦
        let x : Transfer = record { from = a; to = b; answer = c.0; site = c.1 } in
        by_turn (carry_turn (Carry a b) h (Some x)) t (doing R limit h (Carry a b))
        (ap (carry_turn (Carry a b) h) (transfer-is h.site x c.2)) (ap plain c.3, c.5)
  ]
  does-is h t (Settle n) d l =
      let r = chain-is 1152 h.site d.0 t.transfers d.1 d.2 l in
      let v : List Answer = answers_in t.transfers in
      let shown : List Answer → Outcome = λ x. Ok (Settled (all_of x) (length t.transfers)) in
      let k : plain (Ok (Settled d.4 (length t.transfers))) ≡ shown v = ap shown d.6 in
      let m : plain (shown v) ≡ shown v = ap shown (take_all (length v) v (omega arith)) in
      by_turn (settle_turn (Settle n) h t.transfers) t (doing R limit h (Settle n)) (ap (settle_turn (Settle n) h) r.0)
      (ap plain d.5 ∙ k ∙ sym m, d.3 ∙ ap opened r.1)
  does-is h t _ d l = (ap plain d.0, d.2)

  obeys-is : (h : Status) (t : Turn) (x : Option Refusal) → Obeys R limit h t x → length t.transfers ≤ 1152 → Same t (play R limit h t.call x)
  obeys-is h t (Some n) d l = (ap plain d.0, d.2)
  obeys-is h t None d l = does-is h t t.call d l

  follow-is : (h g : Status) (ts : List Turn) → Follow R limit h ts g → AllByRecursion (λ (t : Turn). length t.transfers ≤ 1152) ts →
      map plain (map (λ (t : Turn). t.outcome) ts) ≡ map plain (plays R limit h (map (λ (t : Turn). t.call) ts))
  follow-is h g [] f a = refl
  follow-is h g (t ∷ ts) f a =
      let s = obeys-is h t (refusal R h t.call) f.0 a.0 in
      let r = follow-is t.after g ts f.1 a.1 in
      ap₂ (λ (o : Outcome) (os : List Outcome). o ∷ os) s.0
      (r ∙ ap (λ (k : Status). map plain (plays R limit k (map (λ (t : Turn). t.call) ts))) s.1)

pub determined : Determined
determined R P limit enough h g calls outcomes p =
    let k = along R P limit enough h g None p.turns p.closed p.follow in
    sym (ap (map plain) p.given) ∙ follow-is R limit h g p.turns p.follow k.short ∙ ap (λ c. map plain (plays R limit h c)) p.made
