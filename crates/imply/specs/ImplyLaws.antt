-- Implication on bytes is the model's test of the decoded rules. Assumes nothing.
use Prim.Native.Nat.{ℕ, zero, suc, ◌+◌, ◌*◌, ◌/◌, ◌%◌, ◌^◌, ◌≤◌, ◌<◌}
use Rattle.std.proofs.Common.{add-zero, zero-add, pow-suc, arith, ◌∙◌, subst, get_or-append-add}
use Rattle.std.proofs.Math.Nat.{div-div-eq-div-mul}
use Rattle.std.proofs.Math.Bool.{Bool, true, false}
use Rattle.std.proofs.Math.Option.{Option, none, some}
use mathlib.Core.List.{List, [], ◌∷◌, ◌++◌, append-nil, append_assoc}
use Rattle.std.specs.Prelude.{◌≡◌, ◌≢◌, take, get_or}
use Rattle.std.proofs.Math.Path.{refl, ap, ap₂, sym}
use Rattle.std.proofs.Math.Dec.{eqb}
use Rattle.std.specs.Int.Bits.{bit_or}
use Rattle.std.proofs.Math.ListN.{length, drop}
use Rattle.std.proofs.Math.Seq.{take_at, drop_at}
use Rattle.model.specs.Term.{Term, Bindings}
use Rattle.model.specs.Rule.{Rule, match, choose, embeds, implies_by, implies, size_all}
use Rattle.model.specs.Sign.{Signature, is_fact, are_facts}
use Rattle.model.specs.Table.{Rec, rec_at, first_implying}
use Rattle.theory.specs.Basics.{true≢false, both_true, true_both}
use Rattle.theory.specs.Tables.{length_snoc}
use Rattle.records.specs.Symbols.{arity_of, signature}
use Rattle.records.specs.Tokens.{leaves, leaves_all, span}
use Rattle.records.specs.Rules.{tokens_of}
use Rattle.records.specs.TokenLaws.{Agrees, EachVar, EachVars, Small}
use Rattle.records.specs.RuleLaws.{signature_agrees}
use Rattle.records.specs.WorkLaws.{Holding, Fine, AllFine, length_rec, length_body, body_holding}
use Rattle.records.specs.Work.{body, state, origin_bytes, encode_rec, encode_recs}
use Rattle.terms.specs.Facts.{fact_at}
use Rattle.terms.proofs.Digits.{digit, digit_same, digit_other, digit_zero}
use Rattle.matching.specs.Match.{matched, onward, unbound}
use Rattle.matching.specs.MatchLaws.{Spine, Means, At, fact_whole}
use Rattle.matching.specs.FactLaws.{Facts, fmore, facts_of, span_facts, drop_facts, unbound_means, fact_ok}
use Rattle.imply.specs.Imply.{free, used_by, any, into, carried, implies_bytes, state_place, first_bytes}

-- ---- sets as the digits of a number
digit_is : (j u : ℕ) → digit j u ≡ u / 2 ^ j % 2
unfolding digit
digit_is zero u = ap (◌% 2) (let z : u ≡ u / 2 ^ 0 = omega arith in z)
digit_is (suc j) u =
    digit_is j (u / 2)
    ∙ ap (◌% 2) (div-div-eq-div-mul u 2 (2 ^ j) ∙ ap (λ (n : ℕ). u / n) (let z : 2 * 2 ^ j ≡ 2 ^ suc j = omega (arith, pow-suc 2 j) in z))

free_digit : (u j : ℕ) → free u j ≡ eqb (digit j u) 0
unfolding free
free_digit u j = ap (λ (n : ℕ). eqb n 0) (sym (digit_is j u))

pub used_here : (u j : ℕ) → free (used_by u j) j ≡ false
unfolding used_by
used_here u j = free_digit (bit_or u (2 ^ j)) j ∙ ap (λ (n : ℕ). eqb n 0) (digit_same j u)

pub used_other : (u j i : ℕ) → i ≢ j → free (used_by u j) i ≡ free u i
unfolding used_by
used_other u j i n = free_digit (bit_or u (2 ^ j)) i ∙ ap (λ (k : ℕ). eqb k 0) (digit_other i j u n) ∙ sym (free_digit u i)

pub free_none : (j : ℕ) → free 0 j ≡ true
free_none j = free_digit 0 j ∙ ap (λ (k : ℕ). eqb k 0) (digit_zero j)

-- ---- what is left of a list
abbrev is : {A : Type 0} → Option A → Bool
is none = false
is (some a) = true

-- The members of a list, the first with number j, that are not used.
left : ℕ → ℕ → List Term → List Term
left u j [] = []
left u j (x ∷ l) = elim (free u j) [ true ↦ x ∷ left u (suc j) l | false ↦ left u (suc j) l ]

left_all : (j : ℕ) (l : List Term) → left 0 j l ≡ l
unfolding left
left_all j [] = refl
left_all j (x ∷ l) = go (free 0 j) (free_none j) (left_all (suc j) l)
  where
    go : (c : Bool) → c ≡ true → left 0 (suc j) l ≡ l → elim c [ true ↦ x ∷ left 0 (suc j) l | false ↦ left 0 (suc j) l ] ≡ x ∷ l
    go true e h = ap (x ∷◌) h
    go false e h = true≢false e refl

-- a number that is not in the list's range changes nothing
left_out : (u j i : ℕ) (l : List Term) → j < i → left (used_by u j) i l ≡ left u i l
unfolding left
left_out u j i [] h = refl
left_out u j i (x ∷ l) h = ap₂ (λ (c : Bool) (m : List Term). elim c as (λ _. List Term) [ true ↦ x ∷ m | false ↦ m ]) (used_other u j i (λ e. omega arith)) (left_out u j (suc i) l (omega arith))

left_below : (u i j : ℕ) (l : List Term) → i + length l ≤ j → left (used_by u j) i l ≡ left u i l
unfolding left
left_below u i j [] h = refl
left_below u i j (x ∷ l) h = ap₂ (λ (c : Bool) (m : List Term). elim c as (λ _. List Term) [ true ↦ x ∷ m | false ↦ m ]) (used_other u j i (λ e. omega arith)) (left_below u (suc i) j l (omega arith))

left_append : (u j : ℕ) (a b : List Term) → left u j (a ++ b) ≡ left u j a ++ left u (j + length a) b
unfolding left
left_append u j [] b = ap (λ (n : ℕ). left u n b) (sym (add-zero j))
left_append u j (x ∷ a) b = go (free u j) (left_append u (suc j) a b ∙ ap (λ (n : ℕ). left u (suc j) a ++ left u n b) (let z : suc j + length a ≡ j + suc (length a) = omega arith in z))
  where
    go : (c : Bool) → left u (suc j) (a ++ b) ≡ left u (suc j) a ++ left u (j + suc (length a)) b
        → elim c as (λ _. List Term) [ true ↦ x ∷ left u (suc j) (a ++ b) | false ↦ left u (suc j) (a ++ b) ] ≡ elim c as (λ _. List Term) [ true ↦ x ∷ left u (suc j) a | false ↦ left u (suc j) a ] ++ left u (j + suc (length a)) b
    go true h = ap (x ∷◌) h
    go false h = h

-- taking one out: what stands before it and after it
left_used : (u : ℕ) (a : List Term) (x : Term) (b : List Term) → left (used_by u (length a)) 0 (a ++ (x ∷ b)) ≡ left u 0 a ++ left u (suc (length a)) b
unfolding left
left_used u a x b =
    left_append (used_by u (length a)) 0 a (x ∷ b)
    ∙ ap₂ ◌++◌ (left_below u 0 (length a) a (omega arith)) (ap (λ (n : ℕ). left (used_by u (length a)) n (x ∷ b)) (zero-add (length a)) ∙ gone (free (used_by u (length a)) (length a)) (used_here u (length a)) ∙ left_out u (length a) (suc (length a)) b (omega arith))
  where
    gone : (c : Bool) → c ≡ false → elim c as (λ _. List Term) [ true ↦ x ∷ left (used_by u (length a)) (suc (length a)) b | false ↦ left (used_by u (length a)) (suc (length a)) b ] ≡ left (used_by u (length a)) (suc (length a)) b
    gone true e = true≢false refl e
    gone false e = refl

-- ---- the choice
-- A choice over what is left of a list finds one where one of the numbers that are free does.
module _ (u : ℕ) (qs : List Term) (k : Term → List Term → Option Bindings) (f : ℕ → Bool)
    (says : (a : List Term) (x : Term) (b : List Term) → qs ≡ a ++ (x ∷ b) → free u (length a) ≡ true → f (length a) ≡ is (k x (left u 0 a ++ left u (suc (length a)) b)))
    (used : (j : ℕ) → free u j ≡ false → f j ≡ false)
  where
    choose_ext : (g h : Term → List Term → Option Bindings) (l : List Term) → ((x : Term) (r : List Term) → g x r ≡ h x r) → choose g l ≡ choose h l
    unfolding choose
    choose_ext g h [] e = refl
    choose_ext g h (x ∷ l) e =
        ap₂ (λ (o p : Option Bindings). elim o as (λ _. Option Bindings) [ some b ↦ some b | none ↦ p ]) (e x l) (choose_ext (λ y r. g y (x ∷ r)) (λ y r. h y (x ∷ r)) l (λ y r. e y (x ∷ r)))

    -- a stands before, l is still to come
    choose_any : (a l : List Term) → qs ≡ a ++ l → is (choose (λ y r. k y (left u 0 a ++ r)) (left u (length a) l)) ≡ any f (length a) (length l)
    unfolding choose any left
    choose_any a [] e = refl
    choose_any a (x ∷ l) e = go (free u (length a)) refl (choose_any (a ++ (x ∷ [])) l (e ∙ sym (append_assoc a (x ∷ []) l)))
      where
        next : length (a ++ (x ∷ [])) ≡ suc (length a)
        next = length_snoc a x

        before : (c : Bool) → free u (length a) ≡ c → left u 0 (a ++ (x ∷ [])) ≡ left u 0 a ++ elim c as (λ _. List Term) [ true ↦ x ∷ [] | false ↦ [] ]
        before c q = left_append u 0 a (x ∷ []) ∙ ap (λ (m : List Term). left u 0 a ++ m) (ap (λ (n : ℕ). left u n (x ∷ [])) (zero-add (length a)) ∙ ap (λ (d : Bool). elim d as (λ _. List Term) [ true ↦ x ∷ [] | false ↦ [] ]) q)

        go :
            (c : Bool) → free u (length a) ≡ c
            → is (choose (λ y r. k y (left u 0 (a ++ (x ∷ [])) ++ r)) (left u (length (a ++ (x ∷ []))) l)) ≡ any f (length (a ++ (x ∷ []))) (length l)
            → is (choose (λ y r. k y (left u 0 a ++ r)) (elim c [ true ↦ x ∷ left u (suc (length a)) l | false ↦ left u (suc (length a)) l ])) ≡ elim (f (length a)) [ true ↦ true | false ↦ any f (suc (length a)) (length l) ]
        go false q rec =
            ap is (choose_ext (λ y r. k y (left u 0 a ++ r)) (λ y r. k y (left u 0 (a ++ (x ∷ [])) ++ r)) (left u (suc (length a)) l) (λ y r. ap (λ (m : List Term). k y (m ++ r)) (sym (append-nil (left u 0 a)) ∙ sym (before false q))))
            ∙ ap (λ (n : ℕ). is (choose (λ y r. k y (left u 0 (a ++ (x ∷ [])) ++ r)) (left u n l))) (sym next)
            ∙ rec
            ∙ ap (λ (n : ℕ). any f n (length l)) next
            ∙ sym (ap (λ (d : Bool). elim d as (λ _. Bool) [ true ↦ true | false ↦ any f (suc (length a)) (length l) ]) (used (length a) q))
        go true q rec =
            first (k x (left u 0 a ++ left u (suc (length a)) l))
            ∙ sym (ap (λ (d : Bool). elim d as (λ _. Bool) [ true ↦ true | false ↦ any f (suc (length a)) (length l) ]) (says a x l e q))
          where
            rest : is (choose (λ y r. k y (left u 0 a ++ (x ∷ r))) (left u (suc (length a)) l)) ≡ any f (suc (length a)) (length l)
            rest =
                ap is (choose_ext (λ y r. k y (left u 0 a ++ (x ∷ r))) (λ y r. k y (left u 0 (a ++ (x ∷ [])) ++ r)) (left u (suc (length a)) l) (λ y r. ap (k y) (sym (append_assoc (left u 0 a) (x ∷ []) r) ∙ ap (λ (m : List Term). m ++ r) (sym (before true q)))))
                ∙ ap (λ (n : ℕ). is (choose (λ y r. k y (left u 0 (a ++ (x ∷ [])) ++ r)) (left u n l))) (sym next)
                ∙ rec
                ∙ ap (λ (n : ℕ). any f n (length l)) next

            first : (o : Option Bindings) → is {A = Bindings} (elim o [ some b ↦ some b | none ↦ choose (λ y r. k y (left u 0 a ++ (x ∷ r))) (left u (suc (length a)) l) ]) ≡ elim (is o) [ true ↦ true | false ↦ any f (suc (length a)) (length l) ]
            first (some b) = refl
            first none = rest

-- ---- the search
module _ (ar : ℕ → ℕ) (S : Signature) (agrees : Agrees ar S) (rt qt : List ℕ) (qs : List Term)
    (placed : (a : List Term) (x : Term) (b : List Term) → qs ≡ a ++ (x ∷ b) → At ar S agrees qt (span ar (suc (length a)) qt) x × Spine ar S agrees 0 x)
  where
    -- one hypothesis against one, and the rest by `rest`
    try : Term → List Term → Bindings → Term → List Term → Option Bindings
    try h hs β x r = elim (match h x β) [ none ↦ none | some β' ↦ embeds hs r β' ]

    onto : List Term → List Term → Option Bindings → Bool
    onto hs r none = false
    onto hs r (some β') = is (embeds hs r β')

    try_onto : (h : Term) (hs : List Term) (β : Bindings) (x : Term) (r : List Term) → onto hs r (match h x β) ≡ is (try h hs β x r)
    unfolding try onto
    try_onto h hs β x r = go (match h x β)
      where
        go : (o : Option Bindings) → onto hs r o ≡ is {A = Bindings} (elim o [ none ↦ none | some β' ↦ embeds hs r β' ])
        go none = refl
        go (some β') = refl

    module _ (k u : ℕ) (h : Term) (hs : List Term) (b : List ℕ) (β : Bindings) (M : Means ar S agrees qt b β) (q : fact_at ar (suc k) rt ≡ leaves h []) (sh : Spine ar S agrees 0 h)
        (rest : ℕ → List ℕ → Bool) (rec : (u : ℕ) (b : List ℕ) (β : Bindings) → Means ar S agrees qt b β → rest u b ≡ is (embeds hs (left u 0 qs) β))
      where
        into_free : (j : ℕ) → free u j ≡ true → into ar rt qt k u b rest j ≡ onward (matched ar (fact_at ar (suc k) rt) qt (span ar (suc j) qt) b) (rest (used_by u j))
        unfolding into
        into_free j fr = rw (fr, into)

        into_used : (j : ℕ) → free u j ≡ false → into ar rt qt k u b rest j ≡ false
        unfolding into
        into_used j fr = rw (fr, into)

        into_says : (a : List Term) (x : Term) (c : List Term) → qs ≡ a ++ (x ∷ c) → free u (length a) ≡ true → into ar rt qt k u b rest (length a) ≡ is (try h hs β x (left u 0 a ++ left u (suc (length a)) c))
        unfolding onto
        into_says a x c p fr =
            let w = placed a x c p in
            into_free (length a) fr
            ∙ fact_ok ar S agrees qt h x (span ar (suc (length a)) qt) b β M w.0 sh w.1 (fact_at ar (suc k) rt) q (rest (used_by u (length a))) (onto hs (left (used_by u (length a)) 0 qs)) refl (rec (used_by u (length a)))
            ∙ ap (λ (r : List Term). onto hs r (match h x β)) (ap (left (used_by u (length a)) 0) p ∙ left_used u a x c)
            ∙ try_onto h hs β x (left u 0 a ++ left u (suc (length a)) c)

    -- The search on bytes finds a way where the search on terms does.
    carried_ok :
        (n k : ℕ) (hs : List Term) → length hs ≡ n → Facts ar S agrees rt (suc k) hs → (u : ℕ) (b : List ℕ) (β : Bindings) → Means ar S agrees qt b β
        → carried ar rt qt (length qs) k n u b ≡ is (embeds hs (left u 0 qs) β)
    unfolding carried embeds try left
    carried_ok zero k [] e F u b β M = refl
    carried_ok zero k (h ∷ hs) e F u b β M = absurd (omega arith)
    carried_ok (suc n) k [] e F u b β M = absurd (omega arith)
    carried_ok (suc n) k (h ∷ hs) e (fmore q sh F) u b β M =
        let rec = carried_ok n (suc k) hs (omega arith) F in
        sym (choose_any u qs (try h hs β) (into ar rt qt k u b (carried ar rt qt (length qs) (suc k) n))
        (into_says k u h hs b β M q sh (carried ar rt qt (length qs) (suc k) n) rec) (into_used k u h hs b β M q sh (carried ar rt qt (length qs) (suc k) n) rec) [] qs refl)

-- a list of facts in two parts
facts_split : (S : Signature) (a : List Term) (x : Term) (b : List Term) → are_facts S (a ++ (x ∷ b)) ≡ true → EachVars Small (a ++ (x ∷ b)) → (are_facts S a ≡ true) × EachVars Small a × (is_fact S x ≡ true) × EachVar Small x
unfolding are_facts
facts_split S [] x b w v = (refl, tt, (both_true (is_fact S x) (are_facts S b) w).0, v.0)
facts_split S (t ∷ a) x b w v =
    let z = both_true (is_fact S t) (are_facts S (a ++ (x ∷ b))) w in
    let y = facts_split S a x b z.1 v.1 in
    (true_both (is_fact S t) (are_facts S a) z.0 y.0, (v.0, y.1), y.2, y.3)

-- ---- two records
module _ (sy r q : List ℕ) (R Q : Rule) (hr : Holding sy r R) (hq : Holding sy q Q) where
  abbrev ar : ℕ → ℕ
  ar = arity_of sy

  abbrev S : Signature
  S = signature sy

  abbrev qt : List ℕ
  qt = tokens_of q

  -- where each hypothesis of q stands
  placed : (a : List Term) (x : Term) (b : List Term) → Q.hyps ≡ a ++ (x ∷ b) → At ar S (signature_agrees sy) qt (span ar (suc (length a)) qt) x × Spine ar S (signature_agrees sy) 0 x
  unfolding leaves_all
  placed a x b e =
      let fs = Q.concl ∷ a in
      let p : qt ≡ leaves_all (fs ++ (x ∷ b)) = hq.tokens ∙ ap (λ (l : List Term). leaves_all (Q.concl ∷ l)) e in
      let w = facts_split S fs x b (subst (λ (l : List Term). are_facts S (Q.concl ∷ l) ≡ true) e hq.facts) (subst (λ (l : List Term). EachVars Small (Q.concl ∷ l)) e hq.small) in (
        (leaves_all b, ap (λ (n : ℕ). drop n qt) (ap (span ar (suc (length a))) p ∙ span_facts ar S (signature_agrees sy) fs (x ∷ b) w.0 w.1) ∙ ap (drop (size_all fs)) p ∙ drop_facts ar S (signature_agrees sy) fs (x ∷ b)),
        fact_whole ar S (signature_agrees sy) x w.2 w.3,
      )

  -- what the conclusions give, and then the hypotheses
  concl_onto : Option Bindings → Bool
  concl_onto none = false
  concl_onto (some β) = is (embeds R.hyps Q.hyps β)

  concl_implies : (o : Option Bindings) → concl_onto o ≡ elim (elim o as (λ _. Option Bindings) [ none ↦ none | some b ↦ embeds R.hyps Q.hyps b ]) [ none ↦ false | some b ↦ true ]
  unfolding concl_onto
  concl_implies none = refl
  concl_implies (some β) = go (embeds R.hyps Q.hyps β)
    where
      go : (o : Option Bindings) → is o ≡ elim o [ none ↦ false | some b ↦ true ]
      go none = refl
      go (some b) = refl

  concl_at : At ar S (signature_agrees sy) qt 0 Q.concl × Spine ar S (signature_agrees sy) 0 Q.concl
  unfolding leaves_all are_facts
  concl_at =
      let w = both_true (is_fact S Q.concl) (are_facts S Q.hyps) hq.facts in
      ((leaves_all Q.hyps, hq.tokens), fact_whole ar S (signature_agrees sy) Q.concl w.0 hq.small.0)

  hyps_ok : Facts ar S (signature_agrees sy) (tokens_of r) 1 R.hyps → (b : List ℕ) (β : Bindings) → Means ar S (signature_agrees sy) qt b β → carried ar (tokens_of r) qt (get_or q 0 0) 0 (get_or r 0 0) 0 b ≡ is (embeds R.hyps Q.hyps β)
  hyps_ok F b β M =
      ap (λ (m : ℕ). carried ar (tokens_of r) qt m 0 (get_or r 0 0) 0 b) hq.count
      ∙ carried_ok ar S (signature_agrees sy) (tokens_of r) qt Q.hyps placed (get_or r 0 0) 0 R.hyps (sym hr.count) F 0 b β M
      ∙ ap (λ (l : List Term). is (embeds R.hyps l β)) (left_all 0 Q.hyps)

  -- The test on the bytes of two records is the test on their rules.
  pub implies_ok : implies_bytes sy r q ≡ implies R Q
  unfolding implies_bytes implies implies_by concl_onto
  implies_ok = go (facts_of ar S (signature_agrees sy) (tokens_of r) (R.concl ∷ R.hyps) hr.facts hr.small hr.tokens)
    where
      go : Facts ar S (signature_agrees sy) (tokens_of r) 0 (R.concl ∷ R.hyps) → implies_bytes sy r q ≡ implies R Q
      go (fmore e sh F) =
          fact_ok ar S (signature_agrees sy) qt R.concl Q.concl 0 unbound [] (unbound_means ar S (signature_agrees sy) qt) concl_at.0 sh concl_at.1 (fact_at ar 0 (tokens_of r)) e
          (carried ar (tokens_of r) qt (get_or q 0 0) 0 (get_or r 0 0) 0) concl_onto refl (hyps_ok F)
          ∙ concl_implies (match R.concl Q.concl [])

-- ---- a table
-- The state byte of a record.
pub state_at : (sy : List ℕ) (T : ℕ) (goal : Bool) (x : Rec) (rest : List ℕ) → Fine sy T goal x → eqb (get_or (encode_rec T x ++ rest) (state_place T) 0) 1 ≡ x.live
unfolding encode_rec
state_at sy T goal x rest F =
    ap (λ (n : ℕ). eqb n 1)
    (ap (λ (l : List ℕ). get_or l (T + 2) 0) (append_assoc (body T x.rule) (state x.live ∷ origin_bytes x.origin) rest)
    ∙ ap (λ (i : ℕ). get_or (body T x.rule ++ (state x.live ∷ (origin_bytes x.origin ++ rest))) i 0) (sym (length_body T x.rule F.fits) ∙ sym (add-zero (length (body T x.rule))))
    ∙ get_or-append-add (body T x.rule) (state x.live ∷ (origin_bytes x.origin ++ rest)) 0 0)
    ∙ test x.live
  where
    test : (b : Bool) → eqb (state b) 1 ≡ b
    test true = unfold state in refl
    test false = unfold state in refl

pub rec_holding : (sy : List ℕ) (T : ℕ) (goal : Bool) (x : Rec) → Fine sy T goal x → Holding sy (encode_rec T x) x.rule
unfolding encode_rec
rec_holding sy T goal x F = body_holding sy T x.rule (state x.live ∷ origin_bytes x.origin) F.formed F.small

-- The first live record that implies a rule, by bytes and in the model.
pub first_bytes_ok :
    (sy : List ℕ) (T : ℕ) (goal : Bool) (q : List ℕ) (Q : Rule) → Holding sy q Q → (t : List Rec) (rest : List ℕ) → AllFine sy T goal t → (i : ℕ)
    → first_bytes sy T q (length t) i (encode_recs T t ++ rest) ≡ first_implying t Q i
unfolding first_bytes first_implying encode_recs
first_bytes_ok sy T goal q Q hq [] rest F i = refl
first_bytes_ok sy T goal q Q hq (x ∷ t) rest F i =
    let fx = F 0 x (unfold rec_at in refl) in
    let e = append_assoc (encode_rec T x) (encode_recs T t) rest in
    let n = length_rec sy T goal x fx in
    ap₂ (λ (c d : Bool). pick c d (first_bytes sy T q (length t) (suc i) (drop (T + 8) ((encode_rec T x ++ encode_recs T t) ++ rest))))
    (ap (λ (l : List ℕ). eqb (get_or l (state_place T) 0) 1) e ∙ state_at sy T goal x (encode_recs T t ++ rest) fx)
    (ap (λ (l : List ℕ). implies_bytes sy l q) (ap (take (T + 8)) e ∙ take_at (encode_rec T x) (encode_recs T t ++ rest) (T + 8) n) ∙ implies_ok sy (encode_rec T x) q x.rule Q (rec_holding sy T goal x fx) hq)
    ∙ ap (pick x.live (implies x.rule Q))
    (ap (first_bytes sy T q (length t) (suc i)) (ap (drop (T + 8)) e ∙ drop_at (encode_rec T x) (encode_recs T t ++ rest) (T + 8) n)
    ∙ first_bytes_ok sy T goal q Q hq t rest (λ k y p. F (suc k) y (unfold rec_at in p)) (suc i))
  where
    pick : Bool → Bool → Option ℕ → Option ℕ
    pick c d o = elim c [ false ↦ o | true ↦ elim d [ true ↦ some i | false ↦ o ] ]
