-- The test of the bytes of a list of steps is the judgement of the decoded steps, on every input that is not refused. Assumes nothing.
use Prim.Native.Nat.{ℕ, zero, suc, ◌+◌, ◌*◌, ◌/◌, ◌≤◌, ◌<◌}
use Rattle.std.proofs.Common.{add-zero, ◌∙◌, take-append-drop, drop-drop, ltb-true, leb-true, eqb-true, leb-false}
use native.Mathlib.Omega.{arith}
use Rattle.std.specs.Prelude.{Bool, ◌≡◌, leb, length}
use Rattle.std.proofs.Math.Bool.{true, false}
use Rattle.std.proofs.Math.Option.{Option, none, some}
use mathlib.Core.List.{List, [], ◌∷◌, ◌++◌}
use Rattle.std.proofs.Math.Path.{refl, ap, ap₂, subst, sym}
use Rattle.std.proofs.Math.ListN.{take, drop, get_or}
use Rattle.std.proofs.Math.Seq.{take-take, get_or-take, get_or-drop}
use Rattle.model.specs.Term.{Term, both, closed, same}
use Rattle.model.specs.Rule.{Rule}
use Rattle.model.specs.Sign.{is_fact, are_facts, well_formed}
use Rattle.model.specs.Write.{Step, rule_at}
use Rattle.model.specs.Check.{fact_at as fact_at_step, good_step, ends}
use Rattle.theory.specs.Basics.{no_confusion, both_true}
use Rattle.theory.specs.Tables.{length_snoc}
use Rattle.theory.specs.Implies.{same_ok, SameOk}
use Rattle.records.specs.Tokens.{leaves, leaves_all, terms, rule_of}
use Rattle.records.specs.Symbols.{arity_of, signature, same_bytes}
use Rattle.records.specs.Rules.{good_tokens, tokens_of, decode_rule, decode_rules, decode_query}
use Rattle.records.specs.TokenLaws.{EachVar, Small, Numbered, each_weaken, numbered_small, leaves_front, leaves_terms, drop_take, terms_fact}
use Rattle.records.specs.RuleLaws.{signature_agrees, Split, done, fact, good_terms, rule_good_lem, rule_at_good, length_decode_rules, decode_rules_at, numbered_closed, Accepted}
use Rattle.matching.specs.FactLaws.{Facts, facts_of}
use Rattle.matching.specs.MatchLaws.{At, Spine, fact_whole, same_bytes_refl, same_bytes_eq}
use Rattle.checker.specs.Steps.{two, fact_place, step_tokens, decode_step, decode_steps, form_good, first_bad_step}
use Rattle.checker.specs.Follows.{follows_bytes, rule_tokens, first_bad_bytes}
use Rattle.checker.specs.FollowLaws.{Placed, follows_ok}

-- ---- what a good form gives
pub record Formed (sy : List ℕ) (h T n : ℕ) (ru s : List ℕ) : Type 0 where
  pub rule_there : two s 0 < n
  pub counted : get_or s 2 0 ≡ get_or ru (two s 0 * (T + 8)) 0
  pub tokens_fit : get_or s 3 0 ≤ T
  pub good_ones : good_tokens sy 0 0 1 (step_tokens h s) ≡ true

form_tested : (sy : List ℕ) (h T n : ℕ) (ru s : List ℕ) → form_good sy h T n ru s ≡ true → Formed sy h T n ru s
unfolding form_good
form_tested sy h T n ru s e =
    let a = both_true _ _ e in
    let b = both_true _ _ a.0 in
    let c = both_true _ _ a.1 in
    let d = both_true _ _ c.0 in
    let f = both_true _ _ c.1 in
    record { rule_there = ltb-true (two s 0) n b.0; counted = eqb-true _ _ b.1; tokens_fit = leb-true (get_or s 3 0) T d.1; good_ones = f.0 }

-- one closed fact
pub record OneFact (sy : List ℕ) (ts : List ℕ) (f : Term) : Type 0 where
  pub is_one : is_fact (signature sy) f ≡ true
  pub small : EachVar Small f
  pub shut : closed f ≡ true
  pub tokens : ts ≡ leaves f []

one_fact : (sy ts : List ℕ) → good_tokens sy 0 0 1 ts ≡ true → OneFact sy ts (rule_of (terms (arity_of sy) ts)).concl
unfolding rule_of leaves_all
one_fact sy ts e = go (terms (arity_of sy) ts) (good_terms sy 0 0 1 ts e) (leaves_terms (arity_of sy) ts)
  where
    go : (l : List Term) → Split (signature sy) (Numbered 0) 0 1 l → leaves_all l ≡ ts → OneFact sy ts (rule_of l).concl
    go l (fact {t = f} w v done) q = record { is_one = w; small = each_weaken {P = Numbered 0} {Q = Small} (λ x z. omega arith) f v; shut = numbered_closed f v; tokens = sym q }

-- the answer i where a test fails, and else what comes after it
abbrev or_at : Bool → ℕ → Option ℕ → Option ℕ
or_at c i p = elim c [ false ↦ some i | true ↦ p ]

-- two tests that agree where the first part holds, and go on alike
either : (c x y : Bool) (i j : ℕ) (p q : Option ℕ) → i ≡ j → (c ≡ true → x ≡ y) → (c ≡ true → p ≡ q) → or_at (both c x) i p ≡ or_at (both c y) j q
unfolding both
either false x y i j p q e f g = ap some e
either true x y i j p q e f g = ap (λ (z : Bool). or_at z i p) (f refl) ∙ go y
  where
    go : (z : Bool) → or_at z i p ≡ or_at z j q
    go false = ap some e
    go true = g refl

module _ (h T v : ℕ) (v63 : v ≤ 63) (sy ru qu st : List ℕ) (A : Accepted h T v sy ru qu) where
  abbrev Z : ℕ
  Z = fact_place h + T

  abbrev n : ℕ
  n = length ru / (T + 8)

  abbrev rs : List Rule
  rs = decode_rules sy (T + 8) n ru

  abbrev At' : ℕ → Term → Type 0
  At' = At (arity_of sy) (signature sy) (signature_agrees sy) st

  abbrev Spine' : Term → Type 0
  Spine' = Spine (arity_of sy) (signature sy) (signature_agrees sy) 0

  abbrev Placed' : List Step → ℕ → Type 0
  Placed' ss = Placed (arity_of sy) (signature sy) (signature_agrees sy) Z (fact_place h) st ss

  -- the step that stands at `at`
  abbrev step_at : ℕ → List ℕ
  step_at at = take Z (drop at st)

  abbrev step_of : ℕ → Step
  step_of at = decode_step sy h (step_at at)

  two_take : (at : ℕ) → two (step_at at) 0 ≡ two (drop at st) 0
  unfolding two
  two_take at = ap₂ (λ (a b : ℕ). a + 256 * b) (get_or-take Z (drop at st) 0 0 (omega arith)) (get_or-take Z (drop at st) (0 + 1) 0 (omega arith))

  -- its fact's tokens are the text's
  fact_at_lem : (at : ℕ) → Formed sy h T n ru (step_at at) → OneFact sy (step_tokens h (step_at at)) (step_of at).fact × At' (at + fact_place h) (step_of at).fact × Spine' (step_of at).fact
  unfolding decode_step step_tokens
  fact_at_lem at F =
      let k = get_or (step_at at) 3 0 in
      let o = one_fact sy (step_tokens h (step_at at)) F.good_ones in
      let z : step_tokens h (step_at at) ≡ take k (drop (at + fact_place h) st) =
      ap (take k) (drop_take (fact_place h) T (drop at st))
      ∙ take-take k T (drop (fact_place h) (drop at st)) F.tokens_fit
      ∙ ap (take k) (drop-drop (fact_place h) at st) in
      let y : drop (at + fact_place h) st ≡ leaves (step_of at).fact (drop k (drop (at + fact_place h) st)) =
      sym (take-append-drop k (drop (at + fact_place h) st))
      ∙ ap (λ (l : List ℕ). l ++ drop k (drop (at + fact_place h) st)) (sym z ∙ o.tokens)
      ∙ sym (leaves_front (step_of at).fact (drop k (drop (at + fact_place h) st))) in
      (o, (_, y), fact_whole (arity_of sy) (signature sy) (signature_agrees sy) (step_of at).fact o.is_one o.small)

  -- its rule, whose facts are its tokens
  rule_of_lem : (at : ℕ) → Formed sy h T n ru (step_at at) → (r : Rule) × (rule_at rs (step_of at).by ≡ some r) × (length r.hyps ≡ get_or (step_at at) 2 0)
      × Facts (arity_of sy) (signature sy) (signature_agrees sy) (rule_tokens (T + 8) ru (two (drop at st) 0)) 0 (r.concl ∷ r.hyps)
  unfolding decode_step rule_tokens well_formed are_facts
  rule_of_lem at F =
      let b = two (step_at at) 0 in
      let rec = take (T + 8) (drop (b * (T + 8)) ru) in
      let g = rule_at_good sy h T v n 0 ru A.rules_good b F.rule_there in
      let k = rule_good_lem sy h T v rec g in
      let c : get_or rec 0 0 ≡ get_or ru (b * (T + 8)) 0 = get_or-take (T + 8) (drop (b * (T + 8)) ru) 0 0 (omega arith) ∙ get_or-drop (b * (T + 8)) ru 0 0 ∙ ap (λ (i : ℕ). get_or ru i 0) (add-zero (b * (T + 8))) in (
        decode_rule sy rec,
        decode_rules_at sy (T + 8) n ru b F.rule_there,
        k.count ∙ c ∙ sym F.counted,
        facts_of (arity_of sy) (signature sy) (signature_agrees sy) (rule_tokens (T + 8) ru (two (drop at st) 0)) ((decode_rule sy rec).concl ∷ (decode_rule sy rec).hyps)
            k.formed (numbered_small v v63 ((decode_rule sy rec).concl ∷ (decode_rule sy rec).hyps) k.numbered)
            (ap (λ (i : ℕ). tokens_of (take (T + 8) (drop (i * (T + 8)) ru))) (sym (two_take at)) ∙ sym k.tokens),
      )

  -- ---- step by step
  step_ok : (ss : List Step) (i at : ℕ) → at ≡ i * Z → Placed' ss i → Formed sy h T n ru (step_at at)
      → follows_bytes (arity_of sy) Z (fact_place h) (rule_tokens (T + 8) ru (two (drop at st) 0)) st i at (step_at at) ≡ good_step rs ss (step_of at)
  unfolding decode_step
  step_ok ss i at e P F =
      let w = fact_at_lem at F in
      let r = rule_of_lem at F in
      follows_ok (arity_of sy) (signature sy) (signature_agrees sy) Z (fact_place h) (rule_tokens (T + 8) ru (two (drop at st) 0)) st ss (step_at at) i at P rs r.0 (step_of at)
      r.1 refl r.2 r.3 w.0.shut w.1 w.2

  -- one step more is in its place
  fact_old : (ss : List Step) (x : Step) (u : ℕ) (f : Term) → fact_at_step ss u ≡ some f → fact_at_step (ss ++ (x ∷ [])) u ≡ some f
  unfolding fact_at_step
  fact_old [] x u f e = no_confusion (cc)
  fact_old (s ∷ ss) x zero f e = e
  fact_old (s ∷ ss) x (suc u) f e = fact_old ss x u f e

  fact_new : (ss : List Step) (x : Step) → fact_at_step (ss ++ (x ∷ [])) (length ss) ≡ some x.fact
  unfolding fact_at_step
  fact_new [] x = refl
  fact_new (s ∷ ss) x = fact_new ss x

  fact_past : (ss : List Step) (x : Step) (u : ℕ) → suc (length ss) ≤ u → fact_at_step (ss ++ (x ∷ [])) u ≡ none
  unfolding fact_at_step
  fact_past [] x zero l = absurd (omega arith)
  fact_past [] x (suc u) l = refl
  fact_past (s ∷ ss) x zero l = absurd (omega arith)
  fact_past (s ∷ ss) x (suc u) l = fact_past ss x u (omega arith)

  placed_more : (ss : List Step) (i at : ℕ) → length ss ≡ i → at ≡ i * Z → Placed' ss i → Formed sy h T n ru (step_at at) → Placed' (ss ++ (step_of at ∷ [])) (suc i)
  placed_more ss i at l e P F =
      record {
        before = λ u k. go u k (leb i u) refl;
        after = λ u k. fact_past ss (step_of at) u (omega arith);
      }
    where
      w : OneFact sy (step_tokens h (step_at at)) (step_of at).fact × At' (at + fact_place h) (step_of at).fact × Spine' (step_of at).fact
      w = fact_at_lem at F

      go : (u : ℕ) → u < suc i → (c : Bool) → leb i u ≡ c → (f : Term) × (fact_at_step (ss ++ (step_of at ∷ [])) u ≡ some f) × At' (u * Z + fact_place h) f × Spine' f
      go u k true q =
          let z : u ≡ i = omega (arith, leb-true i u q) in
          let y : at + fact_place h ≡ u * Z + fact_place h = ap (◌+ fact_place h) (e ∙ ap (λ (m : ℕ). m * Z) (sym z)) in
          ((step_of at).fact, ap (fact_at_step (ss ++ (step_of at ∷ []))) (z ∙ sym l) ∙ fact_new ss (step_of at), subst (λ (m : ℕ). At' m (step_of at).fact) y w.1, w.2)
      go u k false q = let b = P.before u (leb-false i u q) in (b.0, fact_old ss (step_of at) u b.0 b.1, b.2, b.3)

  -- The first bad step by its bytes is the first bad one of the judgement.
  bytes_ok : (m : ℕ) (ss : List Step) (i at : ℕ) → length ss ≡ i → at ≡ i * Z → Placed' ss i → first_bad_bytes sy h T n ru st i at m ≡ first_bad_step sy h T ru rs ss m (drop at st)
  unfolding first_bad_bytes first_bad_step
  bytes_ok zero ss i at l e P = refl
  bytes_ok (suc m) ss i at l e P =
      either (form_good sy h T n ru (step_at at)) (follows_bytes (arity_of sy) Z (fact_place h) (rule_tokens (T + 8) ru (two (drop at st) 0)) st i at (step_at at)) (good_step rs ss (step_of at))
      i (length ss) (first_bad_bytes sy h T n ru st (suc i) (at + Z) m) (first_bad_step sy h T ru rs (ss ++ (step_of at ∷ [])) m (drop Z (drop at st)))
      (sym l) (λ q. step_ok ss i at e P (form_tested sy h T n ru (step_at at) q))
      (λ q.
      bytes_ok m (ss ++ (step_of at ∷ [])) (suc i) (at + Z) (length_snoc ss (step_of at) ∙ ap suc l) (let z : at + Z ≡ suc i * Z = omega (arith, e) in z) (placed_more ss i at l e P (form_tested sy h T n ru (step_at at) q))
      ∙ ap (first_bad_step sy h T ru rs (ss ++ (step_of at ∷ [])) m) (sym (drop-drop Z at st)))
      ∙ ap (λ (k : ℕ). or_at (both (form_good sy h T k ru (step_at at)) (good_step rs ss (step_of at))) (length ss) (first_bad_step sy h T ru rs (ss ++ (step_of at ∷ [])) m (drop Z (drop at st))))
      (sym (length_decode_rules sy (T + 8) n ru))

  pub first_bad_bytes_ok : (m : ℕ) → first_bad_bytes sy h T n ru st 0 0 m ≡ first_bad_step sy h T ru rs [] m st
  unfolding fact_at_step
  first_bad_bytes_ok m = bytes_ok m [] 0 0 refl (let z : 0 ≡ 0 * Z = omega arith in z) (record { before = λ u l. absurd (omega arith); after = λ u l. refl })

  -- ---- the end
  or_none : (c : Bool) (i : ℕ) (p : Option ℕ) → or_at c i p ≡ none → (c ≡ true) × (p ≡ none)
  or_none false i p e = no_confusion (cc)
  or_none true i p e = (refl, e)

  -- the test of the step at `at`
  abbrev tested : ℕ → ℕ → Bool
  tested i at = both (form_good sy h T n ru (step_at at)) (follows_bytes (arity_of sy) Z (fact_place h) (rule_tokens (T + 8) ru (two (drop at st) 0)) st i at (step_at at))

  -- every step has a good form where none is bad
  all_formed : (m i at : ℕ) → first_bad_bytes sy h T n ru st i at m ≡ none → (k : ℕ) → k < m → Formed sy h T n ru (step_at (at + k * Z))
  unfolding first_bad_bytes
  all_formed zero i at e k l = absurd (omega arith)
  all_formed (suc m) i at e zero l =
      subst (λ (p : ℕ). Formed sy h T n ru (step_at p)) (let z : at ≡ at + 0 * Z = omega arith in z)
      (form_tested sy h T n ru (step_at at) (both_true _ _ (or_none (tested i at) i (first_bad_bytes sy h T n ru st (suc i) (at + Z) m) e).0).0)
  all_formed (suc m) i at e (suc k) l =
      subst (λ (p : ℕ). Formed sy h T n ru (step_at p)) (let z : at + Z + k * Z ≡ at + suc k * Z = omega arith in z)
      (all_formed m (suc i) (at + Z) (or_none (tested i at) i (first_bad_bytes sy h T n ru st (suc i) (at + Z) m) e).1 k (omega arith))

  -- the tokens of two facts that keep to the arities are the same where the facts are
  same_facts : (f g : Term) (ts us : List ℕ) → OneFact sy ts f → OneFact sy us g → same_bytes ts us ≡ same f g
  unfolding terms
  same_facts f g ts us F G = ap₂ same_bytes F.tokens G.tokens ∙ go (same f g) (same_ok f g)
    where
      go : (c : Bool) → SameOk f g c → same_bytes (leaves f []) (leaves g []) ≡ c
      go true e = ap (λ (t : Term). same_bytes (leaves f []) (leaves t [])) (sym e) ∙ same_bytes_refl (leaves f [])
      go false ne = other (same_bytes (leaves f []) (leaves g [])) refl
        where
          other : (b : Bool) → same_bytes (leaves f []) (leaves g []) ≡ b → b ≡ false
          other false e = refl
          other true e =
              let z : f ∷ [] ≡ g ∷ [] =
              sym (terms_fact (arity_of sy) (signature sy) (signature_agrees sy) f [] F.is_one F.small)
              ∙ ap (terms (arity_of sy)) (same_bytes_eq (leaves f []) (leaves g []) e)
              ∙ terms_fact (arity_of sy) (signature sy) (signature_agrees sy) g [] G.is_one G.small in
              absurd (ne (cc))

  -- the query is one closed fact
  query_fact_lem : OneFact sy (tokens_of qu) (decode_query sy qu)
  unfolding decode_query leaves_all
  query_fact_lem =
      let k = rule_good_lem sy 0 T 0 qu A.query_good in
      record {
        is_one = A.query_fact;
        small = (numbered_small 0 (omega arith) ((decode_rule sy qu).concl ∷ (decode_rule sy qu).hyps) k.numbered).0;
        shut = A.query_closed;
        tokens = sym k.tokens ∙ ap (λ (l : List Term). leaves (decode_rule sy qu).concl (leaves_all l)) A.query_alone;
      }

  ends_last : (q : Term) (m : ℕ) (l : List ℕ) → ends q (decode_steps sy h T (suc m) l) ≡ same (decode_step sy h (take Z (drop (m * Z) l))).fact q
  unfolding ends decode_steps
  ends_last q zero l = ap (λ (k : ℕ). same (decode_step sy h (take Z (drop k l))).fact q) (let z : 0 ≡ 0 * Z = omega arith in z)
  ends_last q (suc m) l =
      ends_last q m (drop Z l)
      ∙ ap (λ (z : List ℕ). same (decode_step sy h (take Z z)).fact q) (drop-drop (m * Z) Z l ∙ ap (λ (k : ℕ). drop k l) (let z : Z + m * Z ≡ suc m * Z = omega arith in z))

  -- The last of the steps, none of which is bad, concludes the query where its fact has the query's tokens.
  pub ends_ok : (m : ℕ) → first_bad_bytes sy h T n ru st 0 0 (suc m) ≡ none → same_bytes (step_tokens h (step_at (m * Z))) (tokens_of qu) ≡ ends (decode_query sy qu) (decode_steps sy h T (suc m) st)
  ends_ok m e =
      let F = subst (λ (p : ℕ). Formed sy h T n ru (step_at p)) (let z : 0 + m * Z ≡ m * Z = omega arith in z) (all_formed (suc m) 0 0 e m (omega arith)) in
      same_facts (step_of (m * Z)).fact (decode_query sy qu) (step_tokens h (step_at (m * Z))) (tokens_of qu) (fact_at_lem (m * Z) F).0 query_fact_lem
      ∙ sym (ends_last (decode_query sy qu) m st)
