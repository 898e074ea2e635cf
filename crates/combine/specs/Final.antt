-- The code's answer is the model's combination. Assumes nothing.
use Prim.Native.Nat.{ℕ, zero, suc, ◌+◌, ◌*◌, ◌-◌, ◌≤◌, ◌<◌}
use native.Mathlib.Omega.{arith}
use Rattle.std.proofs.Common.{add-zero, ◌∙◌, length-drop, drop-drop, take-add, eq-eqb, ne_eqb, eqb-true, leb-true, leb-false}
use Rattle.std.specs.Prelude.{Bool, ◌≡◌, leb, length, take, get_or}
use Rattle.std.proofs.Math.Bool.{true, false}
use Rattle.std.proofs.Math.Option.{some}
use mathlib.Core.List.{List, [], ◌∷◌, ◌++◌, map}
use Rattle.std.proofs.Math.Path.{refl, ap, ap₂, sym, subst}
use Rattle.std.proofs.Math.Dec.{eqb}
use Rattle.std.proofs.Math.ListN.{drop}
use Rattle.std.proofs.lemmas.List.{drop-append-le, map-append}
use Rattle.std.proofs.lemmas.Bool.{eqb-false}
use Rattle.model.specs.Term.{Term, var, sub, size}
use Rattle.model.specs.Rule.{Rule, Limits, fits, nth, without, left, right, sub_rule, normal, drop_copies, renumber, vars_of, size_all, combine}
use Rattle.model.specs.Sign.{Signature, is_fact, are_facts}
use Rattle.theory.specs.Basics.{no_confusion, both_true}
use Rattle.theory.specs.Mend.{is_fact_wants}
use Rattle.theory.specs.Subst.{map_sub_all}
use Rattle.theory.specs.Unify.{size_pos}
use Rattle.theory.specs.Combine.{without_map}
use Rattle.theory.specs.Unique.{parts, renumber_count}
use Rattle.records.specs.Tokens.{leaves, leaves_all, span}
use Rattle.records.specs.TokenLaws.{EachVar, EachVars, Small, leaves_append, length_leaves, length_leaves_all, drop_leaves, span_zero, span_fact_leaves, span_fact}
use Rattle.records.specs.Symbols.{arity_of, signature}
use Rattle.records.specs.Rules.{tokens_of}
use Rattle.records.specs.RuleLaws.{signature_agrees}
use Rattle.records.specs.Work.{body}
use Rattle.records.specs.WorkLaws.{Holding}
use Rattle.unify.specs.Forest.{Eqv}
use Rattle.unify.specs.Closure.{Graph}
use Rattle.unify.specs.Read.{ReadsAll, rnil, rcons, all_det, pairs_refl}
use Rattle.unify.specs.Nodes.{graph, node, ren, tree_leaves}
use Rattle.unify.specs.Facts.{tokens_in, facts, Given, facts_length, fact_left, fact_right, fact_past, Stands, stands_left, stands_right}
use Rattle.unify.specs.Solve.{Solved}
use Rattle.unify.specs.Formed.{wf_fact}
use Rattle.unify.specs.Final.{the_combination}
use Rattle.combine.specs.Built.{Site}
use Rattle.combine.specs.Places.{visits, visits_skip, visits_node}
use Rattle.combine.specs.Settle.{Sheets, all_nodes, tokens_short, limits, fits_limits, rule, Settled, renumber_size, renumber_hyps}

-- What combining two records needs: room, and that a unifier was found.
pub record Combinable (sy : List ℕ) (T hyps vars at : ℕ) (a b s o starts names rec : List ℕ) : Type 0 where
  pub given : Given T a b
  pub sheets : Sheets T hyps at a b o starts
  pub hyps_small : hyps < 256
  pub vars_small : vars ≤ 32
  pub wide : length names ≡ 128
  pub space : T + 2 ≤ length rec
  pub solved : Solved (graph sy (facts T a b)) (node (facts T a b) 0) (node (facts T a b) (T + at)) s

-- The records a and b hold the rules r and r', and h is the hypothesis of r' that has k before it and stands at `at`.
pub record Combines (sy a b : List ℕ) (at : ℕ) (r r' : Rule) (k : ℕ) (h : Term) : Type 0 where
  pub left : Holding sy a r
  pub right : Holding sy b r'
  pub is : nth r'.hyps k ≡ some h
  pub place : at ≡ span (arity_of sy) (suc k) (tokens_of b)

-- The answer: there is a combination; where it fits, the record holds it and all behind its tokens stays.
pub record CombinationIs (T hyps vars : ℕ) (r r' : Rule) (k : ℕ) (old new : List ℕ) (ok : Bool) : Type 0 where
  pub rule : Rule
  pub is : combine r r' k ≡ some rule
  pub fit : fits (limits hyps T vars) rule ≡ ok
  pub bytes : ok ≡ true → new ≡ body T rule ++ drop (T + 2) old

-- ---- one record's facts
-- all but the fact whose place is `skip`, where the first stands at p
but_at : ℕ → ℕ → ℕ → List Term → List Term
but_at base skip p [] = []
but_at base skip p (h ∷ hs) = elim (eqb (base + p) skip) [ true ↦ but_at base skip (p + size h) hs | false ↦ h ∷ but_at base skip (p + size h) hs ]

but_skip : (base skip p : ℕ) (h : Term) (hs : List Term) → base + p ≡ skip → but_at base skip p (h ∷ hs) ≡ but_at base skip (p + size h) hs
unfolding but_at
but_skip base skip p h hs e = rw (eq-eqb (base + p) skip e, but_at)

but_keep : (base skip p : ℕ) (h : Term) (hs : List Term) → (base + p ≡ skip → ⊥) → but_at base skip p (h ∷ hs) ≡ h ∷ but_at base skip (p + size h) hs
unfolding but_at
but_keep base skip p h hs e = rw (ne_eqb (base + p) skip e, but_at)

-- nothing is skipped before the place or behind it
but_before : (base skip p : ℕ) (hs : List Term) → base + p + size_all hs ≤ skip → but_at base skip p hs ≡ hs
unfolding but_at size_all
but_before base skip p [] l = refl
but_before base skip p (h ∷ hs) l =
    let z = size_pos h in
    but_keep base skip p h hs (λ e. omega arith) ∙ ap (h ∷◌) (but_before base skip (p + size h) hs (omega arith))

but_past : (base skip p : ℕ) (hs : List Term) → skip < base + p → but_at base skip p hs ≡ hs
unfolding but_at
but_past base skip p [] l = refl
but_past base skip p (h ∷ hs) l = but_keep base skip p h hs (λ e. omega arith) ∙ ap (h ∷◌) (but_past base skip (p + size h) hs (omega arith))

-- how many tokens the first k facts have
offset : ℕ → List Term → ℕ
offset zero hs = 0
offset (suc k) [] = 0
offset (suc k) (h ∷ hs) = size h + offset k hs

-- the fact with k before it is skipped
but_without : (base skip p k : ℕ) (hs : List Term) (h : Term) → nth hs k ≡ some h → skip ≡ base + (p + offset k hs) → but_at base skip p hs ≡ without hs k
unfolding nth without offset
but_without base skip p k [] h e q = no_confusion (cc)
but_without base skip p zero (t ∷ hs) h e q = let z = size_pos t in but_skip base skip p t hs (omega arith) ∙ but_past base skip (p + size t) hs (omega arith)
but_without base skip p (suc k) (t ∷ hs) h e q =
    let z = size_pos t in
    but_keep base skip p t hs (λ y. omega arith) ∙ ap (t ∷◌) (but_without base skip (p + size t) k hs h e (omega arith))

module _ (sy : List ℕ) where
  abbrev ar : ℕ → ℕ
  ar = arity_of sy

  abbrev S : Signature
  S = signature sy

  span_offset : (k : ℕ) (hs : List Term) (h : Term) → nth hs k ≡ some h → are_facts S hs ≡ true → EachVars Small hs → span ar k (leaves_all hs) ≡ offset k hs
  unfolding nth are_facts leaves_all offset
  span_offset k [] h e w v = no_confusion (cc)
  span_offset zero (t ∷ hs) h e w v = span_zero ar (leaves t (leaves_all hs))
  span_offset (suc k) (t ∷ hs) h e w v =
      let z = both_true (is_fact S t) (are_facts S hs) w in
      span_fact_leaves ar S (signature_agrees sy) t 0 k (leaves_all hs) (is_fact_wants S t z.0) v.0
      ∙ ap (size t +◌) (ap (λ (n : ℕ). span ar n (leaves_all hs)) (add-zero k) ∙ span_offset k hs h e z.1 v.1)

  drop_offset : (tokens : List ℕ) (p k : ℕ) (hs : List Term) (h : Term) → nth hs k ≡ some h → drop p tokens ≡ leaves_all hs → (u : List ℕ) × (drop (p + offset k hs) tokens ≡ leaves h u)
  unfolding nth leaves_all offset
  drop_offset tokens p k [] h e q = no_confusion (cc)
  drop_offset tokens p zero (t ∷ hs) h e q =
      let y : t ≡ h = cc in
      (leaves_all hs, ap (λ (n : ℕ). drop n tokens) (add-zero p) ∙ q ∙ ap (λ (x : Term). leaves x (leaves_all hs)) y)
  drop_offset tokens p (suc k) (t ∷ hs) h e q =
      let w = drop_offset tokens (p + size t) k hs h e (sym (drop-drop (size t) p tokens) ∙ ap (drop (size t)) q ∙ drop_leaves t (leaves_all hs)) in
      (w.0, ap (λ (n : ℕ). drop n tokens) (let z : p + (size t + offset k hs) ≡ p + size t + offset k hs = omega arith in z) ∙ w.1)

  nth_fact : (k : ℕ) (hs : List Term) (h : Term) → nth hs k ≡ some h → are_facts S hs ≡ true → EachVars Small hs → (is_fact S h ≡ true) × EachVar Small h
  unfolding nth are_facts
  nth_fact k [] h e w v = no_confusion (cc)
  nth_fact zero (t ∷ hs) h e w v =
      let y : t ≡ h = cc in
      subst (λ (x : Term). (is_fact S x ≡ true) × EachVar Small x) y ((both_true (is_fact S t) (are_facts S hs) w).0, v.0)
  nth_fact (suc k) (t ∷ hs) h e w v = nth_fact k hs h e (both_true (is_fact S t) (are_facts S hs) w).1 v.1

  -- the term of a node that a fact stands at
  node_tree : (ts : List ℕ) (c x : ℕ) (t : Term) → is_fact S t ≡ true → EachVar Small t → Stands ts c x t → (graph sy ts).tree (node ts x) ≡ ren c t
  node_tree ts c x t f v P = tree_leaves sy ts c x t P.behind (wf_fact S sy (signature_agrees sy) t f v) P.sided P.tokens

  -- the terms of the nodes that a side gives
  side_trees :
      (ts tokens : List ℕ) (c base skip : ℕ) → ((x : ℕ) (t : Term) (u : List ℕ) → drop x tokens ≡ leaves t u → Stands ts c (base + x) t)
      → (hs : List Term) (p : ℕ) → drop p tokens ≡ leaves_all hs → are_facts S hs ≡ true → EachVars Small hs
      → map (graph sy ts).tree (visits ar ts tokens base skip (length hs) p) ≡ map (ren c) (but_at base skip p hs)
  unfolding leaves_all are_facts
  side_trees ts tokens c base skip F [] p e w v = unfold visits but_at in refl
  side_trees ts tokens c base skip F (h ∷ hs) p e w v =
      let z = both_true (is_fact S h) (are_facts S hs) w in
      let d : span ar 1 (drop p tokens) ≡ size h = ap (span ar 1) e ∙ span_fact ar S (signature_agrees sy) h (leaves_all hs) z.0 v.0 in
      let rec = side_trees ts tokens c base skip F hs (p + size h) (sym (drop-drop (size h) p tokens) ∙ ap (drop (size h)) e ∙ drop_leaves h (leaves_all hs)) z.1 v.1 in
      go d (node_tree ts c (base + p) h z.0 v.0 (F p h (leaves_all hs) e)) rec (eqb (base + p) skip) refl
    where
      go :
          span ar 1 (drop p tokens) ≡ size h → (graph sy ts).tree (node ts (base + p)) ≡ ren c h
          → map (graph sy ts).tree (visits ar ts tokens base skip (length hs) (p + size h)) ≡ map (ren c) (but_at base skip (p + size h) hs)
          → (b : Bool) → eqb (base + p) skip ≡ b
          → map (graph sy ts).tree (visits ar ts tokens base skip (suc (length hs)) p) ≡ map (ren c) (but_at base skip p (h ∷ hs))
      go d t rec true q =
          ap (map (graph sy ts).tree) (visits_skip ar ts tokens base skip (length hs) p q ∙ ap (λ (n : ℕ). visits ar ts tokens base skip (length hs) (p + n)) d)
          ∙ rec
          ∙ ap (map (ren c)) (sym (but_skip base skip p h hs (eqb-true (base + p) skip q)))
      go d t rec false q =
          ap (map (graph sy ts).tree) (visits_node ar ts tokens base skip (length hs) p q ∙ ap (λ (n : ℕ). node ts (base + p) ∷ visits ar ts tokens base skip (length hs) (p + n)) d)
          ∙ ap₂ ◌∷◌ t rec
          ∙ ap (map (ren c)) (sym (but_keep base skip p h hs (eqb-false (base + p) skip q)))

-- a record's counted tokens are the first of its room
in_room : (T : ℕ) (rec : List ℕ) (x : ℕ) (t : Term) (u : List ℕ) → get_or rec 1 0 ≤ T → drop x (tokens_of rec) ≡ leaves t u → (v : List ℕ) × (drop x (tokens_in T rec) ≡ leaves t v)
unfolding tokens_in tokens_of
in_room T rec x t u l e =
    let n = get_or rec 1 0 in
    let z : n + (T - n) ≡ T = omega arith in
    let k : length (take n (drop 2 rec)) - x ≡ size t + length u = sym (length-drop x (take n (drop 2 rec))) ∙ ap length e ∙ length_leaves t u in
    let more = take (T - n) (drop n (drop 2 rec)) in (
      u ++ more,
      ap (λ (m : ℕ). drop x (take m (drop 2 rec))) (sym z)
          ∙ ap (drop x) (take-add n (T - n) (drop 2 rec))
          ∙ drop-append-le x (take n (drop 2 rec)) more (omega (arith, size_pos t))
          ∙ ap (◌++ more) e
          ∙ sym (leaves_append t u more),
    )

map_of_map : (g : Term → Term) (f : ℕ → Term) (l : List ℕ) → map (λ x. g (f x)) l ≡ map g (map f l)
map_of_map g f [] = refl
map_of_map g f (x ∷ l) = ap (g (f x) ∷◌) (map_of_map g f l)

-- numbering changes nothing about fitting
fits_renumber : (h T v : ℕ) (r : Rule) → fits (limits h T v) (renumber r) ≡ fits (limits h T v) r
unfolding fits
fits_renumber h T v r =
    ap (λ (n : ℕ). elim (leb n h) as (λ _. Bool) [ false ↦ false | true ↦ elim (leb (size (renumber r).concl + size_all (renumber r).hyps) T) [ false ↦ false | true ↦ leb (length (vars_of (renumber r))) v ] ]) (renumber_hyps r)
    ∙ ap (λ (n : ℕ). elim (leb (length r.hyps) h) as (λ _. Bool) [ false ↦ false | true ↦ elim (leb n T) [ false ↦ false | true ↦ leb (length (vars_of (renumber r))) v ] ]) (renumber_size r)
    ∙ ap (λ (n : ℕ). elim (leb (length r.hyps) h) as (λ _. Bool) [ false ↦ false | true ↦ elim (leb (size r.concl + size_all r.hyps) T) [ false ↦ false | true ↦ leb n v ] ]) (renumber_count r)

-- ---- the whole
module _ (sy : List ℕ) (T hyps vars at : ℕ) (a b s o starts names rec : List ℕ) (C : Combinable sy T hyps vars at a b s o starts names rec) (r r' : Rule) (k : ℕ) (h : Term) (P : Combines sy a b at r r' k h) where
  abbrev ts : List ℕ
  ts = facts T a b

  abbrev G : Graph
  G = graph sy ts

  abbrev sig : Signature
  sig = signature sy

  abbrev μ : ℕ → Term
  μ = C.solved.μ

  stands_a : (x : ℕ) (t : Term) (u : List ℕ) → drop x (tokens_of a) ≡ leaves t u → Stands ts 0 (0 + x) t
  stands_a x t u e =
      let w = in_room T a x t u C.sheets.count_a e in
      subst (λ (n : ℕ). Stands ts 0 n t) (let z : x ≡ 0 + x = omega arith in z) (stands_left T a b C.given x t w.0 w.1)

  stands_b : (x : ℕ) (t : Term) (u : List ℕ) → drop x (tokens_of b) ≡ leaves t u → Stands ts 1 (T + x) t
  stands_b x t u e = let w = in_room T b x t u C.sheets.count_b e in stands_right T a b C.given x t w.0 w.1

  -- the two records: conclusion and hypotheses
  fact_a : (is_fact sig r.concl ≡ true) × (are_facts sig r.hyps ≡ true)
  unfolding are_facts
  fact_a = both_true (is_fact sig r.concl) (are_facts sig r.hyps) P.left.facts

  fact_b : (is_fact sig r'.concl ≡ true) × (are_facts sig r'.hyps ≡ true)
  unfolding are_facts
  fact_b = both_true (is_fact sig r'.concl) (are_facts sig r'.hyps) P.right.facts

  head_a : tokens_of a ≡ leaves r.concl (leaves_all r.hyps)
  unfolding leaves_all
  head_a = P.left.tokens

  head_b : tokens_of b ≡ leaves r'.concl (leaves_all r'.hyps)
  unfolding leaves_all
  head_b = P.right.tokens

  rest_a : drop (size r.concl) (tokens_of a) ≡ leaves_all r.hyps
  rest_a = ap (drop (size r.concl)) head_a ∙ drop_leaves r.concl (leaves_all r.hyps)

  rest_b : drop (size r'.concl) (tokens_of b) ≡ leaves_all r'.hyps
  rest_b = ap (drop (size r'.concl)) head_b ∙ drop_leaves r'.concl (leaves_all r'.hyps)

  first_a : span (arity_of sy) 1 (tokens_of a) ≡ size r.concl
  first_a = ap (span (arity_of sy) 1) head_a ∙ span_fact (arity_of sy) sig (signature_agrees sy) r.concl (leaves_all r.hyps) fact_a.0 P.left.small.0

  first_b : span (arity_of sy) 1 (tokens_of b) ≡ size r'.concl
  first_b = ap (span (arity_of sy) 1) head_b ∙ span_fact (arity_of sy) sig (signature_agrees sy) r'.concl (leaves_all r'.hyps) fact_b.0 P.right.small.0

  placed : at ≡ size r'.concl + offset k r'.hyps
  placed =
      P.place
      ∙ ap (span (arity_of sy) (suc k)) head_b
      ∙ span_fact_leaves (arity_of sy) sig (signature_agrees sy) r'.concl 0 k (leaves_all r'.hyps) (is_fact_wants sig r'.concl fact_b.0) P.right.small.0
      ∙ ap (size r'.concl +◌) (ap (λ (n : ℕ). span (arity_of sy) n (leaves_all r'.hyps)) (add-zero k) ∙ span_offset sy k r'.hyps h P.is fact_b.1 P.right.small.1)

  -- all of a's tokens stand before T
  short_a : size r.concl + size_all r.hyps ≤ T
  short_a = omega (arith, ap length head_a, length_leaves r.concl (leaves_all r.hyps), length_leaves_all r.hyps, tokens_short T a (tokens_of a) C.sheets.count_a refl)

  trees_a : map G.tree (visits (arity_of sy) ts (tokens_of a) 0 (T + at) (get_or a 0 0) (span (arity_of sy) 1 (tokens_of a))) ≡ (left r).hyps
  unfolding left sub_rule
  trees_a =
      ap₂ (λ (n p : ℕ). map G.tree (visits (arity_of sy) ts (tokens_of a) 0 (T + at) n p)) P.left.count first_a
      ∙ side_trees sy ts (tokens_of a) 0 0 (T + at) stands_a r.hyps (size r.concl) rest_a fact_a.1 P.left.small.1
      ∙ ap (map (ren 0)) (but_before 0 (T + at) (size r.concl) r.hyps (omega (arith, short_a)))
      ∙ map_sub_all (λ x. var (2 * x + 0)) (λ x. var (2 * x)) r.hyps (λ x. ap var (add-zero (2 * x)))

  trees_b : map G.tree (visits (arity_of sy) ts (tokens_of b) T (T + at) (get_or b 0 0) (span (arity_of sy) 1 (tokens_of b))) ≡ without (right r').hyps k
  unfolding right sub_rule
  trees_b =
      ap₂ (λ (n p : ℕ). map G.tree (visits (arity_of sy) ts (tokens_of b) T (T + at) n p)) P.right.count first_b
      ∙ side_trees sy ts (tokens_of b) 1 T (T + at) stands_b r'.hyps (size r'.concl) rest_b fact_b.1 P.right.small.1
      ∙ ap (map (ren 1)) (but_without T (T + at) (size r'.concl) k r'.hyps h P.is (ap (T +◌) placed))
      ∙ sym (without_map (ren 1) r'.hyps k)

  tree_c : G.tree (node ts T) ≡ (right r').concl
  unfolding right sub_rule
  tree_c =
      ap (λ (n : ℕ). G.tree (node ts n)) (sym (add-zero T))
      ∙ node_tree sy ts 1 (T + 0) r'.concl fact_b.0 P.right.small.0 (stands_b 0 r'.concl (leaves_all r'.hyps) head_b)

  all_trees : map G.tree (all_nodes sy T a b at) ≡ (parts r r' k).concl ∷ (parts r r' k).hyps
  unfolding all_nodes parts
  all_trees = ap₂ ◌∷◌ tree_c (map-append G.tree (visits (arity_of sy) ts (tokens_of a) 0 (T + at) (get_or a 0 0) (span (arity_of sy) 1 (tokens_of a))) (visits (arity_of sy) ts (tokens_of b) T (T + at) (get_or b 0 0) (span (arity_of sy) 1 (tokens_of b))) ∙ ap₂ ◌++◌ trees_a trees_b)

  fill : (l : List ℕ) → ReadsAll G s l (map (λ i. sub μ (G.tree i)) l)
  fill [] = rnil
  fill (i ∷ l) = rcons (C.solved.reads i) (fill l)

  -- what was read are the instances
  instances : (c : Term) (d : List Term) → ReadsAll G s (all_nodes sy T a b at) (c ∷ d) → c ∷ d ≡ sub μ (parts r r' k).concl ∷ map (sub μ) (parts r r' k).hyps
  instances c d R =
      all_det G s R (all_nodes sy T a b at) (map (λ i. sub μ (G.tree i)) (all_nodes sy T a b at)) (pairs_refl (Eqv s) (λ i. refl) (all_nodes sy T a b at)) (fill (all_nodes sy T a b at))
      ∙ map_of_map (sub μ) G.tree (all_nodes sy T a b at)
      ∙ ap (map (sub μ)) all_trees

  the_rule : (c : Term) (d : List Term) → ReadsAll G s (all_nodes sy T a b at) (c ∷ d) → rule c d ≡ sub_rule μ (parts r r' k)
  unfolding sub_rule
  the_rule c d R =
      let e = instances c d R in
      let x : c ≡ sub μ (parts r r' k).concl = cc in
      let y : d ≡ map (sub μ) (parts r r' k).hyps = cc in
      ap₂ rule x y

  combination : combine r r' k ≡ some (normal (sub_rule μ (parts r r' k)))
  combination =
      let f = nth_fact sy k r'.hyps h P.is fact_b.1 P.right.small.1 in
      let w = drop_offset sy (tokens_of b) (size r'.concl) k r'.hyps h P.is rest_b in
      the_combination sy ts s sig (signature_agrees sy) r r' k 0 (T + at) at h P.is fact_a.0 P.left.small.0 (stands_a 0 r.concl (leaves_all r.hyps) head_a) f.0 f.1
      (stands_b at h w.0 (ap (λ (n : ℕ). drop n (tokens_of b)) placed ∙ w.1)) at (refl, C.solved)

  -- The answer says which combination there is, whether it fits, and what was written.
  pub result_of : (new : List ℕ) (ok : Bool) → Settled sy ts s T hyps vars rec new (all_nodes sy T a b at) ok → CombinationIs T hyps vars r r' k rec new ok
  unfolding normal
  result_of new ok Z =
      let e = the_rule Z.concl Z.done Z.reads in
      record {
        rule = normal (sub_rule μ (parts r r' k));
        is = combination;
        fit = fits_renumber hyps T vars (drop_copies (sub_rule μ (parts r r' k))) ∙ ap (λ (q : Rule). fits (limits hyps T vars) (drop_copies q)) (sym e) ∙ Z.fit;
        bytes = λ q. Z.bytes q ∙ ap (λ (x : Rule). body T (renumber (drop_copies x)) ++ drop (T + 2) rec) e;
      }

-- ---- after `unify`
-- each token of two records is a byte
facts_bytes : (T : ℕ) (a b : List ℕ) → Given T a b → ((i : ℕ) → get_or a i 0 < 256) → ((i : ℕ) → get_or b i 0 < 256) → (p : ℕ) → get_or (facts T a b) p 0 < 256
facts_bytes T a b g ha hb p = go (leb T p) refl (leb (2 * T) p) refl
  where
    go : (c : Bool) → leb T p ≡ c → (d : Bool) → leb (2 * T) p ≡ d → get_or (facts T a b) p 0 < 256
    go false e d f = omega (arith, fact_left T a b g p (leb-false T p e), ha (p + 2))
    go true e false f = let y = leb-true T p e in let z = leb-false (2 * T) p f in omega (arith, fact_right T a b g p y (omega arith), hb (p - T + 2))
    go true e true f = omega (arith, fact_past T a b g p (leb-true (2 * T) p f))

pub site_of : (sy : List ℕ) (T : ℕ) (a b s : List ℕ) (p q : ℕ) → Given T a b → Solved (graph sy (facts T a b)) p q s → ((i : ℕ) → get_or a i 0 < 256) → ((i : ℕ) → get_or b i 0 < 256) → Site sy T a b s
site_of sy T a b s p q G S ha hb =
    record {
      given = G;
      down = S.down;
      len = omega (arith, S.len, facts_length T a b G);
      bytes = facts_bytes T a b G ha hb;
      reads = λ i. (_, S.reads i);
    }

-- Any limits with these three numbers.
pub result_fits : (L : Limits) (r r' : Rule) (k : ℕ) (old new : List ℕ) (ok : Bool) → (R : CombinationIs L.max_tokens L.max_hyps L.max_vars r r' k old new ok) → fits L R.rule ≡ ok
result_fits L r r' k old new ok R = fits_limits L R.rule ∙ R.fit

-- The combination fits: it is in the record, and the bytes behind its tokens stay.
pub fitting_written : (L : Limits) (r r' : Rule) (k : ℕ) (old new : List ℕ) (ok : Bool) → CombinationIs L.max_tokens L.max_hyps L.max_vars r r' k old new ok
    → (q : Rule) → combine r r' k ≡ some q → fits L q ≡ true → (ok ≡ true) × (new ≡ body L.max_tokens q ++ drop (L.max_tokens + 2) old)
fitting_written L r r' k old new ok R q e f =
    let i = R.is in
    let z : R.rule ≡ q = cc in
    let y : ok ≡ true = sym (result_fits L r r' k old new ok R) ∙ ap (fits L) z ∙ f in
    (y, R.bytes y ∙ ap (λ (x : Rule). body L.max_tokens x ++ drop (L.max_tokens + 2) old) z)

-- It does not fit: the answer is false.
pub unfitting_refused : (L : Limits) (r r' : Rule) (k : ℕ) (old new : List ℕ) (ok : Bool) → CombinationIs L.max_tokens L.max_hyps L.max_vars r r' k old new ok
    → (q : Rule) → combine r r' k ≡ some q → fits L q ≡ false → ok ≡ false
unfitting_refused L r r' k old new ok R q e f =
    let i = R.is in
    let z : R.rule ≡ q = cc in
    sym (result_fits L r r' k old new ok R) ∙ ap (fits L) z ∙ f
