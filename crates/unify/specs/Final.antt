-- The code's answer is the model's combination, and what it writes are instances. Assumes nothing.
use Rattle.std.specs.Prelude.{ℕ, ◌+◌, ◌*◌, ◌≤◌, ◌<◌, Bool, true, false, List, ◌++◌, ◌≡◌, refl, length, take, drop, Some, None}
use Rattle.std.specs.Prelude as code
use Rattle.std.proofs.Common.{arith, ap, ◌∙◌, subst, sym, length-take}
use Rattle.std.proofs.Math.Option.{Option, none, some}
use Rattle.model.specs.Term.{Term, var, sub, size, unify, apply, Bindings}
use Rattle.model.specs.Rule.{Rule, normal, sub_rule, nth, left, right, by_unifier, upon, combine}
use Rattle.model.specs.Sign.{Signature, is_fact}
use Rattle.theory.specs.Subst.{apply_sub, sub_all}
use Rattle.theory.specs.Unify.{MguOk}
use Rattle.theory.specs.Combine.{unifier_of, nth_map}
use Rattle.theory.specs.Unique.{parts, combine_any}
use Rattle.records.specs.Symbols.{arity_of}
use Rattle.records.specs.Tokens.{leaves}
use Rattle.records.specs.TokenLaws.{EachVar, Small, Agrees}
use Rattle.unify.specs.Solve.{Solved}
use Rattle.unify.specs.Nodes.{graph, node, node_in, ren, tree_leaves}
use Rattle.unify.specs.Facts.{tokens_in, facts, Given, facts_length, Stands, stands_left, stands_right}
use Rattle.unify.specs.Formed.{wf_fact}
use Rattle.unify.specs.Whole.{Answers, Unifies}
use Rattle.unify.specs.Writer.{codes, codes_size, Writes, Wrote, Asked}

-- where nothing unifies there is no combination
combine_none :
    (r r' : Rule) (k : ℕ) (c : Term) → nth (right r').hyps k ≡ some c → ((θ : ℕ → Term) → sub θ (left r).concl ≡ sub θ c → ⊥) → combine r r' k ≡ none
unfolding combine upon by_unifier
combine_none r r' k c e no' = ap (upon (left r) (right r') k) e ∙ go (unify (left r).concl c) (unifier_of (left r).concl c)
  where
    go : (o : Option Bindings) → MguOk (left r).concl c o → by_unifier (left r) (right r') k o ≡ none
    go none h = refl
    go (some m) h = absurd (no' (λ x. apply m (var x)) (sym (apply_sub m (left r).concl) ∙ h.unifies ∙ apply_sub m c))

pub ren_left : (t : Term) → ren 0 t ≡ sub (λ x. var (2 * x)) t
ren_left t = sub_all (λ x. var (2 * x + 0)) (λ x. var (2 * x)) t (λ x. ap var (let z : 2 * x + 0 ≡ 2 * x = omega arith in z))

-- ---- the unifier
-- The conclusion of r stands at the place p on the left, the hypothesis of r' with k before it at the place q on the right.
module _ (sy ts s : List ℕ) (S : Signature) (A : Agrees (arity_of sy) S) (r r' : Rule) (k p q at : ℕ) (h : Term) (is : nth r'.hyps k ≡ some h)
    (fp : is_fact S r.concl ≡ true) (lp : EachVar Small r.concl) (P : Stands ts 0 p r.concl)
    (fq : is_fact S h ≡ true) (lq : EachVar Small h) (Q : Stands ts 1 q h)
  where
    on_left : (graph sy ts).tree (node ts p) ≡ (left r).concl
    unfolding left sub_rule
    on_left = tree_leaves sy ts 0 p r.concl P.behind (wf_fact S sy A r.concl fp lp) P.sided P.tokens ∙ ren_left r.concl

    on_right : (graph sy ts).tree (node ts q) ≡ ren 1 h
    on_right = tree_leaves sy ts 1 q h Q.behind (wf_fact S sy A h fq lq) Q.sided Q.tokens

    hyp : nth (right r').hyps k ≡ some (ren 1 h)
    unfolding right sub_rule
    hyp = nth_map (sub (λ x. var (2 * x + 1))) r'.hyps k h is

    -- None: there is no combination.
    pub no_combination : Answers (graph sy ts) (node ts p) (node ts q) s at None → combine r r' k ≡ none
    no_combination f = combine_none r r' k (ren 1 h) hyp (λ θ e. f θ (ap (sub θ) on_left ∙ e ∙ ap (sub θ) (sym on_right)))

    -- Some: the combination, by the substitution that the classes stand for.
    pub the_combination :
        (x : ℕ) (w : Answers (graph sy ts) (node ts p) (node ts q) s at (Some x)) → combine r r' k ≡ some (normal (sub_rule w.1.μ (parts r r' k)))
    the_combination x w = combine_any r r' k (ren 1 h) w.1.μ hyp (rw on_left at (rw on_right at w.1.mgu))

-- The same, where the records are a and b: r's tokens begin with its conclusion, and the hypothesis stands at the place `at` of those of r'.
module _ (sy : List ℕ) (T : ℕ) (a b s : List ℕ) (G : Given T a b) (S : Signature) (A : Agrees (arity_of sy) S) (r r' : Rule) (k at : ℕ) (h : Term) (is : nth r'.hyps k ≡ some h)
    (fp : is_fact S r.concl ≡ true) (lp : EachVar Small r.concl) (u : List ℕ) (P : tokens_in T a ≡ leaves r.concl u)
    (fq : is_fact S h ≡ true) (lq : EachVar Small h) (v : List ℕ) (Q : drop at (tokens_in T b) ≡ leaves h v)
  where
    pub unify_no : Unifies sy T a b at s None → combine r r' k ≡ none
    unify_no f =
        no_combination sy (facts T a b) s S A r r' k 0 (T + at) at h is fp lp (stands_left T a b G 0 r.concl u P) fq lq (stands_right T a b G at h v Q) f

    pub unify_yes : (x : ℕ) (w : Unifies sy T a b at s (Some x)) → combine r r' k ≡ some (normal (sub_rule w.1.μ (parts r r' k)))
    unify_yes x w =
        the_combination sy (facts T a b) s S A r r' k 0 (T + at) at h is fp lp (stands_left T a b G 0 r.concl u P) fq lq (stands_right T a b G at h v Q) x w

-- ---- the instances
-- The term is written at the start of w and its length returned, where there is room for it; where not, None.
pub record Written (w : List ℕ) (r : code.Option ℕ) (t : Term) : Type 0 where
  pub fits : size t ≤ length w → (r ≡ Some (size t)) × (take (size t) w ≡ codes t)
  pub short : length w < size t → r ≡ None

written : (w : List ℕ) (r : code.Option ℕ) (t : Term) → Wrote w r (codes t) → Written w r t
written w (Some e) t W =
    let n : e ≡ size t = W.0 ∙ codes_size t in
    let y = ap length W.1 in
    record {
      fits = λ l. (ap Some n, ap (λ (k : ℕ). take k w) (sym n) ∙ W.1);
      short = λ l. absurd (omega (arith, length-take e w, codes_size t));
    }
written w None t W = record { fits = λ l. absurd (omega (arith, W, codes_size t)); short = λ l. refl }

module _ (sy ts s : List ℕ) (S : Signature) (A : Agrees (arity_of sy) S) (p q : ℕ) (w : Solved (graph sy ts) p q s) (x : ℕ) (t : Term) (f : is_fact S t ≡ true) (l : EachVar Small t) where
  instance : (c : ℕ) → Stands ts c x t → (u : Term) → ren c t ≡ u → (v : List ℕ) (r : code.Option ℕ) → Writes (graph sy ts) s (node ts x) v r → Written v r (sub w.μ u)
  instance c P u m v r W =
      written v r (sub w.μ u)
      (subst (λ (y : Term). Wrote v r (codes (sub w.μ y))) (tree_leaves sy ts c x t P.behind (wf_fact S sy A t f l) P.sided P.tokens ∙ m)
      (W (sub w.μ ((graph sy ts).tree (node ts x))) (w.reads (node ts x))))

  -- What is written of a fact of the first record is its instance, its variables made even.
  pub instance_left : Stands ts 0 x t → (v : List ℕ) (r : code.Option ℕ) → Writes (graph sy ts) s (node ts x) v r → Written v r (sub w.μ (sub (λ y. var (2 * y)) t))
  instance_left P = instance 0 P (sub (λ y. var (2 * y)) t) (ren_left t)

  -- Of the second record: its variables made odd.
  pub instance_right : Stands ts 1 x t → (v : List ℕ) (r : code.Option ℕ) → Writes (graph sy ts) s (node ts x) v r → Written v r (sub w.μ (sub (λ y. var (2 * y + 1)) t))
  instance_right P = instance 1 P (ren 1 t) refl

-- After Some the writer can be asked for the node n of any place x.
pub may_write : (sy : List ℕ) (T : ℕ) (a b s : List ℕ) (p q x n : ℕ) → Given T a b → Solved (graph sy (facts T a b)) p q s → x ≤ 2 * T → n ≡ node (facts T a b) x → Asked sy T (facts T a b) s n
may_write sy T a b s p q x n G w lx e =
    let l = facts_length T a b G in
    record { lt = l; ls = omega (arith, w.len, l); down = w.down; ii = omega (arith, node_in sy (facts T a b) x (omega (arith, l)), l); read = (_, w.reads n) }
