-- A search that ends without success has combined every goal with every rule it may. Assumes nothing.
use Rattle.std.specs.Prelude.{ℕ, zero, suc, ◌+◌, ◌≤◌, ◌<◌, Bool, true, false, List, [], ◌∷◌, ◌≡◌, refl, leb, length}
use Rattle.std.proofs.Common.{arith, ap, ◌∙◌, subst, sym, inl, inr, leb-true, leb-false}
use Rattle.std.proofs.Math.Option.{Option, none, some}
use Rattle.model.specs.Term.{Term, both}
use Rattle.model.specs.Rule.{Rule, all_open, combine}
use Rattle.model.specs.Table.{Origin, combined, asked, Rec, rec_at, Fate, kept_as, implied_by, skipped, no_room, too_large, Table, nothing, log, added, Progress, going, stopped, and_then}
use Rattle.model.specs.Run.{Setting, goal_fate, success, settle_goal, keep_goal, keep_goal_if, backward, try_rules, try_goals, goal0, search}
use Rattle.theory.specs.Basics.{true≢false, no_confusion, true_both}
use Rattle.theory.specs.Embed.{implies_refl}
use Rattle.theory.specs.Tables.{at_lt, at_none, length_snoc, Live, live_cons, Covers, Step, step_refl, FateOk, fate_ok, first_covers, added_live, added_step}
use Rattle.theory.specs.Loops.{Ok, ok_here, ok_then}

-- room for goals
abbrev cap : Setting → ℕ
cap S = S.limits.max_goals

keep_goal_ok : (S : Setting) (g : Table) (q : Rule) (o : Origin) → Ok (cap S) g (λ u. Covers u q) (keep_goal S g q o)
unfolding keep_goal goal_fate settle_goal success log
keep_goal_ok S g q o = go (goal_fate S g.recs q) (fate_ok S.limits S.limits.max_goals (λ r. false) g.recs q)
  where
    kept : length g.recs < cap S → (hs : List Term) → Ok (cap S) g (λ u. Covers u q) (success hs (log g (added g.recs q o) q o (kept_as (length g.recs))))
    kept l [] = tt
    kept l (h ∷ hs) =
        record {
          step = added_step g.recs q o;
          room = λ z. unfold added in omega (arith, length_snoc g.recs (record { rule = q; live = true; origin = o }));
          holds = (q, added_live g.recs q o, implies_refl q);
        }

    go : (f : Fate) → FateOk S.limits S.limits.max_goals (λ r. false) g.recs q f → Ok (cap S) g (λ u. Covers u q) (settle_goal f g q o)
    go (kept_as k) h = subst (λ (n : ℕ). Ok (cap S) g (λ u. Covers u q) (settle_goal (kept_as n) g q o)) (sym h.4) (kept h.3 q.hyps)
    go (implied_by k) h = record { step = step_refl g.recs; room = λ z. z; holds = first_covers g.recs q k h.2 }
    go skipped h = true≢false h.1 refl
    go no_room h = tt
    go too_large h = tt

-- ---- the rules, tried at one goal
-- What q gives with a live rule of t whose hypotheses are open, a goal implies.
unfoldable pub Tried : Setting → List Rec → Rule → List Rec → Type 0
Tried S t q u = (r : Rule) → Live t r → all_open S.opens r.hyps ≡ true → (n : Rule) → combine r q 0 ≡ some n → Covers u n

tried_step : (S : Setting) (t : List Rec) (q : Rule) {g u : List Rec} → Step g u → Tried S t q g → Tried S t q u
unfolding Tried
tried_step S t q s h r l o n c = s.covers n (h r l o n c)

-- the same of one record
First : Setting → Rec → Rule → List Rec → Type 0
First S x q u = x.live ≡ true → all_open S.opens x.rule.hyps ≡ true → (n : Rule) → combine x.rule q 0 ≡ some n → Covers u n

tried_more : (S : Setting) (x : Rec) (t : List Rec) (q : Rule) (u : List Rec) → First S x q u → Tried S t q u → Tried S (x ∷ t) q u
unfolding First Tried
tried_more S x t q u f h r l o n c =
    elim (live_cons x t r l) [
      | inl p ↦ f p.0 (rw p.1 o) n (rw p.1 c)
      | inr w ↦ h r w o n c
    ]

first_ok : (S : Setting) (x : Rec) (q : Rule) (o : Origin) (g : Table) → Ok (cap S) g (First S x q) (keep_goal_if S g (backward S.opens x q) o)
unfolding backward keep_goal_if First
first_ok S x q o g = go (both x.live (all_open S.opens x.rule.hyps)) refl (combine x.rule q 0) refl
  where
    kept : (n : Rule) → combine x.rule q 0 ≡ some n → (p : Progress Table) → Ok (cap S) g (λ u. Covers u n) p → Ok (cap S) g (First S x q) p
    kept n c (going u) h = record { step = h.step; room = h.room; holds = λ a b m e. let z : n ≡ m = cc in subst (Covers u.recs) z h.holds }
    kept n c (stopped w u) h = tt

    go :
        (c : Bool) → both x.live (all_open S.opens x.rule.hyps) ≡ c → (m : Option Rule) → combine x.rule q 0 ≡ m
        → Ok (cap S) g (First S x q) (keep_goal_if S g (elim c [ false ↦ none | true ↦ m ]) o)
    go false l m c = ok_here (cap S) g (First S x q) (λ a b n e. true≢false (true_both x.live (all_open S.opens x.rule.hyps) a b) l)
    go true l none c = ok_here (cap S) g (First S x q) (λ a b n e. no_confusion (cc))
    go true l (some n) c = kept n c (keep_goal S g n o) (keep_goal_ok S g n o)

pub try_ok : (S : Setting) (q : Rule) (j : ℕ) (t : List Rec) (i : ℕ) (g : Table) → Ok (cap S) g (Tried S t q) (try_rules S t i q j g)
unfolding try_rules Tried rec_at
try_ok S q j [] i g = ok_here (cap S) g (Tried S [] q) (λ r l o n c. absurd (omega (arith, at_lt [] l.num l.rec l.there')))
try_ok S q j (x ∷ t) i g =
    ok_then (cap S) g (Tried S (x ∷ t) q) (First S x q) (Tried S t q) (keep_goal_if S g (backward S.opens x q) (combined 0 i j)) (try_rules S t (suc i) q j)
    (first_ok S x q (combined 0 i j) g) (λ u h. try_ok S q j t (suc i) u)
    (λ u v h s w. tried_more S x t q v.recs (later h.holds s) w)
  where
    later : {u v : List Rec} → First S x q u → Step u v → First S x q v
    later h s = unfold First in λ a b n c. s.covers n (h a b n c)

-- ---- all goals
Searched : Setting → List Rec → ℕ → List Rec → Type 0
Searched S t j u = (a : ℕ) (x : Rec) → a < j → rec_at u a ≡ some x → Tried S t x.rule u

searched_more :
    (S : Setting) (t : List Rec) (j : ℕ) (g u : List Rec) (y : Rec) → rec_at g j ≡ some y → Step g u → Searched S t j g → Tried S t y.rule u → Searched S t (suc j) u
unfolding Searched
searched_more S t j g u y ey s h w a x la e = go (leb j a) refl
  where
    go : (d : Bool) → leb j a ≡ d → Tried S t x.rule u
    go false p =
        let b = s.back a x e (omega (arith, leb-false j a p, at_lt g j y ey)) in
        tried_step S t x.rule s (subst (λ (z : Rule). Tried S t z g) b.2 (h a b.0 (leb-false j a p) b.1))
    go true p =
        let z : a ≡ j = omega (arith, leb-true j a p) in
        let b = s.back a x e (omega (arith, at_lt g j y ey)) in
        let v : b.0 ≡ y = cc (b.1, ap (rec_at g) z) in
        subst (λ (m : Rule). Tried S t m u) (sym (ap (λ (m : Rec). m.rule) v) ∙ b.2) w

-- Every goal has been tried.
unfoldable pub Exhausted : Setting → List Rec → List Rec → Type 0
Exhausted S t u = (q : Rule) → Live u q → Tried S t q u

searched_all : (S : Setting) (t : List Rec) (j : ℕ) (u : List Rec) → length u ≤ j → Searched S t j u → Exhausted S t u
unfolding Exhausted Searched
searched_all S t j u l h q m =
    subst (λ (z : Rule). Tried S t z u) m.is (h m.num m.rec (omega (arith, at_lt u m.num m.rec m.there')) m.there')

goals_ok : (S : Setting) (t : List Rec) (n j : ℕ) (g : Table) → j + n ≡ cap S → length g.recs ≤ cap S → Searched S t j g.recs → Ok (cap S) g (Exhausted S t) (try_goals S t n j g)
unfolding try_goals
goals_ok S t zero j g e r h = ok_here (cap S) g (Exhausted S t) (searched_all S t j g.recs (omega arith) h)
goals_ok S t (suc n) j g e r h = go (rec_at g.recs j) refl (goals_ok S t n (suc j))
  where
    go :
        (o : Option Rec) → rec_at g.recs j ≡ o
        → ((u : Table) → suc j + n ≡ cap S → length u.recs ≤ cap S → Searched S t (suc j) u.recs → Ok (cap S) u (Exhausted S t) (try_goals S t n (suc j) u))
        → Ok (cap S) g (Exhausted S t) (elim o [ none ↦ going g | some x ↦ and_then (try_rules S t 0 x.rule j g) (try_goals S t n (suc j)) ])
    go none p rec = ok_here (cap S) g (Exhausted S t) (searched_all S t j g.recs (at_none g.recs j p) h)
    go (some x) p rec =
        ok_then (cap S) g (Exhausted S t) (Tried S t x.rule) (Exhausted S t) (try_rules S t 0 x.rule j g) (try_goals S t n (suc j))
        (try_ok S x.rule j t 0 g)
        (λ u k. rec u (omega arith) (k.room r) (searched_more S t j g.recs u.recs x p k.step h k.holds))
        (λ u v k s w. w)

-- A search that does not stop: goal 0 is among the goals or implied by one, and every goal has been tried.
pub search_ok : (S : Setting) (t : List Rec) (f : Term) → Ok (cap S) nothing (λ u. Covers u (goal0 f) × Exhausted S t u) (search S t f)
unfolding search Searched
search_ok S t f =
    ok_then (cap S) nothing (λ u. Covers u (goal0 f) × Exhausted S t u) (λ u. Covers u (goal0 f)) (Exhausted S t)
    (keep_goal S nothing (goal0 f) asked) (try_goals S t (cap S) 0)
    (keep_goal_ok S nothing (goal0 f) asked)
    (λ u h. goals_ok S t (cap S) 0 u (omega arith) (h.room (omega arith)) (λ a x l. absurd (omega arith)))
    (λ u v h s w. (s.covers (goal0 f) h.holds, w))
