-- What a run leaves in its records does not depend on its histories: each loop over records alone, with its own equations. Assumes nothing.
use Prim.Native.Nat.{ℕ, zero, suc}
use Rattle.std.specs.Prelude.{Bool, ◌≡◌, leb, length}
use Rattle.std.proofs.Math.Bool.{true, false}
use Rattle.std.proofs.Math.Option.{Option, none, some}
use mathlib.Core.List.{List, [], ◌∷◌}
use Rattle.std.proofs.Math.Path.{refl, ap}
use Rattle.std.proofs.Common.{◌∙◌, sym}
use Rattle.model.specs.Term.{Term}
use Rattle.model.specs.Rule.{Rule, normal}
use Rattle.model.specs.Table.{Origin, input, combined, Rec, rec_at, Fate, kept_as, implied_by, skipped, no_room, too_large, Table, log, found, Progress, going, stopped, and_then}
use Rattle.model.specs.Run.{Setting, rule_fate, settle, keep, load, attempt, keep_if, upon_hyp, upon_hyps, hyps_of, pair, row, rows, goal_fate, success, settle_goal, keep_goal, keep_goal_if, backward, try_rules, try_goals}

-- A table with no history, and an outcome without it.
abbrev pub bare : List Rec → Table
bare t = record { recs = t; history = [] }

unfoldable pub forget : Progress Table → Progress (List Rec)
forget (going t) = going t.recs
forget (stopped w t) = stopped w t.recs

-- a loop whose outcome depends on the records alone
abbrev pub Plain : (Table → Progress Table) → Type 0
Plain f = (t : Table) → forget (f t) ≡ forget (f (bare t.recs))

pub then_forget : (o : Progress Table) (f : Table → Progress Table) → Plain f → forget (and_then o f) ≡ and_then (forget o) (λ t. forget (f (bare t)))
unfolding and_then forget
then_forget (going t) f p = p t
then_forget (stopped w t) f p = refl

pub then_plain : (g : Table → Progress Table) (f : Table → Progress Table) → Plain g → Plain f → Plain (λ t. and_then (g t) f)
then_plain g f q p t = then_forget (g t) f p ∙ ap (λ (o : Progress (List Rec)). and_then o (λ u. forget (f (bare u)))) (q t) ∙ sym (then_forget (g (bare t.recs)) f p)

module _ (S : Setting) where
  settle_plain : (f : Fate) (q : Rule) (o : Origin) (t : Table) → forget (settle f t q o) ≡ forget (settle f (bare t.recs) q o)
  unfolding forget settle log
  settle_plain (kept_as k) q o t = refl
  settle_plain (implied_by k) q o t = refl
  settle_plain skipped q o t = refl
  settle_plain no_room q o t = refl
  settle_plain too_large q o t = refl

  pub keep_plain : (q : Rule) (o : Origin) → Plain (λ t. keep S t q o)
  unfolding keep
  keep_plain q o t = settle_plain (rule_fate S t.recs q) q o t

  keep_if_plain : (p : Option Rule) (o : Origin) → Plain (λ t. keep_if S t p o)
  unfolding keep_if forget
  keep_if_plain none o t = refl
  keep_if_plain (some q) o t = keep_plain q o t

  pub hyp_plain : (i j k : ℕ) → Plain (upon_hyp S i j k)
  unfolding upon_hyp
  hyp_plain i j k t = keep_if_plain (attempt S.opens k (rec_at t.recs i) (rec_at t.recs j)) (combined k i j) t

  pub hyps_plain : (i j n k : ℕ) → Plain (upon_hyps S i j n k)
  unfolding upon_hyps forget
  hyps_plain i j zero k t = refl
  hyps_plain i j (suc n) k t = then_plain (upon_hyp S i j k) (upon_hyps S i j n (suc k)) (hyp_plain i j k) (hyps_plain i j n (suc k)) t

  pub pair_plain : (i j : ℕ) → Plain (pair S i j)
  unfolding pair
  pair_plain i j t = hyps_plain i j (hyps_of (rec_at t.recs j)) 0 t

  pub row_plain : (i n j : ℕ) → Plain (row S i n j)
  unfolding row
  row_plain i zero j t = pair_plain i j t
  row_plain i (suc n) j t =
      then_plain (pair S i j) (λ u. and_then (pair S j i u) (row S i n (suc j))) (pair_plain i j) (then_plain (pair S j i) (row S i n (suc j)) (pair_plain j i) (row_plain i n (suc j))) t

  pub rows_plain : (n i : ℕ) → Plain (rows S n i)
  unfolding rows forget
  rows_plain zero i t = refl
  rows_plain (suc n) i t = go (leb (length t.recs) i) (then_plain (row S i i 0) (rows S n (suc i)) (row_plain i i 0) (rows_plain n (suc i)) t)
    where
      go :
          (c : Bool) → forget (and_then (row S i i 0 t) (rows S n (suc i))) ≡ forget (and_then (row S i i 0 (bare t.recs)) (rows S n (suc i)))
          → forget (elim c [ true ↦ going t | false ↦ and_then (row S i i 0 t) (rows S n (suc i)) ]) ≡ forget (elim c [ true ↦ going (bare t.recs) | false ↦ and_then (row S i i 0 (bare t.recs)) (rows S n (suc i)) ])
      go true h = refl
      go false h = h

  pub load_plain : (rs : List Rule) (i : ℕ) → Plain (load S rs i)
  unfolding load forget
  load_plain [] i t = refl
  load_plain (r ∷ rs) i t = then_plain (λ u. keep S u (normal r) (input i)) (load S rs (suc i)) (keep_plain (normal r) (input i)) (load_plain rs (suc i)) t

  -- ---- the search
  success_plain : (hs : List Term) (t u : Table) → t.recs ≡ u.recs → forget (success hs t) ≡ forget (success hs u)
  unfolding success forget
  success_plain [] t u e = ap (stopped found) e
  success_plain (h ∷ hs) t u e = ap going e

  settle_goal_plain : (f : Fate) (q : Rule) (o : Origin) (g : Table) → forget (settle_goal f g q o) ≡ forget (settle_goal f (bare g.recs) q o)
  unfolding forget settle_goal log
  settle_goal_plain (kept_as k) q o g = success_plain q.hyps _ _ refl
  settle_goal_plain (implied_by k) q o g = refl
  settle_goal_plain skipped q o g = refl
  settle_goal_plain no_room q o g = refl
  settle_goal_plain too_large q o g = refl

  pub keep_goal_plain : (q : Rule) (o : Origin) → Plain (λ g. keep_goal S g q o)
  unfolding keep_goal
  keep_goal_plain q o g = settle_goal_plain (goal_fate S g.recs q) q o g

  keep_goal_if_plain : (p : Option Rule) (o : Origin) → Plain (λ g. keep_goal_if S g p o)
  unfolding keep_goal_if forget
  keep_goal_if_plain none o g = refl
  keep_goal_if_plain (some q) o g = keep_goal_plain q o g

  pub try_rules_plain : (t : List Rec) (i : ℕ) (q : Rule) (j : ℕ) → Plain (try_rules S t i q j)
  unfolding try_rules forget
  try_rules_plain [] i q j g = refl
  try_rules_plain (x ∷ t) i q j g =
      then_plain (λ u. keep_goal_if S u (backward S.opens x q) (combined 0 i j)) (try_rules S t (suc i) q j) (keep_goal_if_plain (backward S.opens x q) (combined 0 i j)) (try_rules_plain t (suc i) q j) g

  pub try_goals_plain : (t : List Rec) (n j : ℕ) → Plain (try_goals S t n j)
  unfolding try_goals forget
  try_goals_plain t zero j g = refl
  try_goals_plain t (suc n) j g = go (rec_at g.recs j) (λ x. then_plain (try_rules S t 0 x.rule j) (try_goals S t n (suc j)) (try_rules_plain t 0 x.rule j) (try_goals_plain t n (suc j)) g)
    where
      go :
          (o : Option Rec) → ((x : Rec) → forget (and_then (try_rules S t 0 x.rule j g) (try_goals S t n (suc j))) ≡ forget (and_then (try_rules S t 0 x.rule j (bare g.recs)) (try_goals S t n (suc j))))
          → forget (elim o [ none ↦ going g | some x ↦ and_then (try_rules S t 0 x.rule j g) (try_goals S t n (suc j)) ]) ≡ forget (elim o [ none ↦ going (bare g.recs) | some x ↦ and_then (try_rules S t 0 x.rule j (bare g.recs)) (try_goals S t n (suc j)) ])
      go none h = refl
      go (some x) h = h x
