-- Loops over a table of room for `cap` records: what a part shows at its end still holds at the end of the whole. Assumes nothing.
use Rattle.std.specs.Prelude.{ℕ, ◌≤◌, List, length}
use Rattle.model.specs.Table.{Rec, Table, Progress, going, stopped, and_then}
use Rattle.theory.specs.Tables.{Step, step_refl, step_trans}

-- A table that a loop comes to from t without stopping, with P of its records.
pub record Reached (cap : ℕ) (t : Table) (P : List Rec → Type 0) (u : Table) : Type 0 where
  pub step : Step t.recs u.recs
  pub room : length t.recs ≤ cap → length u.recs ≤ cap
  pub holds : P u.recs

abbrev pub Ok : ℕ → Table → (List Rec → Type 0) → Progress Table → Type 0
Ok cap t P (going u) = Reached cap t P u
Ok cap t P (stopped w u) = Unit {0}

pub ok_here : (cap : ℕ) (t : Table) (P : List Rec → Type 0) → P t.recs → Ok cap t P (going t)
ok_here cap t P h = record { step = step_refl t.recs; room = λ z. z; holds = h }

-- One part after another: what both show, seen from the end.
pub ok_then :
    (cap : ℕ) (t : Table) (P Q R : List Rec → Type 0) (o : Progress Table) (f : Table → Progress Table)
    → Ok cap t Q o → ((u : Table) → Reached cap t Q u → Ok cap u R (f u))
    → ((u v : Table) → Reached cap t Q u → Step u.recs v.recs → R v.recs → P v.recs) → Ok cap t P (and_then o f)
unfolding and_then
ok_then cap t P Q R (going u) f h n j = go (f u) (n u h)
  where
    go : (o : Progress Table) → Ok cap u R o → Ok cap t P o
    go (going v) k = record { step = step_trans h.step k.step; room = λ z. k.room (h.room z); holds = j u v h k.step k.holds }
    go (stopped w v) k = tt
ok_then cap t P Q R (stopped w u) f h n j = tt
