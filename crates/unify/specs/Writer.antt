-- The codes of what is read of a node, and what the writing of them leaves. Assumes nothing.
use Prim.Native.Nat.{ℕ, suc, ◌+◌, ◌*◌, ◌-◌, ◌≤◌, ◌<◌}
use native.Mathlib.Omega.{arith}
use mathlib.Core.List.{List, [], ◌∷◌, ◌++◌, map, append_assoc, append-nil}
use Rattle.std.specs.Prelude.{◌≡◌, set, drop, Option, Some, None}
use Rattle.std.proofs.Math.Path.{refl, ap, subst}
use Rattle.std.proofs.Common.{ap₂, ◌∙◌, sym, length-set}
use Rattle.std.proofs.Math.ListN.{length, take, length-append}
use Rattle.std.proofs.Common.{length-take, length-take-le}
use Rattle.std.proofs.Math.Seq.{take-append-add}
use Rattle.model.specs.Term.{Term, var, con, ◌·◌, size}
use Rattle.theory.specs.Unify.{size_pos}
use Rattle.records.specs.Tokens.{applied}
use Rattle.unify.specs.Forest.{Down, find, Eqv}
use Rattle.unify.specs.Closure.{Graph}
use Rattle.unify.specs.Read.{Reads, rvar, rsym, ReadsAll, rnil, rcons, all_det, pairs_refl}
use Rattle.records.specs.Symbols.{arity_of}
use Rattle.unify.specs.Nodes.{node, starts_at, tok, Past, graph, args_at, args_cons, args_head, first}

-- a symbol by its token, a variable behind all tokens
unfoldable pub codes : Term → List ℕ
codes (var x) = (256 + x) ∷ []
codes (con f) = f ∷ []
codes (a · b) = codes a ++ codes b

unfoldable pub codes_all : List Term → List ℕ
unfolding codes
codes_all [] = []
codes_all (t ∷ l) = codes t ++ codes_all l

pub codes_size : (t : Term) → length (codes t) ≡ size t
unfolding codes size
codes_size (var x) = refl
codes_size (con f) = refl
codes_size (a · b) = length-append (codes a) (codes b) ∙ ap₂ ◌+◌ (codes_size a) (codes_size b)

codes_applied : (t : Term) (us : List Term) → codes (applied t us) ≡ codes t ++ codes_all us
unfolding codes codes_all applied
codes_applied t [] = sym (append-nil (codes t))
codes_applied t (u ∷ us) = codes_applied (t · u) us ∙ append_assoc (codes t) (codes u) (codes_all us)

pub codes_all_append : (us vs : List Term) → codes_all (us ++ vs) ≡ codes_all us ++ codes_all vs
unfolding codes_all
codes_all_append [] vs = refl
codes_all_append (u ∷ us) vs = ap (codes u ++◌) (codes_all_append us vs) ∙ sym (append_assoc (codes u) (codes_all us) (codes_all vs))

-- after the writing of l into w: its length, or that there is no room for it
abbrev pub Wrote : List ℕ → Option ℕ → List ℕ → Type 0
Wrote w (Some e) l = (e ≡ length l) × (take e w ≡ l)
Wrote w None l = length w < length l

-- what is read of i is written into w
abbrev pub Writes : Graph → List ℕ → ℕ → List ℕ → Option ℕ → Type 0
Writes G s i w r = (t : Term) → Reads G s i t → Wrote w r (codes t)

-- what the writing of the node i asks of the classes s
pub record Asked (sy : List ℕ) (T : ℕ) (ts s : List ℕ) (i : ℕ) : Type 0 where
  pub lt : length ts ≡ 2 * T
  pub ls : length s ≡ 2 * T + 128
  pub down : Down s
  pub ii : i < 2 * T + 128
  pub read : (t : Term) × Reads (graph sy ts) s i t

-- the arguments of the root, behind its token f: some are written, the rest is to come
pub record Args (G : Graph) (s w : List ℕ) (e f : ℕ) (xs us : List ℕ) : Type 0 where
  pub all : List Term
  pub done : List Term
  pub rest : List Term
  pub whole : all ≡ done ++ rest
  pub reads : ReadsAll G s xs all
  pub left : ReadsAll G s us rest
  pub text : take e w ≡ f ∷ codes_all done
  pub inn : e ≤ length w

take_one : (w : List ℕ) (v : ℕ) → 0 < length w → take 1 (set w 0 v) ≡ v ∷ []
take_one [] v l = absurd (omega arith)
take_one (x ∷ w) v l = refl

some_codes : (t : Term) → 0 < length (codes t)
some_codes t = let z = codes_size t in let y = size_pos t in omega arith

pub write_full : (G : Graph) (s : List ℕ) (i : ℕ) (w : List ℕ) → length w ≡ 0 → Writes G s i w None
write_full G s i w e t r = let z = some_codes t in omega arith

module _ {sy : List ℕ} {T : ℕ} {ts s : List ℕ} {i : ℕ} (A : Asked sy T ts s i) where
  abbrev G : Graph
  G = graph sy ts

  pub write_var : (o : List ℕ) (r : ℕ) → r ≡ find s i → 0 < length o → 2 * T ≤ r → Writes (graph sy ts) s i (set o 0 (r - 2 * T + 256)) (Some 1)
  unfolding codes
  write_var o r e h l t (rvar v q) =
      let z : r - 2 * T + 256 ≡ 256 + (find s i - length ts) = let y = A.lt in omega arith in
      subst (λ (u : Term). (1 ≡ length (codes u)) × (take 1 (set o 0 (r - 2 * T + 256)) ≡ codes u)) (sym q) (refl, take_one o _ h ∙ ap (λ (x : ℕ). x ∷ []) z)
  write_var o r e h l t (rsym v k q) = absurd (let y = A.lt in omega arith)

  abbrev pub root_args : List ℕ
  root_args = args_at sy ts (suc (find s i)) (arity_of sy (tok ts (find s i)))

  pub args_start : (o : List ℕ) (r x n : ℕ) → r ≡ find s i → r < 2 * T → 0 < length o → x ≡ tok ts r → n ≡ arity_of sy x
      → Args (graph sy ts) s (set o 0 x) 1 (tok ts (find s i)) root_args (args_at sy ts (r + 1) (n - 0))
  unfolding codes_all
  args_start o r x n e h l ex en = go A.read.1
    where
      there : root_args ≡ args_at sy ts (r + 1) (n - 0)
      there =
          let y : r + 1 ≡ suc r = omega arith in
          let z : n - 0 ≡ n = omega arith in
          rw (y, z, en, ex, e)

      go : {t : Term} → Reads (graph sy ts) s i t → Args (graph sy ts) s (set o 0 x) 1 (tok ts (find s i)) root_args (args_at sy ts (r + 1) (n - 0))
      go (rvar v q) = absurd (let y = A.lt in omega arith)
      go (rsym {us = us} v k q) =
          record {
            all = us;
            done = [];
            rest = us;
            whole = refl;
            reads = k;
            left = subst (λ (z : List ℕ). ReadsAll (graph sy ts) s z us) there k;
            text = take_one o x l ∙ ap (λ (z : ℕ). z ∷ []) (ex ∙ ap (tok ts) e);
            inn = let y = length-set o 0 x in omega arith;
          }

  -- whatever is read of i, its tokens are those of the arguments
  codes_of : (w : List ℕ) (e : ℕ) (us : List ℕ) → find s i < 2 * T → (P : Args (graph sy ts) s w e (tok ts (find s i)) root_args us) → (t : Term) → Reads (graph sy ts) s i t → codes t ≡ tok ts (find s i) ∷ codes_all P.all
  codes_of w e us h P t (rvar v q) = absurd (let y = A.lt in omega arith)
  codes_of w e us h P t (rsym {us = vs} v k q) =
      ap codes q ∙ codes_applied (con (tok ts (find s i))) vs
      ∙ (unfold codes in ap (tok ts (find s i) ∷◌) (ap codes_all (all_det (graph sy ts) s k root_args P.all (pairs_refl (Eqv s) (λ a. refl) root_args) P.reads)))

  pub args_end : (w : List ℕ) (e : ℕ) → find s i < 2 * T → Args (graph sy ts) s w e (tok ts (find s i)) root_args [] → Writes (graph sy ts) s i w (Some e)
  args_end w e h P t r = go P.rest P.whole P.left
    where
      go : (x : List Term) → P.all ≡ P.done ++ x → ReadsAll (graph sy ts) s [] x → Wrote w (Some e) (codes t)
      go [] q rnil =
          let c : take e w ≡ codes t = P.text ∙ sym (codes_of w e [] h P t r ∙ ap (λ (z : List Term). tok ts (find s i) ∷ codes_all z) (q ∙ append-nil P.done)) in
          (sym (length-take-le e w P.inn) ∙ ap length c, c)
      go (_ ∷ _) q r = elim r [ ]

  -- no room for an argument: none for the whole
  pub write_short : (w v : List ℕ) (e : ℕ) (us : List ℕ) → find s i < 2 * T → (P : Args (graph sy ts) s w e (tok ts (find s i)) root_args us)
      → length v < length (tok ts (find s i) ∷ codes_all P.all) → Writes (graph sy ts) s i v None
  write_short w v e us h P l t r = let c = ap length (codes_of w e us h P t r) in omega arith

-- the token of the root is written
pub args_some : {G : Graph} {s w : List ℕ} {e f : ℕ} {xs us : List ℕ} → Args G s w e f xs us → 0 < e
args_some {w = w} {e = e} P = let z = ap length P.text in let y = length-take-le e w P.inn in omega arith

-- one more argument, which is written behind the first e codes
module _ (G : Graph) (s w : List ℕ) (e f : ℕ) (xs : List ℕ) (a : ℕ) (us : List ℕ) (P : Args G s w e f xs (a ∷ us)) where
  pub args_read : (t : Term) × Reads G s a t
  args_read = go P.left
    where
      go : {x : List Term} → ReadsAll G s (a ∷ us) x → (t : Term) × Reads G s a t
      go (rcons {t = t} h k) = (t, h)

  grown : (done : List Term) (t : Term) → codes_all (done ++ (t ∷ [])) ≡ codes_all done ++ codes t
  unfolding codes_all
  grown done t = codes_all_append done (t ∷ []) ∙ ap (codes_all done ++◌) (append-nil (codes t))

  pub args_next : (v : List ℕ) (n : ℕ) → length v ≡ length w - e → Writes G s a v (Some n) → Args G s (take e w ++ v) (e + n) f xs us
  args_next v n lv W = go P.rest P.whole P.left
    where
      long : length (take e w) ≡ e
      long = length-take-le e w P.inn

      fits : {l : List ℕ} → Wrote v (Some n) l → n ≤ length v
      fits u = let z = ap length u.1 in let y = length-take n v in omega (arith, u.0)

      go : (x : List Term) → P.all ≡ P.done ++ x → ReadsAll G s (a ∷ us) x → Args G s (take e w ++ v) (e + n) f xs us
      go x q (rcons {t = t} {us = vs} h k) =
          let u = W t h in
          record {
            all = P.all;
            done = P.done ++ (t ∷ []);
            rest = vs;
            whole = q ∙ sym (append_assoc P.done (t ∷ []) vs);
            reads = P.reads;
            left = k;
            text =
                ap (λ (k : ℕ). take (k + n) (take e w ++ v)) (sym long) ∙ take-append-add (take e w) v n
                ∙ ap₂ ◌++◌ P.text u.1
                ∙ ap (f ∷◌) (sym (grown P.done t));
            inn = let y = length-append (take e w) v in let z = fits u in let i = P.inn in omega (arith, long);
          }

  -- with it there is room for the codes so far, and one stands there
  pub args_room : (v : List ℕ) (n : ℕ) → length v ≡ length w - e → Writes G s a v (Some n) → e + n ≤ length w
  args_room v n lv W = let x = args_next v n lv W in let y = x.inn in let l = length-append (take e w) v in let z = length-take-le e w P.inn in let i = P.inn in omega arith

  -- no room for it: no room for the whole
  pub args_short : (v : List ℕ) → length v ≡ length w - e → Writes G s a v None → length w < length (f ∷ codes_all P.all)
  args_short v lv W = go P.rest P.whole P.left
    where
      go : (x : List Term) → P.all ≡ P.done ++ x → ReadsAll G s (a ∷ us) x → length w < length (f ∷ codes_all P.all)
      go x q (rcons {t = t} {us = vs} h k) =
          let u = W t h in
          let z = ap length P.text in
          let l = length-take-le e w P.inn in
          let i = P.inn in
          let y : length (codes_all P.all) ≡ length (codes_all P.done) + (length (codes t) + length (codes_all vs)) = ap (λ (v : List Term). length (codes_all v)) q ∙ ap length (codes_all_append P.done (t ∷ vs)) ∙ length-append (codes_all P.done) (codes_all (t ∷ vs)) ∙ ap (λ (n : ℕ). length (codes_all P.done) + n) (unfold codes_all in length-append (codes t) (codes_all vs)) in
          omega arith

-- ---- the same, by places
module _ (sy ts : List ℕ) {s w : List ℕ} {e f : ℕ} {xs : List ℕ} (q n k : ℕ) {a : ℕ} (l : k < n) (lq : q ≤ length ts) (ea : a ≡ node ts q) (P : Args (graph sy ts) s w e f xs (args_at sy ts q (n - k))) where
  tail : List ℕ
  tail = map (node ts) (first (n - (k + 1)) (drop 1 (starts_at sy ts q)) (length ts))

  cons : Args (graph sy ts) s w e f xs (a ∷ tail)
  unfolding tail
  cons =
      let z : n - k ≡ suc (n - (k + 1)) = omega arith in
      subst (λ (us : List ℕ). Args (graph sy ts) s w e f xs us) (ap (args_at sy ts q) z ∙ args_head sy ts q (n - (k + 1)) lq ∙ ap (◌∷ map (node ts) (first (n - (k + 1)) (drop 1 (starts_at sy ts q)) (length ts))) (sym ea)) P

  pub places_read : (t : Term) × Reads (graph sy ts) s a t
  places_read = args_read (graph sy ts) s w e f xs a tail cons

  pub places_room : (v : List ℕ) (m : ℕ) → length v ≡ length w - e → Writes (graph sy ts) s a v (Some m) → e + m ≤ length w
  places_room v m lv W = args_room (graph sy ts) s w e f xs a tail cons v m lv W

  pub places_next : (v : List ℕ) (m q' : ℕ) → length v ≡ length w - e → Past sy ts q q' → Writes (graph sy ts) s a v (Some m) → Args (graph sy ts) s (take e w ++ v) (e + m) f xs (args_at sy ts q' (n - (k + 1)))
  places_next v m q' lv h W =
      let z : n - k ≡ suc (n - (k + 1)) = omega arith in
      args_next (graph sy ts) s w e f xs a (args_at sy ts q' (n - (k + 1)))
      (subst (λ (us : List ℕ). Args (graph sy ts) s w e f xs us) (ap (args_at sy ts q) z ∙ args_cons sy ts q q' (n - (k + 1)) lq h ∙ ap (◌∷ args_at sy ts q' (n - (k + 1))) (sym ea)) P)
      v m lv W

module _ {sy : List ℕ} {T : ℕ} {ts s : List ℕ} {i : ℕ} (A : Asked sy T ts s i) (h : find s i < 2 * T) {w : List ℕ} {e : ℕ} (q n k : ℕ)
    (P : Args (graph sy ts) s w e (tok ts (find s i)) (root_args A) (args_at sy ts q (n - k)))
  where
    pub places_short : (u v : List ℕ) (a : ℕ) → k < n → q ≤ length ts → a ≡ node ts q → length u ≡ length w → length v ≡ length w - e → Writes (graph sy ts) s a v None → Writes (graph sy ts) s i u None
    places_short u v a l lq ea lu lv W =
        let C = cons sy ts q n k l lq ea P in
        let z = args_short (graph sy ts) s w e (tok ts (find s i)) (root_args A) a _ C v lv W in
        write_short A w u e _ h C (omega arith)

    no_more : args_at sy ts q 0 ≡ []
    unfolding args_at
    no_more = refl

    pub places_end : n ≤ k → Writes (graph sy ts) s i w (Some e)
    places_end l =
        let z : n - k ≡ 0 = omega arith in
        args_end A w e h (subst (λ (us : List ℕ). Args (graph sy ts) s w e (tok ts (find s i)) (root_args A) us) (ap (args_at sy ts q) z ∙ no_more) P)
