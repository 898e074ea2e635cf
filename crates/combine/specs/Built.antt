-- The text of the conclusion and the kept hypotheses as it grows fact by fact, and the laws that the code's proofs cite. Assumes nothing.
use Rattle.std.specs.Prelude.{ℕ, zero, suc, ◌+◌, ◌*◌, ◌-◌, ◌≤◌, ◌<◌, Bool, ◌≡◌, refl, ◌⊎◌, take, get_or, set, drop, Result, Ok, Err, Some, None, All}
use Rattle.std.proofs.Common.{arith, ◌∙◌, subst, inr, length-append, length-take, length-take-le, get_or-take, take_at, take-take, get_or-set_same, get_or-set_other}
use Rattle.std.proofs.Math.Bool.{true, false}
use mathlib.Core.List.{List, [], ◌∷◌, ◌++◌, append_assoc, append-nil}
use Rattle.std.proofs.Math.Path.{ap, sym}
use Rattle.std.proofs.Math.Logic.{inl}
use Rattle.std.proofs.Math.ListN.{length}
use Rattle.std.proofs.Math.Seq.{take-append-add}
use Rattle.std.proofs.lemmas.List.{take-append-le}
use borrow.Rule.Slice.PartMut.{put_mid}
use Rattle.std.proofs.lemmas.List.Elements.{All-from_get_or}
use Rattle.model.specs.Term.{Term, con, ◌·◌, size}
use Rattle.model.specs.Rule.{among, firsts, size_all}
use Rattle.records.specs.Tokens.{applied}
use Rattle.records.specs.Symbols.{arity_of}
use Rattle.unify.specs.Forest.{Down, find, find_le}
use Rattle.unify.specs.Closure.{Every, Graph}
use Rattle.unify.specs.Read.{Reads, rvar, rsym, ReadsAll, rnil, rcons}
use Rattle.unify.specs.Inside.{Read}
use Rattle.unify.specs.Nodes.{graph, tok, args_in, args_length}
use Rattle.unify.specs.Facts.{facts, Given, facts_length}
use Rattle.unify.specs.Writer.{codes, codes_all, codes_size, codes_all_append, Writes, Wrote}
use Rattle.unify.specs.Parts.{WroteFrom, WritesFrom}
use Rattle.combine.specs.declared.TooLarge.{TooLarge}
use Rattle.combine.specs.Codes.{Keeps, kvar, kcon, kapp, KeepAll, keep_append, all_size}
use Rattle.combine.specs.Copies.{Says, Copy, Marks, copy_says, firsts_old, firsts_new, more_size, more_count, among_size, size_all_append}

-- After a unifier was found: every node can be read.
pub record Site (sy : List ℕ) (T : ℕ) (a b s : List ℕ) : Type 0 where
  pub given : Given T a b
  pub down : Down s
  pub len : length s ≡ 2 * T + 128
  pub bytes : (p : ℕ) → tok (facts T a b) p < 256
  pub reads : (i : ℕ) → Read (graph sy (facts T a b)) s i

-- ---- what is read keeps to the arities
keep_applied : (sy : List ℕ) (t : Term) (us : List Term) → Keeps sy (length us) t → KeepAll sy us → Keeps sy 0 (applied t us)
unfolding applied
keep_applied sy t [] h k = h
keep_applied sy t (u ∷ us) h k = keep_applied sy (t · u) us (kapp h k.0) k.1

module _ (sy ts s : List ℕ) where
  reads_length : {xs : List ℕ} {us : List Term} → ReadsAll (graph sy ts) s xs us → length us ≡ length xs
  reads_length rnil = refl
  reads_length (rcons h k) = ap suc (reads_length k)

  module _ (d : Down s) (bytes : (p : ℕ) → tok ts p < 256) where
    mutual
      pub keep_one : {i : ℕ} {t : Term} → i < length ts + 128 → Reads (graph sy ts) s i t → Keeps sy 0 t
      keep_one l (rvar {i = i} v q) = subst (Keeps sy 0) (sym q) (kvar (omega (arith, find_le s d i)))
      keep_one l (rsym {i = i} {us = us} v h q) =
          let f = tok ts (find s i) in
          let e : length us ≡ arity_of sy f = reads_length h ∙ args_length sy ts (suc (find s i)) (arity_of sy f) in
          subst (Keeps sy 0) (sym q)
          (keep_applied sy (con f) us (subst (λ (n : ℕ). Keeps sy n (con f)) (sym e) (kcon (bytes (find s i)))) (keep_all (args_in sy ts (suc (find s i)) (arity_of sy f) v) h))

      keep_all : {xs : List ℕ} {us : List Term} → Every (λ a. a < length ts + 128) xs → ReadsAll (graph sy ts) s xs us → KeepAll sy us
      keep_all l rnil = tt
      keep_all l (rcons h k) = (keep_one l.0 h, keep_all l.1 k)

  reads_snoc : {xs : List ℕ} {us : List Term} {i : ℕ} {t : Term} → ReadsAll (graph sy ts) s xs us → Reads (graph sy ts) s i t → ReadsAll (graph sy ts) s (xs ++ (i ∷ [])) (us ++ (t ∷ []))
  reads_snoc rnil r = rcons r rnil
  reads_snoc (rcons h k) r = rcons h (reads_snoc k r)

  reads_more : {xs : List ℕ} {us : List Term} → ((i : ℕ) → Read (graph sy ts) s i) → (ys : List ℕ) → ReadsAll (graph sy ts) s xs us → (vs : List Term) × ReadsAll (graph sy ts) s (xs ++ ys) (us ++ vs)
  reads_more all [] rnil = ([], rnil)
  reads_more all (y ∷ ys) rnil = let w = reads_more all ys rnil in ((all y).0 ∷ w.0, rcons (all y).1 w.1)
  reads_more all ys (rcons h k) = let w = reads_more all ys k in (w.0, rcons h w.1)

-- ---- the state
-- The text up to e holds the conclusion and the n kept hypotheses; the facts of the nodes ns went in, the conclusion first.
pub record Built (sy ts s : List ℕ) (T hyps : ℕ) (o starts : List ℕ) (e n : ℕ) (ns : List ℕ) : Type 0 where
  pub concl : Term
  pub done : List Term
  pub reads : ReadsAll (graph sy ts) s ns (concl ∷ done)
  pub keeps : KeepAll sy (concl ∷ firsts [] done)
  pub text : take e o ≡ codes_all (concl ∷ firsts [] done)
  pub end : e ≡ size concl + size_all (firsts [] done)
  pub count : n ≡ length (firsts [] done)
  pub marks : Marks starts 0 (size concl) (firsts [] done)
  pub long : e ≤ T
  pub few : n ≤ hyps

-- The facts of the nodes ns make too large a rule.
pub record Over (sy ts s : List ℕ) (T hyps : ℕ) (ns : List ℕ) : Type 0 where
  pub concl : Term
  pub done : List Term
  pub reads : ReadsAll (graph sy ts) s ns (concl ∷ done)
  pub over : (T < size concl + size_all (firsts [] done)) ⊎ (hyps < length (firsts [] done))

abbrev pub Outcome : List ℕ → List ℕ → List ℕ → ℕ → ℕ → List ℕ → List ℕ → ℕ → ℕ → List ℕ → Result (Unit {0}) TooLarge → Type 0
Outcome sy ts s T hyps o starts e n ns (Ok _) = Built sy ts s T hyps o starts e n ns
Outcome sy ts s T hyps o starts e n ns (Err _) = Over sy ts s T hyps ns

marks_le : (starts : List ℕ) (j p : ℕ) (K : List Term) → Marks starts j p K → (i : ℕ) → i < length K → get_or starts (j + i) 0 ≤ p + size_all K
unfolding size_all
marks_le starts j p [] m i l = absurd (omega arith)
marks_le starts j p (u ∷ K) m zero l = let z : j + 0 ≡ j = omega arith in omega (arith, m.0, ap (λ (k : ℕ). get_or starts k 0) z)
marks_le starts j p (u ∷ K) m (suc i) l =
    let z : suc j + i ≡ j + suc i = omega arith in
    omega (arith, marks_le starts (suc j) (p + size u) K m.1 i (omega arith), ap (λ (k : ℕ). get_or starts k 0) z)

-- a start more, behind those that there are
marks_set : (starts : List ℕ) (j p : ℕ) (K : List Term) (t : Term) (e : ℕ) → Marks starts j p K → j + length K < length starts → e ≡ p + size_all K → Marks (set starts (j + length K) e) j p (K ++ (t ∷ []))
unfolding size_all
marks_set starts j p [] t e m l q = let z : j + 0 ≡ j = omega arith in (rw z (get_or-set_same starts j e 0 (omega arith) ∙ omega arith), tt)
marks_set starts j p (u ∷ K) t e m l q =
    let z : suc j + length K ≡ j + suc (length K) = omega arith in (
      get_or-set_other starts (j + suc (length K)) j e 0 (λ y. omega arith) ∙ m.0,
      subst (λ (k : ℕ). Marks (set starts k e) (suc j) (p + size u) (K ++ (t ∷ []))) z (marks_set starts (suc j) (p + size u) K t e m.1 (omega arith) (omega arith)),
    )

-- ---- the codes of one term behind what stands
-- the text o, where w was written over the k places from e on, whose first n are the codes of a term
put_codes : (o w : List ℕ) (e k n : ℕ) (l : List ℕ) → e ≤ length o → Wrote w (Some n) l → take (e + n) (put_mid e k o w) ≡ take e o ++ l
put_codes o w e k n l h W =
    let z : length (take e o) ≡ e = length-take-le e o h in
    let y : n ≤ length w = omega (arith, W.0, ap length W.1, length-take n w) in
    ap (λ (x : ℕ). take (x + n) (put_mid e k o w)) (sym z)
    ∙ take-append-add (take e o) (w ++ drop k (drop e o)) n
    ∙ ap (take e o ++◌) (take-append-le n w (drop k (drop e o)) y ∙ W.1)

-- what is said of w is said of the whole text, where w was put over the k places from e on, or had no room
put_behind : (G : Graph) (s : List ℕ) (i : ℕ) (o w : List ℕ) (e k n cap f : ℕ) → e ≤ length o → cap ≡ e + length w → f ≡ e + n → Writes G s i w (Some n) → WritesFrom G s i cap o (put_mid e k o w) e f
put_behind G s i o w e k n cap f h q z W t r =
    let c = W t r in
    record {
      fits = λ _. (z ∙ ap (e +◌) c.0, ap (λ (x : ℕ). take x (put_mid e k o w)) z ∙ put_codes o w e k n (codes t) h c);
      short = λ y. absurd (omega (arith, c.0, ap length c.1, length-take n w));
      most = omega (arith, c.0, ap length c.1, length-take n w);
    }

no_room : (G : Graph) (s : List ℕ) (i : ℕ) (o w : List ℕ) (e cap : ℕ) → cap ≡ e + length w → Writes G s i w None → WritesFrom G s i cap o o e (cap + 1)
no_room G s i o w e cap q W t r = record { fits = λ z. absurd (omega arith); short = λ z. omega (arith, W t r); most = omega arith }

-- ---- the conclusion
-- The text o' holds the codes of the node from its beginning on, where there is room for them.
module _ (sy : List ℕ) (T : ℕ) (a b s : List ℕ) (S : Site sy T a b s) (o o' : List ℕ) (i j e : ℕ) (at : j ≡ i) (l : j < 2 * T + 128) (W : WritesFrom (graph sy (facts T a b)) s j T o o' 0 e) where
  abbrev ts : List ℕ
  ts = facts T a b

  t : Term
  t = (S.reads i).0

  r : Reads (graph sy ts) s i t
  unfolding t
  r = (S.reads i).1

  written : WroteFrom T o o' 0 e (codes t)
  written = W t (subst (λ (k : ℕ). Reads (graph sy ts) s k t) (sym at) r)

  pub start_long_from : T < e → (hyps : ℕ) → Over sy ts s T hyps (i ∷ [])
  unfolding size_all firsts
  start_long_from g hyps = record { concl = t; done = []; reads = rcons r rnil; over = inl (omega (arith, written.short g, codes_size t)) }

  pub start_fits_from : e ≤ T → (hyps : ℕ) (starts : List ℕ) → Built sy ts s T hyps o' starts e 0 (i ∷ [])
  unfolding size_all firsts codes_all
  start_fits_from g hyps starts =
      let f = written.fits g in
      record {
        concl = t;
        done = [];
        reads = rcons r rnil;
        keeps = (keep_one sy ts s S.down S.bytes (omega (arith, facts_length T a b S.given)) r, tt);
        text = f.1 ∙ sym (append-nil (codes t));
        end = omega (arith, f.0, codes_size t);
        count = refl;
        marks = tt;
        long = g;
        few = omega arith;
      }

-- The node was written into w, and w over the first T places of the text o.
module _ (sy : List ℕ) (T : ℕ) (a b s : List ℕ) (S : Site sy T a b s) (i : ℕ) (l : i < 2 * T + 128) (o w : List ℕ) (room : length w ≡ T) where
  pub start_long : Writes (graph sy (facts T a b)) s i w None → (hyps : ℕ) → Over sy (facts T a b) s T hyps (i ∷ [])
  start_long W hyps = start_long_from sy T a b s S o o i i (T + 1) refl l (no_room (graph sy (facts T a b)) s i o w 0 T (omega arith) W) (omega arith) hyps

  pub start_fits : (e : ℕ) → Writes (graph sy (facts T a b)) s i w (Some e) → (hyps : ℕ) (starts : List ℕ) → Built sy (facts T a b) s T hyps (put_mid 0 T o w) starts e 0 (i ∷ [])
  start_fits e W hyps starts =
      let R = S.reads i in
      let C = W R.0 R.1 in
      start_fits_from sy T a b s S o (put_mid 0 T o w) i i e refl l (put_behind (graph sy (facts T a b)) s i o w 0 T e T e (omega arith) (omega arith) (omega arith) W) (omega (arith, C.0, ap length C.1, length-take e w)) hyps starts

-- ---- a hypothesis
-- The text o' is as o up to e, and holds the codes of the node from there on, where there is room for them.
module _ (sy : List ℕ) (T hyps : ℕ) (a b s : List ℕ) (S : Site sy T a b s) (o o' starts : List ℕ) (e n i j f : ℕ) (at : j ≡ i) (l : j < 2 * T + 128)
    (W : WritesFrom (graph sy (facts T a b)) s j (e + T) o o' e f) (ns : List ℕ) (B : Built sy (facts T a b) s T hyps o starts e n ns)
  where
    abbrev ts' : List ℕ
    ts' = facts T a b

    u : Term
    u = (S.reads i).0

    v : Reads (graph sy ts') s i u
    unfolding u
    v = (S.reads i).1

    ku : Keeps sy 0 u
    ku = keep_one sy ts' s S.down S.bytes (omega (arith, facts_length T a b S.given)) v

    x : WroteFrom (e + T) o o' e f (codes u)
    x = W u (subst (λ (k : ℕ). Reads (graph sy ts') s k u) (sym at) v)

    K : List Term
    K = firsts [] B.done

    snoc : ReadsAll (graph sy ts') s (ns ++ (i ∷ [])) (B.concl ∷ (B.done ++ (u ∷ [])))
    snoc = reads_snoc sy ts' s B.reads v

    -- an instance longer than T tokens is none of those kept
    pub add_long_from : e + T < f → Over sy ts' s T hyps (ns ++ (i ∷ []))
    unfolding K size_all
    add_long_from g =
        let z : T < size u = omega (arith, x.short g, codes_size u) in
        let y = B.end in
        let m = B.long in
        record { concl = B.concl; done = B.done ++ (u ∷ []); reads = snoc; over = inl (go z (among u K) refl) }
      where
        go : T < size u → (c : Bool) → among u (firsts [] B.done) ≡ c → T < size B.concl + size_all (firsts [] (B.done ++ (u ∷ [])))
        go z true q = absurd (omega (arith, among_size u (firsts [] B.done) q, B.end, B.long))
        go z false q = omega (arith, ap size_all (firsts_new B.done u q), size_all_append (firsts [] B.done) (u ∷ []))

    module _ (g : f ≤ e + T) where
      size_is : f ≡ e + size u
      size_is = omega (arith, (x.fits g).0, codes_size u)

      pub add_grows : e ≤ f
      add_grows = omega (arith, size_is)

      pub copy_here_from : length o' ≡ 2 * T → e + (f - e) ≤ length o'
      copy_here_from d = omega (arith, B.long, size_is)

      text_long : length (take e o) ≡ e
      text_long = ap length B.text ∙ all_size (B.concl ∷ firsts [] B.done) ∙ (unfold size_all in sym B.end)

      -- the text before stays
      text_same : take e o' ≡ take e o
      text_same = sym (take-take e f o' (omega (arith, size_is))) ∙ ap (take e) (x.fits g).1 ∙ take_at (take e o) (codes u) e text_long

      all_text : take f o' ≡ codes B.concl ++ (codes_all (firsts [] B.done) ++ codes u)
      all_text = (x.fits g).1 ∙ ap (◌++ codes u) B.text ∙ (unfold codes_all in append_assoc (codes B.concl) (codes_all (firsts [] B.done)) (codes u))

      test : (c : Bool) → Says (Copy o' starts n e (f - e)) c → among u (firsts [] B.done) ≡ c
      test c h =
          let z : f - e ≡ size u = omega (arith, size_is) in
          copy_says sy o' starts e u ku (codes B.concl) (firsts [] B.done) B.keeps.1 n B.count
          (omega (arith, codes_size B.concl, B.end)) (subst (λ (k : ℕ). Marks starts 0 k (firsts [] B.done)) (sym (codes_size B.concl)) B.marks)
          (ap (λ (k : ℕ). take k o') (sym size_is) ∙ all_text) c (subst (λ (k : ℕ). Says (Copy o' starts n e k) c) z h)

      -- a copy: nothing is kept of it
      pub add_copy_from : (c : Bool) → c ≡ true → Says (Copy o' starts n e (f - e)) c → Built sy ts' s T hyps o' starts e n (ns ++ (i ∷ []))
      add_copy_from c q h =
          let z : firsts [] (B.done ++ (u ∷ [])) ≡ firsts [] B.done = firsts_old B.done u (test c h ∙ q) in
          record {
            concl = B.concl;
            done = B.done ++ (u ∷ []);
            reads = snoc;
            keeps = rw z B.keeps;
            text = text_same ∙ B.text ∙ ap (λ (l : List Term). codes_all (B.concl ∷ l)) (sym z);
            end = rw z B.end;
            count = rw z B.count;
            marks = rw z B.marks;
            long = B.long;
            few = B.few;
          }

      module _ (c : Bool) (q : c ≡ false) (h : Says (Copy o' starts n e (f - e)) c) where
        new : firsts [] (B.done ++ (u ∷ [])) ≡ firsts [] B.done ++ (u ∷ [])
        new = firsts_new B.done u (test c h ∙ q)

        new_size : size_all (firsts [] (B.done ++ (u ∷ []))) ≡ size_all (firsts [] B.done) + size u
        unfolding size_all
        new_size = omega (arith, ap size_all new, size_all_append (firsts [] B.done) (u ∷ []))

        new_count : length (firsts [] (B.done ++ (u ∷ []))) ≡ n + 1
        new_count = omega (arith, ap length new, length-append (firsts [] B.done) (u ∷ []), B.count)

        pub add_large_from : T < f → Over sy ts' s T hyps (ns ++ (i ∷ []))
        add_large_from k = record { concl = B.concl; done = B.done ++ (u ∷ []); reads = snoc; over = inl (omega (arith, new_size, size_is, B.end)) }

        pub add_many_from : hyps ≤ n → Over sy ts' s T hyps (ns ++ (i ∷ []))
        add_many_from k = record { concl = B.concl; done = B.done ++ (u ∷ []); reads = snoc; over = inr (omega (arith, new_count)) }

        pub add_kept_from : f ≤ T → n < hyps → hyps ≤ length starts → (starts' : List ℕ) → starts' ≡ set starts n e → Built sy ts' s T hyps o' starts' f (n + 1) (ns ++ (i ∷ []))
        add_kept_from k m room starts' st =
            record {
              concl = B.concl;
              done = B.done ++ (u ∷ []);
              reads = snoc;
              keeps = rw new (B.keeps.0, keep_append sy (firsts [] B.done) (u ∷ []) B.keeps.1 (ku, tt));
              text = all_text ∙ (unfold codes_all in ap (codes B.concl ++◌) (ap (codes_all (firsts [] B.done) ++◌) (sym (append-nil (codes u))) ∙ sym (codes_all_append (firsts [] B.done) (u ∷ [])) ∙ ap codes_all (sym new)));
              end = omega (arith, new_size, size_is, B.end);
              count = sym new_count;
              marks =
                  let z : 0 + length (firsts [] B.done) ≡ n = omega (arith, B.count) in
                  rw (new, st) (subst (λ (k : ℕ). Marks (set starts k e) 0 (size B.concl) (firsts [] B.done ++ (u ∷ []))) z
                  (marks_set starts 0 (size B.concl) (firsts [] B.done) u e B.marks (omega (arith, B.count)) B.end));
              long = k;
              few = omega arith;
            }

-- The node was written into w, and w over the places of the text o from e on.
module _ (sy : List ℕ) (T hyps : ℕ) (a b s : List ℕ) (S : Site sy T a b s) (o w starts : List ℕ) (e n i : ℕ) (l : i < 2 * T + 128) (room : length w ≡ T) (ns : List ℕ) (B : Built sy (facts T a b) s T hyps o starts e n ns) where
  abbrev G : Graph
  G = graph sy (facts T a b)

  pub add_long : Writes (graph sy (facts T a b)) s i w None → Over sy (facts T a b) s T hyps (ns ++ (i ∷ []))
  add_long W = add_long_from sy T hyps a b s S o o starts e n i i (e + T + 1) refl l (no_room G s i o w e (e + T) (omega arith) W) ns B (omega arith)

  module _ (m k : ℕ) (W : Writes (graph sy (facts T a b)) s i w (Some k)) (space : length o ≡ 2 * T) where
    abbrev f : ℕ
    f = e + k

    abbrev o' : List ℕ
    o' = put_mid e m o w

    pub copy_short : k ≤ T
    copy_short = let R = S.reads i in omega (arith, (W R.0 R.1).0, ap length (W R.0 R.1).1, length-take k w)

    -- the instance stands within the text, and no start behind it
    pub copy_here : e + k ≤ length o'
    copy_here = omega (arith, B.long, copy_short, length-take-le e o (omega (arith, B.long)), length-append (take e o) (w ++ drop m (drop e o)), length-append w (drop m (drop e o)))

    pub copy_before : n ≤ length starts → All (λ x. x ≤ e) (take n starts)
    copy_before h =
        All-from_get_or (λ x. x ≤ e) (take n starts) 0
        (λ k q. (let z : 0 + k ≡ k = omega arith in let w : length (take n starts) ≡ n = length-take-le n starts h in omega (arith, get_or-take n starts k 0 (omega arith), marks_le starts 0 (size B.concl) (firsts [] B.done) B.marks k (omega (arith, B.count)), ap (λ (m : ℕ). get_or starts m 0) z, B.end)))

    behind : WritesFrom G s i (e + T) o o' e f
    behind = put_behind G s i o w e m k (e + T) f (omega (arith, B.long)) (omega arith) refl W

    here : f ≤ e + T
    here = omega (arith, copy_short)

    says_from : (c : Bool) → Says (Copy o' starts n e k) c → Says (Copy o' starts n e (f - e)) c
    says_from c h = let z : k ≡ f - e = omega arith in subst (λ (x : ℕ). Says (Copy o' starts n e x) c) z h

    -- a copy: nothing is kept of it
    pub add_copy : (c : Bool) → c ≡ true → Says (Copy o' starts n e k) c → Built sy (facts T a b) s T hyps o' starts e n (ns ++ (i ∷ []))
    add_copy c q h = add_copy_from sy T hyps a b s S o o' starts e n i i f refl l behind ns B here c q (says_from c h)

    module _ (c : Bool) (q : c ≡ false) (h : Says (Copy o' starts n e k) c) where
      pub add_large : T < f → Over sy (facts T a b) s T hyps (ns ++ (i ∷ []))
      add_large = add_large_from sy T hyps a b s S o o' starts e n i i f refl l behind ns B here c q (says_from c h)

      pub add_many : hyps ≤ n → Over sy (facts T a b) s T hyps (ns ++ (i ∷ []))
      add_many = add_many_from sy T hyps a b s S o o' starts e n i i f refl l behind ns B here c q (says_from c h)

      pub add_kept : f ≤ T → n < hyps → hyps ≤ length starts → (starts' : List ℕ) → starts' ≡ set starts n e → Built sy (facts T a b) s T hyps o' starts' f (n + 1) (ns ++ (i ∷ []))
      add_kept = add_kept_from sy T hyps a b s S o o' starts e n i i f refl l behind ns B here c q (says_from c h)

-- ---- later facts do not make it smaller
pub over_more : (sy ts s : List ℕ) (T hyps : ℕ) (ns ms : List ℕ) → ((i : ℕ) → Read (graph sy ts) s i) → Over sy ts s T hyps ns → Over sy ts s T hyps (ns ++ ms)
over_more sy ts s T hyps ns ms all v =
    let w = reads_more sy ts s all ms v.reads in
    record { concl = v.concl; done = v.done ++ w.0; reads = w.1; over = go w.0 v.over }
  where
    go : (x : List Term) → (T < size v.concl + size_all (firsts [] v.done)) ⊎ (hyps < length (firsts [] v.done))
        → (T < size v.concl + size_all (firsts [] (v.done ++ x))) ⊎ (hyps < length (firsts [] (v.done ++ x)))
    go x (inl h) = inl (omega (arith, more_size v.done x))
    go x (inr h) = inr (omega (arith, more_count v.done x))
