-- Copies: what is kept of a list that grows at its end, and how a text shows whether a term is among those kept. Assumes nothing.
use Prim.Native.Nat.{ℕ, zero, suc, ◌+◌, ◌-◌, ◌≤◌, ◌<◌}
use native.Mathlib.Omega.{arith}
use Rattle.std.proofs.Common.{add-zero, ap₂, ◌∙◌, length-append, take-append-drop, take_at, drop_at, take-take}
use Rattle.std.specs.Prelude.{Bool, ◌≡◌, drop}
use Rattle.std.specs.List.{list_any}
use Rattle.std.specs.Str.{bytes_eq}
use Rattle.std.proofs.Math.Bool.{true, false}
use mathlib.Core.List.{List, [], ◌∷◌, ◌++◌, append_assoc, append-nil}
use Rattle.std.proofs.Math.Path.{refl, ap, sym}
use Rattle.std.proofs.Math.ListN.{length, take, get_or}
use Rattle.model.specs.Term.{Term, same, size}
use Rattle.model.specs.Rule.{among, firsts, size_all}
use Rattle.theory.specs.Basics.{no_confusion}
use Rattle.theory.specs.Implies.{same_ok, SameOk}
use Rattle.records.specs.TokenLaws.{drop_take}
use Rattle.unify.specs.Writer.{codes, codes_all, codes_size}
use Rattle.combine.specs.Codes.{Keeps, KeepAll, same_start, all_size}

-- ---- what is kept
either : Bool → Bool → Bool
either true b = true
either false b = b

either_true : (a : Bool) → either a true ≡ true
unfolding either
either_true true = refl
either_true false = refl

-- the term, unless it is there already
unless : Bool → Term → List Term
unless true t = []
unless false t = t ∷ []

swap : (t x : Term) (seen F : List Term) → either (among t F) (among t (x ∷ seen)) ≡ either (among t (x ∷ F)) (among t seen)
unfolding among either
swap t x seen F = go (same t x)
  where
    go : (c : Bool) → unfold either in either (among t F) (elim c [ true ↦ true | false ↦ among t seen ]) ≡ either (elim c [ true ↦ true | false ↦ among t F ]) (among t seen)
    go true = either_true (among t F)
    go false = refl

firsts_snoc : (seen l : List Term) (t : Term) → firsts seen (l ++ (t ∷ [])) ≡ firsts seen l ++ unless (either (among t (firsts seen l)) (among t seen)) t
unfolding firsts among either unless
firsts_snoc seen [] t = go (among t seen)
  where
    go : (c : Bool) → unfold unless in elim c as (λ _. List Term) [ true ↦ [] | false ↦ t ∷ [] ] ≡ unless c t
    go true = refl
    go false = refl
firsts_snoc seen (x ∷ l) t = go (among x seen) (firsts_snoc seen l t) (firsts_snoc (x ∷ seen) l t)
  where
    go : (c : Bool) → firsts seen (l ++ (t ∷ [])) ≡ firsts seen l ++ unless (either (among t (firsts seen l)) (among t seen)) t
        → firsts (x ∷ seen) (l ++ (t ∷ [])) ≡ firsts (x ∷ seen) l ++ unless (either (among t (firsts (x ∷ seen) l)) (among t (x ∷ seen))) t
        → elim c as (λ _. List Term) [ true ↦ firsts seen (l ++ (t ∷ [])) | false ↦ x ∷ firsts (x ∷ seen) (l ++ (t ∷ [])) ]
        ≡ elim c [ true ↦ firsts seen l | false ↦ x ∷ firsts (x ∷ seen) l ] ++ unless (either (among t (elim c [ true ↦ firsts seen l | false ↦ x ∷ firsts (x ∷ seen) l ])) (among t seen)) t
    go true p q = p
    go false p q = ap (x ∷◌) (q ∙ ap (λ (b : Bool). firsts (x ∷ seen) l ++ unless b t) (swap t x seen (firsts (x ∷ seen) l)))

pub firsts_old : (l : List Term) (t : Term) → among t (firsts [] l) ≡ true → firsts [] (l ++ (t ∷ [])) ≡ firsts [] l
unfolding among
firsts_old l t e = firsts_snoc [] l t ∙ ap (λ (b : Bool). firsts [] l ++ unless (either b false) t) e ∙ (unfold either unless in append-nil (firsts [] l))

pub firsts_new : (l : List Term) (t : Term) → among t (firsts [] l) ≡ false → firsts [] (l ++ (t ∷ [])) ≡ firsts [] l ++ (t ∷ [])
unfolding among
firsts_new l t e = firsts_snoc [] l t ∙ ap (λ (b : Bool). firsts [] l ++ unless (either b false) t) e ∙ (unfold either unless in refl)

-- What is kept of the front stays kept.
pub firsts_front : (seen l m : List Term) → (x : List Term) × (firsts seen (l ++ m) ≡ firsts seen l ++ x)
unfolding firsts
firsts_front seen [] m = (firsts seen m, refl)
firsts_front seen (t ∷ l) m = go (among t seen) (firsts_front seen l m) (firsts_front (t ∷ seen) l m)
  where
    go : (c : Bool) → (x : List Term) × (firsts seen (l ++ m) ≡ firsts seen l ++ x) → (x : List Term) × (firsts (t ∷ seen) (l ++ m) ≡ firsts (t ∷ seen) l ++ x)
        → (x : List Term) × (elim c as (λ _. List Term) [ true ↦ firsts seen (l ++ m) | false ↦ t ∷ firsts (t ∷ seen) (l ++ m) ] ≡ elim c [ true ↦ firsts seen l | false ↦ t ∷ firsts (t ∷ seen) l ] ++ x)
    go true p q = p
    go false p q = (q.0, ap (t ∷◌) q.1)

pub size_all_append : (a b : List Term) → size_all (a ++ b) ≡ size_all a + size_all b
unfolding size_all
size_all_append [] b = omega arith
size_all_append (t ∷ a) b = omega (arith, size_all_append a b)

pub more_size : (l m : List Term) → size_all (firsts [] l) ≤ size_all (firsts [] (l ++ m))
more_size l m = let w = firsts_front [] l m in omega (arith, ap size_all w.1, size_all_append (firsts [] l) w.0)

pub more_count : (l m : List Term) → length (firsts [] l) ≤ length (firsts [] (l ++ m))
more_count l m = let w = firsts_front [] l m in omega (arith, ap length w.1, length-append (firsts [] l) w.0)

pub among_size : (t : Term) (l : List Term) → among t l ≡ true → size t ≤ size_all l
unfolding among size_all
among_size t [] e = no_confusion (cc)
among_size t (u ∷ l) e = go (same t u) (same_ok t u) e (among_size t l)
  where
    go : (c : Bool) → SameOk t u c → elim c as (λ _. Bool) [ true ↦ true | false ↦ among t l ] ≡ true → (among t l ≡ true → size t ≤ size_all l) → size t ≤ size u + size_all l
    go true h q rec = omega (arith, ap size h)
    go false h q rec = omega (arith, rec q)

-- ---- the text of what is kept
-- From number j on the starts of the terms are those that follow each other from p on.
abbrev pub Marks : List ℕ → ℕ → ℕ → List Term → Type 0
Marks starts j p [] = Unit {0}
Marks starts j p (t ∷ l) = (get_or starts j 0 ≡ p) × Marks starts (suc j) (p + size t) l

-- n codes at one of the first `count` starts are those at p
abbrev pub Copy : List ℕ → List ℕ → ℕ → ℕ → ℕ → Type 0
Copy o starts count p n = (j : ℕ) × (j < count) × (take n (drop (get_or starts j 0) o) ≡ take n (drop p o))

-- The same as a test of some starts.
abbrev pub has_copy : List ℕ → List ℕ → ℕ → ℕ → Bool
has_copy text starts p n = list_any (λ s. bytes_eq (take n (drop s text)) (take n (drop p text))) starts

-- what a test says
abbrev pub Says : Type 0 → Bool → Type 0
Says P true = P
Says P false = P → ⊥

module _ (sy : List ℕ) (o starts : List ℕ) (e : ℕ) (t : Term) (kt : Keeps sy 0 t) where
  -- what stands at a place p inside the text that ends behind t
  inside : (p : ℕ) (P x : List ℕ) → length P ≡ p → take (e + size t) o ≡ P ++ x → p ≤ e → take (size t) (drop p o) ≡ take (size t) x
  inside p P x l q h =
      let z : p + (e - p + size t) ≡ e + size t = omega arith in
      sym (take-take (size t) (e - p + size t) (drop p o) (omega arith))
      ∙ ap (take (size t)) (sym (drop_take p (e - p + size t) o) ∙ ap (λ (n : ℕ). drop p (take n o)) z ∙ ap (drop p) q ∙ drop_at P x p l)

  whole : (x : List ℕ) → take (size t) (codes t ++ x) ≡ codes t
  whole x = take_at (codes t) x (size t) (codes_size t)

  -- the new term itself
  pub last : (P : List ℕ) → length P ≡ e → take (e + size t) o ≡ P ++ codes t → take (size t) (drop e o) ≡ codes t
  last P l q = inside e P (codes t) l q (omega arith) ∙ ap (take (size t)) (sym (append-nil (codes t))) ∙ whole []

  -- one of those kept
  one_yes : (u : Term) → Keeps sy 0 u → (x : List ℕ) → take (size t) (codes u ++ x) ≡ codes t → t ≡ u
  one_yes u ku x q =
      same_start sy kt ku (drop (size t) (codes u ++ x)) x (ap (◌++ drop (size t) (codes u ++ x)) (sym q) ∙ take-append-drop (size t) (codes u ++ x))

  module _ (j : ℕ) (p : ℕ) (P : List ℕ) (u : Term) (l : List Term) (lp : length P ≡ p) (text : take (e + size t) o ≡ P ++ (codes_all (u ∷ l) ++ codes t)) (le : p + size_all (u ∷ l) ≤ e) where
    next : take (e + size t) o ≡ (P ++ codes u) ++ (codes_all l ++ codes t)
    unfolding codes_all
    next = text ∙ ap (P ++◌) (append_assoc (codes u) (codes_all l) (codes t)) ∙ sym (append_assoc P (codes u) (codes_all l ++ codes t))

    next_length : length (P ++ codes u) ≡ p + size u
    next_length = length-append P (codes u) ∙ ap₂ ◌+◌ lp (codes_size u)

    next_le : p + size u + size_all l ≤ e
    unfolding size_all
    next_le = omega arith

    here : take (size t) (drop p o) ≡ take (size t) (codes u ++ (codes_all l ++ codes t))
    unfolding codes_all
    here = inside p P (codes_all (u ∷ l) ++ codes t) lp text (omega arith) ∙ ap (take (size t)) (append_assoc (codes u) (codes_all l) (codes t))

  -- t is among those kept where a start says so
  copy_among :
      (K : List Term) → KeepAll sy K → (j p : ℕ) (P : List ℕ) → length P ≡ p → Marks starts j p K → take (e + size t) o ≡ P ++ (codes_all K ++ codes t) → p + size_all K ≤ e
      → (i : ℕ) → i < length K → take (size t) (drop (get_or starts (j + i) 0) o) ≡ codes t → among t K ≡ true
  unfolding among
  copy_among [] kk j p P lp m text le i li q = absurd (omega arith)
  copy_among (u ∷ l) kk j p P lp m text le zero li q = go (same t u) (same_ok t u)
    where
      z : t ≡ u
      z = one_yes u kk.0 (codes_all l ++ codes t)
          (sym (here j p P u l lp text le) ∙ ap (λ (n : ℕ). take (size t) (drop n o)) (sym (ap (λ (k : ℕ). get_or starts k 0) (add-zero j) ∙ m.0)) ∙ q)

      go : (c : Bool) → SameOk t u c → elim c as (λ _. Bool) [ true ↦ true | false ↦ among t l ] ≡ true
      go true h = refl
      go false h = absurd (h z)
  copy_among (u ∷ l) kk j p P lp m text le (suc i) li q =
      let y : suc j + i ≡ j + suc i = omega arith in
      go (same t u)
      (copy_among l kk.1 (suc j) (p + size u) (P ++ codes u) (next_length j p P u l lp text le) m.1 (next j p P u l lp text le) (next_le j p P u l lp text le) i (omega arith)
      (ap (λ (k : ℕ). take (size t) (drop (get_or starts k 0) o)) y ∙ q))
    where
      go : (c : Bool) → among t l ≡ true → elim c as (λ _. Bool) [ true ↦ true | false ↦ among t l ] ≡ true
      go true rest = refl
      go false rest = rest

  among_copy :
      (K : List Term) → (j p : ℕ) (P : List ℕ) → length P ≡ p → Marks starts j p K → take (e + size t) o ≡ P ++ (codes_all K ++ codes t) → p + size_all K ≤ e
      → among t K ≡ true → (i : ℕ) × (i < length K) × (take (size t) (drop (get_or starts (j + i) 0) o) ≡ codes t)
  unfolding among
  among_copy [] j p P lp m text le q = no_confusion (cc)
  among_copy (u ∷ l) j p P lp m text le q =
      go (same t u) (same_ok t u) q (among_copy l (suc j) (p + size u) (P ++ codes u) (next_length j p P u l lp text le) m.1 (next j p P u l lp text le) (next_le j p P u l lp text le))
    where
      go :
          (c : Bool) → SameOk t u c → elim c as (λ _. Bool) [ true ↦ true | false ↦ among t l ] ≡ true
          → (among t l ≡ true → (i : ℕ) × (i < length l) × (take (size t) (drop (get_or starts (suc j + i) 0) o) ≡ codes t))
          → (i : ℕ) × (i < suc (length l)) × (take (size t) (drop (get_or starts (j + i) 0) o) ≡ codes t)
      go true h e' rec = (
        0,
        omega arith,
        ap (λ (n : ℕ). take (size t) (drop n o)) (ap (λ (k : ℕ). get_or starts k 0) (add-zero j) ∙ m.0)
            ∙ here j p P u l lp text le
            ∙ ap (λ (v : Term). take (size t) (codes v ++ (codes_all l ++ codes t))) (sym h)
            ∙ whole (codes_all l ++ codes t),
      )
      go false h e' rec =
          let w = rec e' in
          let y : suc j + w.0 ≡ j + suc w.0 = omega arith in
          (suc w.0, omega (arith, w.1), ap (λ (k : ℕ). take (size t) (drop (get_or starts k 0) o)) (sym y) ∙ w.2)

  -- The test on the text is the test on the terms.
  module _ (P : List ℕ) (K : List Term) (kk : KeepAll sy K) (n : ℕ) (count : n ≡ length K) (lp : length P + size_all K ≡ e) (m : Marks starts 0 (length P) K) (text : take (e + size t) o ≡ P ++ (codes_all K ++ codes t)) where
    end : take (size t) (drop e o) ≡ codes t
    end = last (P ++ codes_all K) (length-append P (codes_all K) ∙ ap (length P +◌) (all_size K) ∙ lp) (text ∙ sym (append_assoc P (codes_all K) (codes t)))

    pub copy_says : (c : Bool) → Says (Copy o starts n e (size t)) c → among t K ≡ c
    copy_says true w =
        copy_among K kk 0 (length P) P refl m text (omega arith) w.0 (omega (arith, w.1))
        (ap (λ (k : ℕ). take (size t) (drop (get_or starts k 0) o)) (let z : 0 + w.0 ≡ w.0 = omega arith in z) ∙ w.2 ∙ end)
    copy_says false w = go (among t K) refl
      where
        go : (c : Bool) → among t K ≡ c → c ≡ false
        go false q = refl
        go true q =
            let v = among_copy K 0 (length P) P refl m text (omega arith) q in
            absurd (w (v.0, omega (arith, v.1), ap (λ (k : ℕ). take (size t) (drop (get_or starts k 0) o)) (let z : v.0 ≡ 0 + v.0 = omega arith in z) ∙ v.2 ∙ sym end))
