-- The text of a rule becomes a record: whether it fits, and the bytes. Assumes nothing.
use Rattle.std.specs.Prelude.{ℕ, ◌+◌, ◌*◌, ◌-◌, ◌≤◌, ◌<◌, Bool, true, false, ◌≡◌, refl, ◌⊎◌, leb, get_or}
use native.Mathlib.Omega.{arith}
use mathlib.Core.List.{List, [], ◌∷◌, ◌++◌, map, append_assoc}
use Rattle.std.proofs.Math.Path.{ap, ap₂, sym, subst}
use Rattle.std.proofs.Common.{◌∙◌, inl, inr, length-append, length-take, get_or-take, drop-drop, le-leb, leb-true, leb-false}
use borrow.Rule.Slice.PartMut.{put_mid}
use Rattle.std.proofs.Math.ListN.{length, take, drop, set, replicate, length-map, get_or-eq_default}
use Rattle.std.proofs.lemmas.List.{length-replicate, get_or-replicate}
use Rattle.std.proofs.Math.Seq.{take_at, length-take-le, drop-append-add}
use Rattle.std.proofs.lemmas.Bool.{lt-leb}
use Rattle.model.specs.Term.{Term, var, con, ◌·◌, sub, size, distinct, vars}
use Rattle.model.specs.Rule.{Rule, Limits, fits, firsts, drop_copies, renumber, sub_rule, vars_of, vars_all, size_all}
use Rattle.theory.specs.Basics.{no_confusion}
use Rattle.records.specs.Tokens.{leaves_all, span}
use Rattle.records.specs.Symbols.{arity_of}
use Rattle.records.specs.Rules.{tokens_of}
use Rattle.records.specs.Work.{body}
use Rattle.unify.specs.Nodes.{graph, node}
use Rattle.unify.specs.Facts.{facts}
use Rattle.unify.specs.Read.{ReadsAll}
use Rattle.unify.specs.Writer.{codes_all}
use Rattle.combine.specs.Codes.{code_vars, token, numbers, all_vars_lem, all_tokens, all_low, every_at}
use Rattle.combine.specs.Built.{Site, Built, Over, over_more}
use Rattle.combine.specs.Places.{visits}
use Rattle.combine.specs.Numbers.{Numbered}

-- What gathering the facts of two records needs.
pub record Sheets (T hyps at : ℕ) (a b o starts : List ℕ) : Type 0 where
  pub room : hyps ≤ length starts
  pub space : length o ≡ 2 * T
  pub count_a : get_or a 1 0 ≤ T
  pub count_b : get_or b 1 0 ≤ T
  pub inside : at ≤ T

-- The nodes of all facts of the combination: the conclusion of b, the hypotheses of a, those of b but the one at `at`.
unfoldable pub all_nodes : List ℕ → ℕ → List ℕ → List ℕ → ℕ → List ℕ
all_nodes sy T a b at =
    node (facts T a b) T
    ∷ (visits (arity_of sy) (facts T a b) (tokens_of a) 0 (T + at) (get_or a 0 0) (span (arity_of sy) 1 (tokens_of a))
    ++ visits (arity_of sy) (facts T a b) (tokens_of b) T (T + at) (get_or b 0 0) (span (arity_of sy) 1 (tokens_of b)))

pub tokens_short : (T : ℕ) (rec tk : List ℕ) → get_or rec 1 0 ≤ T → tk ≡ tokens_of rec → length tk ≤ T
unfolding tokens_of
tokens_short T rec tk l e = omega (arith, ap length e, length-take (get_or rec 1 0) (drop 2 rec))

module _ (sy : List ℕ) (T hyps at : ℕ) (a b s : List ℕ) (S : Site sy T a b s) where
  abbrev both : List ℕ
  both = facts T a b

  -- too large with the conclusion
  pub start_over : Over sy both s T hyps (node both T ∷ []) → Over sy both s T hyps (all_nodes sy T a b at)
  unfolding all_nodes
  start_over v = over_more sy both s T hyps (node both T ∷ []) _ S.reads v

  -- too large with the hypotheses of a
  pub left_over : Over sy both s T hyps (node both T ∷ visits (arity_of sy) both (tokens_of a) 0 (T + at) (get_or a 0 0) (span (arity_of sy) 1 (tokens_of a))) → Over sy both s T hyps (all_nodes sy T a b at)
  unfolding all_nodes
  left_over v = over_more sy both s T hyps _ _ S.reads v

-- What numbering a text needs: no variable has a name yet.
pub record Numberable (text : List ℕ) (vars : ℕ) (names rec : List ℕ) : Type 0 where
  pub room : length text + 2 ≤ length rec
  pub low : (i : ℕ) → i < length text → get_or text i 0 < 384
  pub wide : length names ≡ 128
  pub none : (x : ℕ) → get_or names x 0 ≡ 0
  pub few : vars ≤ 32

-- ---- zeros from one place up to another
unfoldable pub blanked : ℕ → ℕ → List ℕ → List ℕ
blanked from to s = (take from s ++ replicate (to - from) 0) ++ drop to s

-- after a write of zeros at that part
pub blanked_part : (from to : ℕ) (s : List ℕ) → from ≤ to → put_mid from (to - from) s (replicate (to - from) 0) ≡ blanked from to s
unfolding blanked
blanked_part from to s l =
    let z : from + (to - from) ≡ to = omega arith in
    ap (λ (x : List ℕ). take from s ++ (replicate (to - from) 0 ++ x)) (drop-drop (to - from) from s ∙ ap (λ (n : ℕ). drop n s) z)
    ∙ sym (append_assoc (take from s) (replicate (to - from) 0) (drop to s))

-- a table of zeros
pub zeros_all : (n x : ℕ) → ◌≡◌ {A = ℕ} (get_or (replicate n 0) x 0) 0
zeros_all n x = go (leb n x) refl
  where
    go : (c : Bool) → leb n x ≡ c → ◌≡◌ {A = ℕ} (get_or (replicate n 0) x 0) 0
    go true h = get_or-eq_default (replicate n 0) 0 {n = x} (omega (arith, leb-true n x h, length-replicate {A = ℕ} n 0))
    go false h = get_or-replicate n x 0 0 (omega (arith, leb-false n x h))

-- ---- fitting
abbrev pub limits : ℕ → ℕ → ℕ → Limits
limits h T v = record { max_hyps = h; max_tokens = T; max_vars = v; max_rules = 0; max_goals = 0; max_steps = 0 }

abbrev pub rule : Term → List Term → Rule
rule c hs = record { concl = c; hyps = hs }

-- Only these three limits count.
pub fits_limits : (L : Limits) (r : Rule) → fits L r ≡ fits (limits L.max_hyps L.max_tokens L.max_vars) r
unfolding fits
fits_limits L r = refl

-- one test after another
tests : Bool → Bool → Bool → Bool
tests a b c = elim a [ false ↦ false | true ↦ elim b [ false ↦ false | true ↦ c ] ]

all_pass : (a b c : Bool) → a ≡ true → b ≡ true → c ≡ true → tests a b c ≡ true
unfolding tests
all_pass true true c p q r = r
all_pass true false c p q r = q
all_pass false b c p q r = p

one_fails : (a b c : Bool) → (a ≡ false) ⊎ ((b ≡ false) ⊎ (c ≡ false)) → tests a b c ≡ false
unfolding tests
one_fails false b c h = refl
one_fails true false c h = refl
one_fails true true c (inl e) = no_confusion (cc)
one_fails true true c (inr (inl e)) = no_confusion (cc)
one_fails true true c (inr (inr e)) = e

module _ (h T v : ℕ) (r : Rule) where
  pub fits_yes : length r.hyps ≤ h → size r.concl + size_all r.hyps ≤ T → length (vars_of r) ≤ v → fits (limits h T v) r ≡ true
  unfolding fits tests
  fits_yes a b c = all_pass _ _ _ (le-leb (length r.hyps) h a) (le-leb (size r.concl + size_all r.hyps) T b) (le-leb (length (vars_of r)) v c)

  pub fits_many : h < length r.hyps → fits (limits h T v) r ≡ false
  unfolding fits tests
  fits_many a = one_fails _ (leb (size r.concl + size_all r.hyps) T) (leb (length (vars_of r)) v) (inl (lt-leb (length r.hyps) h a))

  pub fits_long : T < size r.concl + size_all r.hyps → fits (limits h T v) r ≡ false
  unfolding fits tests
  fits_long b = one_fails (leb (length r.hyps) h) _ (leb (length (vars_of r)) v) (inr (inl (lt-leb (size r.concl + size_all r.hyps) T b)))

  pub fits_vars : v < length (vars_of r) → fits (limits h T v) r ≡ false
  unfolding fits tests
  fits_vars b = one_fails (leb (length r.hyps) h) (leb (size r.concl + size_all r.hyps) T) _ (inr (inr (lt-leb (length (vars_of r)) v b)))

-- ---- the record
-- The facts of the nodes ns, by their answer: the rule that they make fits and is written, or it does not fit.
pub record Settled (sy ts s : List ℕ) (T hyps vars : ℕ) (old new ns : List ℕ) (ok : Bool) : Type 0 where
  pub concl : Term
  pub done : List Term
  pub reads : ReadsAll (graph sy ts) s ns (concl ∷ done)
  pub fit : fits (limits hyps T vars) (drop_copies (rule concl done)) ≡ ok
  pub bytes : ok ≡ true → new ≡ body T (renumber (drop_copies (rule concl done))) ++ drop (T + 2) old

pub over_settled : (sy ts s : List ℕ) (T hyps vars : ℕ) (old new ns : List ℕ) → Over sy ts s T hyps ns → Settled sy ts s T hyps vars old new ns false
over_settled sy ts s T hyps vars old new ns v =
    record { concl = v.concl; done = v.done; reads = v.reads; fit = go v.over; bytes = λ e. no_confusion (cc) }
  where
    go : (T < size v.concl + size_all (firsts [] v.done)) ⊎ (hyps < length (firsts [] v.done)) → fits (limits hyps T vars) (drop_copies (rule v.concl v.done)) ≡ false
    go (inl h) = unfold drop_copies in fits_long hyps T vars (drop_copies (rule v.concl v.done)) h
    go (inr h) = unfold drop_copies in fits_many hyps T vars (drop_copies (rule v.concl v.done)) h

-- What writing the record needs besides a draft.
pub record Writable (T hyps vars : ℕ) (names rec : List ℕ) : Type 0 where
  pub few : hyps < 256
  pub wide : length names ≡ 128
  pub room : T + 2 ≤ length rec
  pub count : vars ≤ 32

-- a numbering does not change sizes
size_numbers : (vs : List ℕ) (t : Term) → size (sub (numbers vs) t) ≡ size t
unfolding size sub
size_numbers vs (var x) = refl
size_numbers vs (con f) = refl
size_numbers vs (a · b) = ap₂ ◌+◌ (size_numbers vs a) (size_numbers vs b)

all_numbers : (vs : List ℕ) (l : List Term) → size_all (map (sub (numbers vs)) l) ≡ size_all l
unfolding size_all
all_numbers vs [] = refl
all_numbers vs (t ∷ l) = ap₂ ◌+◌ (size_numbers vs t) (all_numbers vs l)

pub renumber_size : (r : Rule) → size (renumber r).concl + size_all (renumber r).hyps ≡ size r.concl + size_all r.hyps
unfolding renumber sub_rule
renumber_size r = ap₂ ◌+◌ (size_numbers (vars_of r) r.concl) (all_numbers (vars_of r) r.hyps)

pub renumber_hyps : (r : Rule) → length (renumber r).hyps ≡ length r.hyps
unfolding renumber sub_rule
renumber_hyps r = length-map r.hyps (sub (numbers (vars_of r)))

-- ---- the bytes
-- both counts over what stands there
counts : (x y : ℕ) (old M : List ℕ) → 2 ≤ length old → set (set (take 2 old ++ M) 0 x) 1 y ≡ x ∷ (y ∷ M)
counts x y [] M l = absurd (omega arith)
counts x y (u ∷ []) M l = absurd (omega arith)
counts x y (u ∷ (v ∷ old)) M l = refl

module _ (T e : ℕ) (old M new : List ℕ) (le : e ≤ T) (lo : T + 2 ≤ length old) (lm : length M ≡ e) (E : new ≡ (take 2 old ++ M) ++ drop (e + 2) old) where
  front : length (take 2 old ++ M) ≡ e + 2
  front = length-append (take 2 old) M ∙ omega (arith, length-take-le 2 old (omega arith))

  rest : drop (T + 2) new ≡ drop (T + 2) old
  rest =
      let z : T + 2 ≡ length (take 2 old ++ M) + (T - e) = omega (arith, front) in
      let y : e + 2 + (T - e) ≡ T + 2 = omega arith in
      ap₂ drop z E ∙ drop-append-add (take 2 old ++ M) (drop (e + 2) old) (T - e) ∙ drop-drop (T - e) (e + 2) old ∙ ap (λ (n : ℕ). drop n old) y

  pub whole_bytes : (n : ℕ) (b : List ℕ) → b ≡ blanked (e + 2) (T + 2) new → set (set b 0 n) 1 e ≡ n ∷ (e ∷ (M ++ (replicate (T - e) 0 ++ drop (T + 2) old)))
  unfolding blanked
  whole_bytes n b eb =
      let z : T + 2 - (e + 2) ≡ T - e = omega arith in
      let f : take (e + 2) new ≡ take 2 old ++ M = ap (take (e + 2)) E ∙ take_at (take 2 old ++ M) (drop (e + 2) old) (e + 2) front in
      let g : b ≡ take 2 old ++ (M ++ (replicate (T - e) 0 ++ drop (T + 2) old)) =
      eb
      ∙ ap₂ (λ (u : List ℕ) (k : ℕ). (u ++ replicate k 0) ++ drop (T + 2) new) f z
      ∙ ap (((take 2 old ++ M) ++ replicate (T - e) 0) ++◌) rest
      ∙ append_assoc (take 2 old ++ M) (replicate (T - e) 0) (drop (T + 2) old)
      ∙ append_assoc (take 2 old) M (replicate (T - e) 0 ++ drop (T + 2) old)
      in
      ap (λ (u : List ℕ). set (set u 0 n) 1 e) g ∙ counts n e old (M ++ (replicate (T - e) 0 ++ drop (T + 2) old)) (omega arith)

module _ (sy ts s : List ℕ) (T hyps vars : ℕ) (o starts : List ℕ) (e n : ℕ) (ns old : List ℕ) (le : e ≤ T) (lo : T + 2 ≤ length old) (sp : length o ≡ 2 * T) (B : Built sy ts s T hyps o starts e n ns) where
  D : Rule
  D = drop_copies (rule B.concl B.done)

  vs : List ℕ
  vs = distinct [] (code_vars (take e o))

  vars_are : vs ≡ vars_of D
  unfolding vs D drop_copies vars_of vars_all
  vars_are = ap (λ (l : List ℕ). distinct [] (code_vars l)) B.text ∙ ap (distinct []) (all_vars_lem sy (B.concl ∷ firsts [] B.done) B.keeps)

  pub vars_over : (new : List ℕ) → Numbered (take e o) vars old new false → (new' : List ℕ) → Settled sy ts s T hyps vars old new' ns false
  unfolding D vs
  vars_over new h new' =
      record { concl = B.concl; done = B.done; reads = B.reads; fit = fits_vars hyps T vars D (omega (arith, h, ap length vars_are)); bytes = λ q. no_confusion (cc) }

  tokens_are : map (token vs) (take e o) ≡ leaves_all ((renumber D).concl ∷ (renumber D).hyps)
  unfolding D drop_copies renumber sub_rule
  tokens_are =
      ap₂ (λ (v l : List ℕ). map (token v) l) vars_are B.text
      ∙ all_tokens sy (vars_of D) (B.concl ∷ firsts [] B.done) B.keeps

  pub text_written :
      (new b : List ℕ) → Numbered (take e o) vars old new true → b ≡ blanked (e + 2) (T + 2) new → Settled sy ts s T hyps vars old (set (set b 0 n) 1 e) ns true
  unfolding D drop_copies body vs
  text_written new b h eb =
      let f : length (take e o) ≡ e = length-take-le e o (omega arith) in
      let c : length (renumber D).hyps ≡ n = renumber_hyps D ∙ sym B.count in
      let k : size (renumber D).concl + size_all (renumber D).hyps ≡ e = renumber_size D ∙ sym B.end in
      let m : length (map (token vs) (take e o)) ≡ e = length-map (take e o) (token vs) ∙ f in
      record {
        concl = B.concl;
        done = B.done;
        reads = B.reads;
        fit = fits_yes hyps T vars D (omega (arith, B.few, B.count)) (omega (arith, B.end)) (omega (arith, h.0, ap length vars_are));
        bytes = λ q.
            whole_bytes T e old (map (token vs) (take e o)) new le lo m (h.1 ∙ ap (λ (i : ℕ). (take 2 old ++ map (token vs) (take e o)) ++ drop (i + 2) old) f) n b eb
            ∙ ap₂ (λ (x y : ℕ). x ∷ (y ∷ (map (token vs) (take e o) ++ (replicate (T - e) 0 ++ drop (T + 2) old)))) (sym c) (sym k)
            ∙ ap (λ (l : List ℕ). length (renumber D).hyps ∷ (size (renumber D).concl + size_all (renumber D).hyps) ∷ l)
            (
            ap₂ (λ (l : List ℕ) (y : ℕ). l ++ (replicate (T - y) 0 ++ drop (T + 2) old)) tokens_are (sym k)
            ∙ sym (append_assoc (leaves_all ((renumber D).concl ∷ (renumber D).hyps)) (replicate (T - (size (renumber D).concl + size_all (renumber D).hyps)) 0) (drop (T + 2) old))
            );
      }

-- ---- for the code's answers
-- each code of the text is a byte or a variable's
pub built_low : (sy ts s : List ℕ) (T hyps : ℕ) (o starts : List ℕ) (e n : ℕ) (ns : List ℕ) → Built sy ts s T hyps o starts e n ns → (i : ℕ) → i < e → get_or o i 0 < 384
built_low sy ts s T hyps o starts e n ns B i l =
    subst (λ (x : ℕ). x < 384) (ap (λ (t : List ℕ). get_or t i 0) (sym B.text) ∙ get_or-take e o i 0 l)
    (every_at (λ c. c < 384) (codes_all (B.concl ∷ firsts [] B.done)) i 0 (omega arith) (all_low sy (B.concl ∷ firsts [] B.done) B.keeps))
