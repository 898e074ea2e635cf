-- Variables numbered by first appearance: the numbers given so far as a set of digits, and the tokens written so far. Assumes nothing.
use Rattle.std.specs.Prelude.{ℕ, zero, suc, ◌+◌, ◌*◌, ◌-◌, ◌^◌, ◌/◌, ◌%◌, ◌≤◌, ◌<◌, Bool, true, false, ◌≡◌, refl, eqb, length, take, get_or, set, Result, Ok, Err}
use Rattle.std.proofs.Common.{arith, pow-suc, ap₂, ◌∙◌, sym, subst, pow_pos, length-append, take-append-drop, get_or-set_same, get_or-set_other, length-take-le, eqb-true}
use mathlib.Core.List.{List, [], ◌∷◌, ◌++◌, map, append_assoc, append-nil}
use Rattle.std.proofs.Math.Path.{ap}
use Rattle.std.specs.Int.Bits.{bit_or, or_shifted_r}
use Rattle.std.specs.Int.Count.{ones, ones-ones, under, count_trailing_zeros}
use Rattle.std.proofs.Math.ListN.{drop}
use Rattle.std.proofs.lemmas.List.{length-map, set_at, drop_more, drop_all, map_more}
use Rattle.std.proofs.Math.Seq.{take-length}
use Rattle.std.proofs.lemmas.Bool.{eqb-false}
use Rattle.model.specs.Term.{elem, distinct}
use Rattle.model.specs.Rule.{place}
use Rattle.theory.specs.Basics.{no_confusion}
use Rattle.terms.specs.Vars.{with_var}
use Rattle.terms.proofs.Sets.{held_yes}
use Rattle.combine.specs.declared.TooLarge.{TooLarge}
use Rattle.combine.specs.Codes.{code_vars, token, vars_low, vars_high, token_low, token_high}

-- ---- the first n digits as a set
trailing_full : (k n : ℕ) → n < k → count_trailing_zeros k (2 ^ k - 2 ^ n) ≡ n
unfolding count_trailing_zeros
trailing_full zero n l = absurd (omega arith)
trailing_full (suc k) zero l = ap (λ (d : ℕ). under d (count_trailing_zeros k ((2 ^ suc k - 1) / 2))) (let z : (2 ^ suc k - 1) % 2 ≡ 1 = omega (arith, pow-suc 2 k, pow_pos k) in z)
trailing_full (suc k) (suc n) l =
    let y : (2 ^ suc k - 2 ^ suc n) % 2 ≡ 0 = omega (arith, pow-suc 2 k, pow-suc 2 n) in
    let z : (2 ^ suc k - 2 ^ suc n) / 2 ≡ 2 ^ k - 2 ^ n = omega (arith, pow-suc 2 k, pow-suc 2 n) in
    ap₂ (λ (d m : ℕ). under d (count_trailing_zeros k m)) y z ∙ ap suc (trailing_full k n (omega arith))

-- the next number by the complement's trailing zeros
pub next_number : (n m : ℕ) → m ≡ 2 ^ n - 1 → n < 32 → count_trailing_zeros 32 (4294967295 - m) + 1 ≡ n + 1
next_number n m e l =
    let z : 4294967295 - m ≡ 4294967296 - 2 ^ n = omega (arith, pow_pos n) in
    ap (λ (k : ℕ). k + 1) (ap (count_trailing_zeros 32) z ∙ trailing_full 32 n l)

pub count_given : (n m : ℕ) → m ≡ 2 ^ n - 1 → ones m ≡ n
count_given n m e = ap ones e ∙ ones-ones n

with_next : (n m : ℕ) → m ≡ 2 ^ n - 1 → n < 32 → with_var m (n + 1) ≡ 2 ^ suc n - 1
unfolding with_var
with_next n m e l =
    let y : n + 1 - 1 ≡ n = omega arith in
    let z : 1 * 2 ^ n ≡ 2 ^ n = omega arith in
    let w : bit_or (2 ^ n - 1) (2 ^ n) ≡ 2 ^ suc n - 1 = ap (bit_or (2 ^ n - 1)) (sym z) ∙ or_shifted_r 1 n (2 ^ n - 1) (omega (arith, pow_pos n)) ∙ omega (arith, pow-suc 2 n, pow_pos n) in
    rw (held_yes (n + 1) (omega arith) (omega arith), with_var) (ap₂ (λ (a b : ℕ). bit_or a (2 ^ b)) e y ∙ w)

-- ---- elem, distinct and place
or_swap : (a b c : Bool) → ◌≡◌ {A = Bool} (elim a [ true ↦ true | false ↦ elim b [ true ↦ true | false ↦ c ] ]) (elim b [ true ↦ true | false ↦ elim a [ true ↦ true | false ↦ c ] ])
or_swap true true c = refl
or_swap true false c = refl
or_swap false true c = refl
or_swap false false c = refl

elem_end : (y x : ℕ) (k : List ℕ) → elem y (k ++ (x ∷ [])) ≡ elem y (x ∷ k)
unfolding elem
elem_end y x [] = refl
elem_end y x (z ∷ k) = ap (λ (b : Bool). elim (eqb y z) as (λ _. Bool) [ true ↦ true | false ↦ b ]) (elem_end y x k) ∙ or_swap (eqb y z) (eqb y x) (elem y k)

elem_snoc : (y x : ℕ) (l m : List ℕ) → elem y l ≡ elem y m → elem y (l ++ (x ∷ [])) ≡ elem y (x ∷ m)
unfolding elem
elem_snoc y x l m h = elem_end y x l ∙ ap (λ (b : Bool). elim (eqb y x) as (λ _. Bool) [ true ↦ true | false ↦ b ]) h

place_new : (x : ℕ) (l m : List ℕ) → elem x l ≡ false → place x (l ++ (x ∷ m)) ≡ length l
unfolding place elem
place_new x [] m h = go (eqb x x) refl
  where
    go : (c : Bool) → eqb x x ≡ c → ◌≡◌ {A = ℕ} (elim c [ true ↦ 0 | false ↦ suc (place x m) ]) 0
    go true e = refl
    go false e = absurd (eqb-false x x e refl)
place_new x (y ∷ l) m h = go (eqb x y) h (place_new x l m)
  where
    go : (c : Bool) → ◌≡◌ {A = Bool} (elim c [ true ↦ true | false ↦ elem x l ]) false → (elem x l ≡ false → place x (l ++ (x ∷ m)) ≡ length l) → ◌≡◌ {A = ℕ} (elim c [ true ↦ 0 | false ↦ suc (place x (l ++ (x ∷ m))) ]) (suc (length l))
    go true q rec = no_confusion (cc)
    go false q rec = ap suc (rec q)

elem_here : (y x : ℕ) (l : List ℕ) → eqb y x ≡ true → elem y (x ∷ l) ≡ true
unfolding elem
elem_here y x l h = rw (h, elem)

elem_there : (y x : ℕ) (l : List ℕ) → eqb y x ≡ false → elem y (x ∷ l) ≡ elem y l
unfolding elem
elem_there y x l h = rw (h, elem)

distinct_old : (seen : List ℕ) (x : ℕ) (l : List ℕ) → elem x seen ≡ true → distinct seen (x ∷ l) ≡ distinct seen l
unfolding distinct
distinct_old seen x l h = rw (h, distinct)

distinct_new : (seen : List ℕ) (x : ℕ) (l : List ℕ) → elem x seen ≡ false → distinct seen (x ∷ l) ≡ x ∷ distinct (x ∷ seen) l
unfolding distinct
distinct_new seen x l h = rw (h, distinct)

-- ---- the state of the numbering
-- Of the variables vs some have their number, and those of `rest` are to come; a variable's name is its number, or 0.
pub record Naming (vs names : List ℕ) (m vars : ℕ) (rest : List ℕ) : Type 0 where
  pub given : List ℕ
  pub seen : List ℕ
  pub whole : vs ≡ given ++ distinct seen rest
  pub alike : (x : ℕ) → elem x given ≡ elem x seen
  pub bits : m ≡ 2 ^ length given - 1
  pub fresh : (x : ℕ) → elem x seen ≡ false → get_or names x 0 ≡ 0
  pub told : (x : ℕ) → elem x seen ≡ true → get_or names x 0 ≡ suc (place x vs)
  pub few : length given ≤ vars

pub naming_start : (names : List ℕ) (vars : ℕ) (rest : List ℕ) → ((x : ℕ) → get_or names x 0 ≡ 0) → Naming (distinct [] rest) names 0 vars rest
unfolding elem
naming_start names vars rest z =
    record { given = []; seen = []; whole = refl; alike = λ x. refl; bits = refl; fresh = λ x e. z x; told = λ x e. no_confusion (cc); few = omega arith }

pub naming_end : (vs names : List ℕ) (m vars : ℕ) → Naming vs names m vars [] → length vs ≤ vars
unfolding distinct
naming_end vs names m vars N = omega (arith, ap length (N.whole ∙ append-nil N.given), N.few)

pub naming_rest : (vs names : List ℕ) (m vars : ℕ) (rest rest' : List ℕ) → rest ≡ rest' → Naming vs names m vars rest → Naming vs names m vars rest'
naming_rest vs names m vars rest rest' e N = subst (Naming vs names m vars) e N

-- What giving x its number answers.
abbrev pub Named : List ℕ → List ℕ → ℕ → ℕ → List ℕ → Result ℕ TooLarge → Type 0
Named vs names x vars rest (Ok m) = Naming vs names m vars rest × (get_or names x 0 ≡ suc (place x vs))
Named vs names x vars rest (Err _) = vars < length vs

module _ (vs names : List ℕ) (m vars x : ℕ) (rest : List ℕ) (N : Naming vs names m vars (x ∷ rest)) where
  is_seen : (get_or names x 0 ≡ 0 → ⊥) → elem x N.seen ≡ true
  is_seen h = go (elem x N.seen) refl
    where
      go : (c : Bool) → elem x N.seen ≡ c → c ≡ true
      go true e = refl
      go false e = absurd (h (N.fresh x e))

  is_new : get_or names x 0 ≡ 0 → elem x N.seen ≡ false
  is_new h = go (elem x N.seen) refl
    where
      go : (c : Bool) → elem x N.seen ≡ c → c ≡ false
      go false e = refl
      go true e = absurd (omega (arith, N.told x e))

  pub name_old : (get_or names x 0 ≡ 0 → ⊥) → Named vs names x vars rest (Ok m)
  name_old h =
      let e = is_seen h in (
        record {
          given = N.given;
          seen = N.seen;
          whole = N.whole ∙ ap (N.given ++◌) (distinct_old N.seen x rest e);
          alike = N.alike;
          bits = N.bits;
          fresh = N.fresh;
          told = N.told;
          few = N.few;
        },
        N.told x e,
      )

  module _ (h : get_or names x 0 ≡ 0) where
    new_whole : vs ≡ N.given ++ (x ∷ distinct (x ∷ N.seen) rest)
    new_whole = N.whole ∙ ap (N.given ++◌) (distinct_new N.seen x rest (is_new h))

    pub name_full : (r : TooLarge) → vars ≤ ones m → Named vs names x vars rest (Err r)
    name_full r l = omega (arith, count_given (length N.given) m N.bits, ap length new_whole, length-append N.given (x ∷ distinct (x ∷ N.seen) rest))

    place_x : place x vs ≡ length N.given
    place_x = ap (place x) new_whole ∙ place_new x N.given (distinct (x ∷ N.seen) rest) (N.alike x ∙ is_new h)

    module _ (w : vars ≤ 32) (l : ones m < vars) (lx : x < length names) (v : ℕ) (ev : v ≡ count_trailing_zeros 32 (4294967295 - m) + 1) (m' : ℕ) (es : m' ≡ with_var m v) where
      small : length N.given < vars
      small = omega (arith, count_given (length N.given) m N.bits)

      number : v ≡ length N.given + 1
      number = ev ∙ next_number (length N.given) m N.bits (omega (arith, small))

      pub name_new : Named vs (set names x v) x vars rest (Ok m')
      name_new =
          let n = length N.given in
          let f : length (N.given ++ (x ∷ [])) ≡ suc n = length-append N.given (x ∷ []) ∙ omega arith in
          let t : get_or (set names x v) x 0 ≡ suc (place x vs) = get_or-set_same names x v 0 lx ∙ omega (arith, number, place_x) in (
            record {
              given = N.given ++ (x ∷ []);
              seen = x ∷ N.seen;
              whole = new_whole ∙ sym (append_assoc N.given (x ∷ []) (distinct (x ∷ N.seen) rest));
              alike = λ y. elem_snoc y x N.given N.seen (N.alike y);
              bits = es ∙ ap (with_var m) number ∙ with_next n m N.bits (omega (arith, small)) ∙ ap (λ (k : ℕ). 2 ^ k - 1) (sym f);
              fresh = λ y e. after y e (eqb y x) refl;
              told = λ y e. known y e (eqb y x) refl t;
              few = omega (arith, small, f);
            },
            t,
          )
        where
          after : (y : ℕ) → elem y (x ∷ N.seen) ≡ false → (c : Bool) → eqb y x ≡ c → get_or (set names x v) y 0 ≡ 0
          after y e true q = no_confusion (let z : elem y (x ∷ N.seen) ≡ true = elem_here y x N.seen q in cc)
          after y e false q = get_or-set_other names x y v 0 (eqb-false y x q) ∙ N.fresh y (sym (elem_there y x N.seen q) ∙ e)

          known : (y : ℕ) → elem y (x ∷ N.seen) ≡ true → (c : Bool) → eqb y x ≡ c → get_or (set names x v) x 0 ≡ suc (place x vs) → get_or (set names x v) y 0 ≡ suc (place y vs)
          known y e true q t = subst (λ (k : ℕ). get_or (set names x v) k 0 ≡ suc (place k vs)) (sym (eqb-true y x q)) t
          known y e false q t = get_or-set_other names x y v 0 (eqb-false y x q) ∙ N.told y (sym (elem_there y x N.seen q) ∙ e)

-- ---- the tokens
-- one element more, where P was written over the front of `old`
pub put_next : (P old : List ℕ) (n v : ℕ) → length P ≡ n → n < length old → set (P ++ drop n old) n v ≡ (P ++ (v ∷ [])) ++ drop (n + 1) old
put_next P old n v e l =
    ap (λ (x : List ℕ). set (P ++ x) n v) (drop_more old n 0 l)
    ∙ set_at P (get_or old n 0) (drop (n + 1) old) v n e
    ∙ sym (append_assoc P (v ∷ []) (drop (n + 1) old))

-- The tokens of the first i codes of a text written behind the two counts.
abbrev pub tokens_to : List ℕ → List ℕ → ℕ → List ℕ → List ℕ
tokens_to vs text i old = (take 2 old ++ map (token vs) (take i text)) ++ drop (i + 2) old

module _ (vs text old : List ℕ) (i : ℕ) (lr : length text + 2 ≤ length old) (l : i < length text) where
  abbrev code : ℕ
  code = get_or text i 0

  rest_low : code < 256 → code_vars (drop i text) ≡ code_vars (drop (i + 1) text)
  rest_low h = ap code_vars (drop_more text i 0 l) ∙ vars_low code (drop (i + 1) text) h

  rest_high : 256 ≤ code → code_vars (drop i text) ≡ (code - 256) ∷ code_vars (drop (i + 1) text)
  rest_high h = ap code_vars (drop_more text i 0 l) ∙ vars_high code (drop (i + 1) text) h

  -- a variable is next
  pub naming_high : (names : List ℕ) (m vars c : ℕ) → c ≡ code → 256 ≤ c → Naming vs names m vars (code_vars (drop i text)) → Naming vs names m vars ((c - 256) ∷ code_vars (drop (i + 1) text))
  naming_high names m vars c e h N =
      naming_rest vs names m vars _ _ (rest_high (omega arith) ∙ ap (λ (k : ℕ). (k - 256) ∷ code_vars (drop (i + 1) text)) (sym e)) N

  pub naming_low : (names : List ℕ) (m vars c : ℕ) → c ≡ code → c < 256 → Naming vs names m vars (code_vars (drop i text)) → Naming vs names m vars (code_vars (drop (i + 1) text))
  naming_low names m vars c e h N = naming_rest vs names m vars _ _ (rest_low (omega arith)) N

  pub as_low : (c : ℕ) → c ≡ code → c < 256 → c ≡ token vs code
  as_low c e h = e ∙ sym (token_low vs code (omega arith))

  pub as_high : (c v : ℕ) → c ≡ code → 256 ≤ c → v ≡ suc (place (c - 256) vs) → v ≡ token vs code
  as_high c v e h q = q ∙ ap (λ (k : ℕ). suc (place (k - 256) vs)) e ∙ sym (token_high vs code (omega arith))

  front : length (take 2 old ++ map (token vs) (take i text)) ≡ i + 2
  front =
      length-append (take 2 old) (map (token vs) (take i text))
      ∙ omega (arith, length-take-le 2 old (omega arith), length-map (take i text) (token vs), length-take-le i text (omega arith))

  pub tokens_next : (rec : List ℕ) (v : ℕ) → rec ≡ tokens_to vs text i old → v ≡ token vs code → set rec (i + 2) v ≡ tokens_to vs text (i + 1) old
  tokens_next rec v e q =
      ap (λ (x : List ℕ). set x (i + 2) v) e
      ∙ put_next (take 2 old ++ map (token vs) (take i text)) old (i + 2) v front (omega arith)
      ∙ ap₂ (λ (x : List ℕ) (n : ℕ). x ++ drop n old)
      (append_assoc (take 2 old) (map (token vs) (take i text)) (v ∷ []) ∙ ap (take 2 old ++◌) (ap (λ (x : ℕ). map (token vs) (take i text) ++ (x ∷ [])) q ∙ sym (map_more (token vs) text i 0 l)))
      (let z : i + 2 + 1 ≡ i + 1 + 2 = omega arith in z)

pub tokens_start : (vs text old : List ℕ) → old ≡ tokens_to vs text 0 old
tokens_start vs _ old = sym (ap (◌++ drop 2 old) (append-nil (take 2 old)) ∙ take-append-drop 2 old)

-- What the numbering of a text answers: the tokens are written, or there are too many variables.
abbrev pub Numbered : List ℕ → ℕ → List ℕ → List ℕ → Bool → Type 0
Numbered text vars old new true = (length (distinct [] (code_vars text)) ≤ vars) × (new ≡ (take 2 old ++ map (token (distinct [] (code_vars text))) text) ++ drop (length text + 2) old)
Numbered text vars old new false = vars < length (distinct [] (code_vars text))

-- Where the numbering of a text stands before code i: the variables that have their number, and the tokens written.
pub record Partway (text old : List ℕ) (vars i : ℕ) (names rec : List ℕ) (m : ℕ) : Type 0 where
  pub naming : Naming (distinct [] (code_vars text)) names m vars (code_vars (drop i text))
  pub tokens : rec ≡ tokens_to (distinct [] (code_vars text)) text i old

pub partway_start : (text old names : List ℕ) (vars : ℕ) → ((x : ℕ) → get_or names x 0 ≡ 0) → Partway text old vars 0 names old 0
partway_start text old names vars z = record { naming = naming_start names vars (code_vars text) z; tokens = tokens_start (distinct [] (code_vars text)) text old }

module _ {text old : List ℕ} {vars i : ℕ} {names rec : List ℕ} {m : ℕ} (P : Partway text old vars i names rec m) where
  abbrev vs : List ℕ
  vs = distinct [] (code_vars text)

  pub partway_end : i ≡ length text → Numbered text vars old rec true
  partway_end e =
      let none : code_vars (drop i text) ≡ [] = ap code_vars (drop_all i text (omega arith)) ∙ (unfold code_vars in refl) in (
        naming_end vs names m vars (naming_rest vs names m vars _ [] none P.naming),
        P.tokens ∙ ap (λ (n : ℕ). tokens_to vs text n old) e ∙ ap (λ (x : List ℕ). (take 2 old ++ map (token vs) x) ++ drop (length text + 2) old) (take-length text),
      )

  module _ (lr : length text + 2 ≤ length old) (l : i < length text) {c : ℕ} (is : c ≡ get_or text i 0) where
    -- a symbol's token stands as it is
    pub partway_low : c < 256 → Partway text old vars (i + 1) names (set rec (i + 2) c) m
    partway_low h =
        record {
          naming = naming_low vs text old i lr l names m vars c is h P.naming;
          tokens = tokens_next vs text old i lr l rec c P.tokens (as_low vs text old i lr l c is h);
        }

    module _ (h : 256 ≤ c) where
      abbrev rest : List ℕ
      rest = code_vars (drop (i + 1) text)

      named : Naming vs names m vars ((c - 256) ∷ rest)
      named = naming_high vs text old i lr l names m vars c is h P.naming

      -- a variable's name stands in its place, unless no number is left for it
      pub partway_high : {names' : List ℕ} {m' : ℕ} → ((ws us : List ℕ) → Naming ws names m vars ((c - 256) ∷ us) → Named ws names' (c - 256) vars us (Ok m'))
          → Partway text old vars (i + 1) names' (set rec (i + 2) (get_or names' (c - 256) 0)) m'
      partway_high {names'} {m'} N =
          let w = N vs rest named in
          record { naming = w.0; tokens = tokens_next vs text old i lr l rec (get_or names' (c - 256) 0) P.tokens (as_high vs text old i lr l c (get_or names' (c - 256) 0) is h w.1) }

      pub partway_full : (names' new : List ℕ) (e : TooLarge) → ((ws us : List ℕ) → Naming ws names m vars ((c - 256) ∷ us) → Named ws names' (c - 256) vars us (Err e)) → Numbered text vars old new false
      partway_full names' new e N = N vs rest named
