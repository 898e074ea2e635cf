-- The codes of terms that keep to the arities: which term a text begins with, its variables, and the tokens that it becomes. Assumes nothing.
use Rattle.std.specs.Prelude.{ℕ, zero, suc, ◌+◌, ◌-◌, ◌≤◌, ◌<◌, true, false, List, [], ◌∷◌, ◌++◌, map, ◌≡◌, refl, ltb, length, take, drop, get_or}
use Rattle.std.proofs.Common.{arith, append_assoc, ap, ap₂, ◌∙◌, sym, length-append, lt-ltb, le-ltb}
use Rattle.model.specs.Term.{Term, var, con, ◌·◌, sub, vars}
use Rattle.model.specs.Rule.{place, vars_all, size_all}
use Rattle.records.specs.Tokens.{leaves, leaves_all, applied}
use Rattle.records.specs.Symbols.{arity_of}
use Rattle.unify.specs.Closure.{Every}
use Rattle.unify.specs.Writer.{codes, codes_all, codes_size}

-- t lacks n arguments; its symbols are bytes, and its variables those of two records.
pub data Keeps (sy : List ℕ) : ℕ → Term → Type 0 where
  kvar : {x : ℕ} → x < 128 → Keeps sy 0 (var x)
  kcon : {f : ℕ} → f < 256 → Keeps sy (arity_of sy f) (con f)
  kapp : {n : ℕ} {a b : Term} → Keeps sy (suc n) a → Keeps sy 0 b → Keeps sy n (a · b)

abbrev pub KeepAll : List ℕ → List Term → Type 0
KeepAll sy [] = Unit {0}
KeepAll sy (t ∷ l) = Keeps sy 0 t × KeepAll sy l

pub keep_append : (sy : List ℕ) (a b : List Term) → KeepAll sy a → KeepAll sy b → KeepAll sy (a ++ b)
keep_append sy [] b h k = k
keep_append sy (t ∷ a) b h k = (h.0, keep_append sy a b h.1 k)

-- ---- the term that a text begins with
code_leaf : ℕ → Term
code_leaf c = elim (ltb c 256) [ true ↦ con c | false ↦ var (c - 256) ]

code_arity : List ℕ → ℕ → ℕ
code_arity sy c = elim (ltb c 256) [ true ↦ arity_of sy c | false ↦ 0 ]

parse : List ℕ → List ℕ → List Term
parse sy [] = []
parse sy (c ∷ l) = applied (code_leaf c) (take (code_arity sy c) (parse sy l)) ∷ drop (code_arity sy c) (parse sy l)

parse_low : (sy : List ℕ) (c : ℕ) (l : List ℕ) → c < 256 → parse sy (c ∷ l) ≡ applied (con c) (take (arity_of sy c) (parse sy l)) ∷ drop (arity_of sy c) (parse sy l)
unfolding parse code_leaf code_arity
parse_low sy c l h =
    let z = lt-ltb c 256 h in
    let u : code_leaf c ≡ con c = rw (z, code_leaf) in
    let w : code_arity sy c ≡ arity_of sy c = rw (z, code_arity) in
    ap₂ (λ (x : Term) (n : ℕ). applied x (take n (parse sy l)) ∷ drop n (parse sy l)) u w

parse_high : (sy : List ℕ) (v : ℕ) (l : List ℕ) → parse sy ((256 + v) ∷ l) ≡ var v ∷ parse sy l
unfolding parse code_leaf code_arity applied
parse_high sy v l =
    let z = le-ltb (256 + v) 256 (omega arith) in
    let y : 256 + v - 256 ≡ v = omega arith in
    let u : code_leaf (256 + v) ≡ var v = rw (z, code_leaf) (ap var y) in
    let w : code_arity sy (256 + v) ≡ 0 = rw (z, code_arity) in
    ap₂ (λ (x : Term) (n : ℕ). applied x (take n (parse sy l)) ∷ drop n (parse sy l)) u w

parse_codes : (sy : List ℕ) {n : ℕ} {t : Term} → Keeps sy n t → (x : List ℕ) → parse sy (codes t ++ x) ≡ applied t (take n (parse sy x)) ∷ drop n (parse sy x)
unfolding codes applied
parse_codes sy (kvar {x = v} h) x = parse_high sy v x
parse_codes sy (kcon {f = f} h) x = parse_low sy f x h
parse_codes sy (kapp {n = n} {a = a} {b = b} u v) x =
    ap (parse sy) (append_assoc (codes a) (codes b) x)
    ∙ parse_codes sy u (codes b ++ x)
    ∙ ap (λ (l : List Term). applied a (take (suc n) l) ∷ drop (suc n) l) (parse_codes sy v x)

-- Two texts that begin with whole terms are equal only if the terms are.
pub same_start : (sy : List ℕ) {t u : Term} → Keeps sy 0 t → Keeps sy 0 u → (x y : List ℕ) → codes t ++ x ≡ codes u ++ y → t ≡ u
unfolding applied
same_start sy {t} {u} h k x y e =
    let z : t ∷ parse sy x ≡ u ∷ parse sy y = sym (parse_codes sy h x) ∙ ap (parse sy) e ∙ parse_codes sy k y in
    cc

-- ---- each code is a byte or one of 128 variables
every_append : (P : ℕ → Type 0) (a b : List ℕ) → Every P a → Every P b → Every P (a ++ b)
every_append P [] b h k = k
every_append P (x ∷ a) b h k = (h.0, every_append P a b h.1 k)

codes_low : (sy : List ℕ) {n : ℕ} {t : Term} → Keeps sy n t → Every (λ c. c < 384) (codes t)
unfolding codes
codes_low sy (kvar h) = (omega arith, tt)
codes_low sy (kcon h) = (omega arith, tt)
codes_low sy (kapp {a = a} {b = b} u v) = every_append (λ c. c < 384) (codes a) (codes b) (codes_low sy u) (codes_low sy v)

pub all_low : (sy : List ℕ) (l : List Term) → KeepAll sy l → Every (λ c. c < 384) (codes_all l)
unfolding codes_all
all_low sy [] h = tt
all_low sy (t ∷ l) h = every_append (λ c. c < 384) (codes t) (codes_all l) (codes_low sy h.0) (all_low sy l h.1)

pub every_at : (P : ℕ → Type 0) (l : List ℕ) (i d : ℕ) → P d → Every P l → P (get_or l i d)
every_at P [] i d p h = p
every_at P (x ∷ l) zero d p h = h.0
every_at P (x ∷ l) (suc i) d p h = every_at P l i d p h.1

-- ---- how long
pub all_size : (l : List Term) → length (codes_all l) ≡ size_all l
unfolding codes_all size_all
all_size [] = refl
all_size (t ∷ l) = length-append (codes t) (codes_all l) ∙ ap₂ ◌+◌ (codes_size t) (all_size l)

-- ---- variables
-- The variables of a text, repeats included.
unfoldable pub code_vars : List ℕ → List ℕ
code_vars [] = []
code_vars (c ∷ l) = elim (ltb c 256) [ true ↦ code_vars l | false ↦ (c - 256) ∷ code_vars l ]

-- The token for a code, where the variables are numbered by their place among vs.
unfoldable pub token : List ℕ → ℕ → ℕ
token vs c = elim (ltb c 256) [ true ↦ c | false ↦ suc (place (c - 256) vs) ]

pub vars_low : (c : ℕ) (l : List ℕ) → c < 256 → code_vars (c ∷ l) ≡ code_vars l
unfolding code_vars
vars_low c l h = rw (lt-ltb c 256 h, code_vars)

pub vars_high : (c : ℕ) (l : List ℕ) → 256 ≤ c → code_vars (c ∷ l) ≡ (c - 256) ∷ code_vars l
unfolding code_vars
vars_high c l h = rw (le-ltb c 256 h, code_vars)

pub token_low : (vs : List ℕ) (c : ℕ) → c < 256 → token vs c ≡ c
unfolding token
token_low vs c h = rw (lt-ltb c 256 h, token)

pub token_high : (vs : List ℕ) (c : ℕ) → 256 ≤ c → token vs c ≡ suc (place (c - 256) vs)
unfolding token
token_high vs c h = rw (le-ltb c 256 h, token)

code_vars_lem : (sy : List ℕ) {n : ℕ} {t : Term} → Keeps sy n t → (x : List ℕ) → code_vars (codes t ++ x) ≡ vars t (code_vars x)
unfolding codes vars
code_vars_lem sy (kvar {x = v} h) x = vars_high (256 + v) x (omega arith) ∙ ap (λ (k : ℕ). k ∷ code_vars x) (let z : 256 + v - 256 ≡ v = omega arith in z)
code_vars_lem sy (kcon {f = f} h) x = vars_low f x h
code_vars_lem sy (kapp {a = a} {b = b} u v) x = ap code_vars (append_assoc (codes a) (codes b) x) ∙ code_vars_lem sy u (codes b ++ x) ∙ ap (vars a) (code_vars_lem sy v x)

pub all_vars_lem : (sy : List ℕ) (l : List Term) → KeepAll sy l → code_vars (codes_all l) ≡ vars_all l
unfolding codes_all vars_all code_vars
all_vars_lem sy [] h = refl
all_vars_lem sy (t ∷ l) h = code_vars_lem sy h.0 (codes_all l) ∙ ap (vars t) (all_vars_lem sy l h.1)

-- The numbering as a substitution.
abbrev pub numbers : List ℕ → ℕ → Term
numbers vs x = var (suc (place x vs))

code_tokens : (sy vs : List ℕ) {n : ℕ} {t : Term} → Keeps sy n t → (x : List ℕ) → map (token vs) (codes t ++ x) ≡ leaves (sub (numbers vs) t) (map (token vs) x)
unfolding codes leaves sub
code_tokens sy vs (kvar {x = v} h) x =
    ap (λ (k : ℕ). k ∷ map (token vs) x) (token_high vs (256 + v) (omega arith) ∙ ap (λ (k : ℕ). suc (place k vs)) (let z : 256 + v - 256 ≡ v = omega arith in z))
code_tokens sy vs (kcon {f = f} h) x = ap (λ (k : ℕ). k ∷ map (token vs) x) (token_low vs f h)
code_tokens sy vs (kapp {a = a} {b = b} u v) x =
    ap (map (token vs)) (append_assoc (codes a) (codes b) x) ∙ code_tokens sy vs u (codes b ++ x) ∙ ap (leaves (sub (numbers vs) a)) (code_tokens sy vs v x)

pub all_tokens : (sy vs : List ℕ) (l : List Term) → KeepAll sy l → map (token vs) (codes_all l) ≡ leaves_all (map (sub (numbers vs)) l)
unfolding codes_all leaves_all
all_tokens sy vs [] h = refl
all_tokens sy vs (t ∷ l) h = code_tokens sy vs h.0 (codes_all l) ∙ ap (leaves (sub (numbers vs) t)) (all_tokens sy vs l h.1)
