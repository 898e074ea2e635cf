-- Matching on tokens is matching on terms: where a pattern and a text hold terms that keep to the arities, both answer alike. Assumes nothing.
use Prim.Native.Nat.{ℕ, zero, suc, ◌+◌, ◌≤◌, ◌<◌}
use Rattle.std.proofs.Common.{add-zero, ◌∙◌, subst, length-set, take-append-drop, get_or-set_same, get_or-set_other, get_or-drop, drop-drop}
use Rattle.std.proofs.Math.Numerals.{add-one}
use native.Mathlib.Omega.{arith}
use Rattle.std.proofs.Math.Bool.{Bool, true, false}
use Rattle.std.proofs.Math.Option.{Option, none, some}
use mathlib.Core.List.{List, [], ◌∷◌, ◌++◌}
use Rattle.std.specs.Prelude.{◌≡◌, ◌≢◌, eqb, length, drop, get_or, set}
use Rattle.std.proofs.Math.Path.{refl, ap, ap₂, sym}
use Rattle.std.proofs.Math.ListN.{take}
use borrow.Author.Tests.{lt-ltb, le-ltb, eqb-true, eqb-false, eq-eqb, ne_eqb}
use Rattle.model.specs.Term.{Term, var, con, ◌·◌, size, same, Bindings}
use Rattle.model.specs.Rule.{lookup, bind_to, match}
use Rattle.model.specs.Sign.{Signature, wants, is_term, is_fact, whole, fact_wants}
use Rattle.theory.specs.Basics.{true≢false, no_confusion}
use Rattle.theory.specs.Implies.{same_ok, SameOk}
use Rattle.theory.specs.Mend.{wants_left, wants_right, fact_wants_left, fact_wants_right, is_term_wants, is_fact_wants}
use Rattle.records.specs.Tokens.{leaves, terms, span}
use Rattle.records.specs.Symbols.{same_bytes}
use Rattle.records.specs.TokenLaws.{Agrees, EachVar, Small, take_leaves, drop_leaves, leaves_front, terms_term, span_term}
use Rattle.terms.proofs.Same.{bytes_equal, bytes_same}
use Rattle.matching.specs.Match.{agree, matched}

-- ---- lists of bytes, by the laws of `terms`
pub same_bytes_refl : (l : List ℕ) → same_bytes l l ≡ true
same_bytes_refl = bytes_same

pub same_bytes_eq : (l m : List ℕ) → same_bytes l m ≡ true → l ≡ m
same_bytes_eq = bytes_equal

module _ (ar : ℕ → ℕ) (S : Signature) (agrees : Agrees ar S) where
  -- ---- the shape of a term
  mutual
    -- a symbol with some of its arguments, which lacks n
    pub data Spine : ℕ → Term → Type 0 where
      head : {n : ℕ} (f : ℕ) → ar f ≡ n → 64 ≤ f → Spine n (con f)
      more : {n : ℕ} {a b : Term} → Spine (suc n) a → Whole b → Spine n (a · b)

    -- a variable, or a symbol with all its arguments
    pub data Whole : Term → Type 0 where
      is_var : (x : ℕ) → x < 64 → Whole (var x)
      is_spine : {t : Term} → Spine 0 t → is_term S t ≡ true → EachVar Small t → Whole t

  pub whole_term : {t : Term} → Whole t → (is_term S t ≡ true) × EachVar Small t
  unfolding is_term wants whole
  whole_term (is_var x l) = (refl, l)
  whole_term (is_spine s e v) = (e, v)

  wanted : (t : Term) → wants S t ≡ some 0 → is_term S t ≡ true
  unfolding is_term whole
  wanted t e = ap whole e

  mutual
    unfolding wants

    spine_of : (t : Term) (n : ℕ) → wants S t ≡ some n → EachVar Small t → ((x : ℕ) → t ≢ var x) → Spine n t
    spine_of (var x) n e v d = absurd (d x refl)
    spine_of (con f) n e v d = head f (agrees.functions f n e).0 (agrees.functions f n e).1
    spine_of (a · b) n e v d =
        more (spine_of a (suc n) (wants_left S a b n e) v.0 (λ x p. no_confusion (cc (wants_left S a b n e, ap (wants S) p)))) (whole_of b (wants_right S a b n e) v.1)

    whole_of : (t : Term) → wants S t ≡ some 0 → EachVar Small t → Whole t
    whole_of (var x) e v = is_var x v
    whole_of (con f) e v = is_spine (head f (agrees.functions f 0 e).0 (agrees.functions f 0 e).1) (wanted (con f) e) v
    whole_of (a · b) e v =
        is_spine
        (more (spine_of a 1 (wants_left S a b 0 e) v.0 (λ x p. no_confusion (cc (wants_left S a b 0 e, ap (wants S) p)))) (whole_of b (wants_right S a b 0 e) v.1))
        (wanted (a · b) e) v

  pub term_whole : (t : Term) → is_term S t ≡ true → EachVar Small t → Whole t
  term_whole t e v = whole_of t (is_term_wants S t e) v

  -- a fact is a predicate with all its arguments
  fact_spine : (t : Term) (n : ℕ) → fact_wants S t ≡ some n → EachVar Small t → Spine n t
  unfolding fact_wants
  fact_spine (var x) n e v = no_confusion (cc)
  fact_spine (con p) n e v = head p (agrees.predicates p n e).0 (agrees.predicates p n e).1
  fact_spine (a · b) n e v = more (fact_spine a (suc n) (fact_wants_left S a b n e) v.0) (whole_of b (fact_wants_right S a b n e) v.1)

  pub fact_whole : (t : Term) → is_fact S t ≡ true → EachVar Small t → Spine 0 t
  fact_whole t e v = fact_spine t 0 (is_fact_wants S t e) v

  -- the first token of a spine is a symbol whose arity counts the arguments that it has and those that it lacks
  pub record First (n : ℕ) (t : Term) (k : ℕ) : Type 0 where
    pub token : ℕ
    pub has : ar token ≡ n + k
    pub symbol : 64 ≤ token
    pub front : (l : List ℕ) → (m : List ℕ) × (leaves t l ≡ token ∷ m)

  pub first_of : {n : ℕ} {t : Term} → Spine n t → (k : ℕ) × First n t k × ((f : ℕ) → t ≡ con f → k ≡ 0) × ((a b : Term) → t ≡ a · b → 1 ≤ k)
  unfolding leaves
  first_of {n} (head f e s) = (0, record { token = f; has = e ∙ sym (add-zero n); symbol = s; front = λ l. (l, refl) }, (λ g p. refl), λ a b p. no_confusion (cc))
  first_of {n} (more {b = b} p q) =
      let w = first_of p in
      let u = w.1 in (
        suc w.0,
        record { token = u.token; has = omega (arith, u.has); symbol = u.symbol; front = λ l. u.front (leaves b l) },
        (λ g e. no_confusion (cc)),
        λ a b e. omega arith,
      )

  -- two whole terms with the same first tokens are the same
  pub term_unique : (u c : Term) → Whole u → Whole c → (r : List ℕ) → take (size c) (leaves u r) ≡ leaves c [] → u ≡ c
  term_unique u c wu wc r e =
      let a = whole_term wu in
      let b = whole_term wc in
      let m : leaves u r ≡ leaves c (drop (size c) (leaves u r)) =
      sym (take-append-drop (size c) (leaves u r)) ∙ ap (λ (l : List ℕ). l ++ drop (size c) (leaves u r)) e ∙ sym (leaves_front c (drop (size c) (leaves u r))) in
      let z : u ∷ terms ar r ≡ c ∷ terms ar (drop (size c) (leaves u r)) =
      sym (terms_term ar S agrees u r a.0 a.1) ∙ ap (terms ar) m ∙ terms_term ar S agrees c (drop (size c) (leaves u r)) b.0 b.1 in
      cc

  pub span_whole : (c : Term) (rest : List ℕ) → Whole c → span ar 1 (leaves c rest) ≡ size c
  span_whole c rest w = let b = whole_term w in span_term ar S agrees c rest b.0 b.1

  -- ---- bindings
  module _ (text : List ℕ) where
    -- the term u stands at place p of the text
    abbrev pub At : ℕ → Term → Type 0
    At p u = (rest : List ℕ) × (drop p text ≡ leaves u rest)

    -- places that stand for the bindings β
    pub record Means (b : List ℕ) (β : Bindings) : Type 0 where
      pub room : length b ≡ 64
      pub free : (x : ℕ) → x < 64 → get_or b x 0 ≡ 0 → lookup x β ≡ none
      pub held : (x s : ℕ) → x < 64 → get_or b x 0 ≡ suc s → (u : Term) × (lookup x β ≡ some u) × At s u × Whole u

    -- what matching the tokens of a pattern answers, where those of `k` come after it and c stands at p
    abbrev pub Result : Term → Term → List ℕ → ℕ → List ℕ → Option Bindings → Type 0
    Result t c k p b (some β) = (b' : List ℕ) × Means b' β × (matched ar (leaves t k) text p b ≡ matched ar k text (p + size c) b')
    Result t c k p b none = (matched ar (leaves t k) text p b).0 ≡ false

    at_token : (p t : ℕ) (m : List ℕ) → drop p text ≡ t ∷ m → get_or text p 0 ≡ t
    at_token p t m e = ap (λ (i : ℕ). get_or text i 0) (sym (add-zero p)) ∙ sym (get_or-drop p text 0 0) ∙ ap (λ (l : List ℕ). get_or l 0 0) e

    -- another symbol than the pattern's
    symbol_fails : (f : ℕ) (k : List ℕ) (p : ℕ) (b : List ℕ) → 64 ≤ f → get_or text p 0 ≢ f → (matched ar (f ∷ k) text p b).0 ≡ false
    unfolding matched
    symbol_fails f k p b s n = rw (le-ltb f 64 s, ne_eqb f (get_or text p 0) (λ e. n (sym e)), matched)

    symbol_goes : (f : ℕ) (k : List ℕ) (p : ℕ) (b : List ℕ) → 64 ≤ f → get_or text p 0 ≡ f → matched ar (f ∷ k) text p b ≡ matched ar k text (p + 1) b
    unfolding matched
    symbol_goes f k p b s e = rw (le-ltb f 64 s, eq-eqb f (get_or text p 0) (sym e), add-one, matched)

    fails_first : {n : ℕ} {t : Term} (k : ℕ) → First n t k → (l : List ℕ) (p : ℕ) (b : List ℕ) → ((f : ℕ) → ar f ≡ n + k → 64 ≤ f → get_or text p 0 ≢ f) → (matched ar (leaves t l) text p b).0 ≡ false
    fails_first k u l p b h = rw (u.front l).1 (symbol_fails u.token (u.front l).0 p b u.symbol (h u.token u.has u.symbol))

    -- a variable that is free, and one that stands for the term at place s
    var_free : (x : ℕ) (k : List ℕ) (p n : ℕ) (b : List ℕ) → x < 64 → get_or b x 0 ≡ 0 → span ar 1 (drop p text) ≡ n → matched ar (x ∷ k) text p b ≡ matched ar k text (p + n) (set b x (suc p))
    unfolding matched
    var_free x k p n b l e w = rw (lt-ltb x 64 l, e, w, matched)

    var_same : (x : ℕ) (k : List ℕ) (p n s : ℕ) (b : List ℕ) → x < 64 → get_or b x 0 ≡ suc s → span ar 1 (drop p text) ≡ n → agree text n s p ≡ true → matched ar (x ∷ k) text p b ≡ matched ar k text (p + n) b
    unfolding matched
    var_same x k p n s b l e w a = rw (lt-ltb x 64 l, e, w, a, matched, w)

    var_other : (x : ℕ) (k : List ℕ) (p n s : ℕ) (b : List ℕ) → x < 64 → get_or b x 0 ≡ suc s → span ar 1 (drop p text) ≡ n → agree text n s p ≡ false → (matched ar (x ∷ k) text p b).0 ≡ false
    unfolding matched
    var_other x k p n s b l e w a = rw (lt-ltb x 64 l, e, w, a, matched)

    -- one binding more
    lookup_new : (x y : ℕ) (c : Term) (β : Bindings) → y ≢ x → lookup y ((x, c) ∷ β) ≡ lookup y β
    unfolding lookup
    lookup_new x y c β n = rw (ne_eqb y x n, lookup)

    lookup_here : (x : ℕ) (c : Term) (β : Bindings) → lookup x ((x, c) ∷ β) ≡ some c
    unfolding lookup
    lookup_here x c β = rw (eq-eqb x x refl, lookup)

    means_more : (b : List ℕ) (β : Bindings) (x p : ℕ) (c : Term) → Means b β → x < 64 → At p c → Whole c → Means (set b x (suc p)) ((x, c) ∷ β)
    means_more b β x p c M l at w = record { room = length-set b x (suc p) ∙ M.room; free = free; held = held }
      where
        here : get_or (set b x (suc p)) x 0 ≡ suc p
        here = get_or-set_same b x (suc p) 0 (omega (arith, M.room))

        free : (y : ℕ) → y < 64 → get_or (set b x (suc p)) y 0 ≡ 0 → lookup y ((x, c) ∷ β) ≡ none
        free y k e = go (eqb y x) refl
          where
            go : (d : Bool) → eqb y x ≡ d → lookup y ((x, c) ∷ β) ≡ none
            go true q = absurd (let z : suc p ≡ 0 = sym here ∙ ap (λ (i : ℕ). get_or (set b x (suc p)) i 0) (sym (eqb-true y x q)) ∙ e in omega arith)
            go false q = lookup_new x y c β (eqb-false y x q) ∙ M.free y k (sym (get_or-set_other b x y (suc p) 0 (eqb-false y x q)) ∙ e)

        held : (y s : ℕ) → y < 64 → get_or (set b x (suc p)) y 0 ≡ suc s → (u : Term) × (lookup y ((x, c) ∷ β) ≡ some u) × At s u × Whole u
        held y s k e = go (eqb y x) refl
          where
            go : (d : Bool) → eqb y x ≡ d → (u : Term) × (lookup y ((x, c) ∷ β) ≡ some u) × At s u × Whole u
            go true q =
                let y≡x = eqb-true y x q in
                let z : p ≡ s = (let v : suc p ≡ suc s = sym here ∙ ap (λ (i : ℕ). get_or (set b x (suc p)) i 0) (sym y≡x) ∙ e in omega arith) in
                (c, ap (λ (i : ℕ). lookup i ((x, c) ∷ β)) y≡x ∙ lookup_here x c β, subst (λ (i : ℕ). At i c) z at, w)
            go false q =
                let n = eqb-false y x q in
                let m = M.held y s k (sym (get_or-set_other b x y (suc p) 0 n) ∙ e) in
                (m.0, lookup_new x y c β n ∙ m.1, m.2, m.3)

    -- two places agree over the tokens of c exactly where they hold the same term
    agree_same : (c u : Term) (s p : ℕ) → At s u → At p c → Whole u → Whole c → (d : Bool) → SameOk u c d → agree text (size c) s p ≡ d
    unfolding agree
    agree_same c u s p (r, e) (q, f) wu wc d h = ap₂ same_bytes left' right' ∙ go d h
      where
        left' : take (size c) (drop s text) ≡ take (size c) (leaves u r)
        left' = ap (take (size c)) e

        right' : take (size c) (drop p text) ≡ leaves c []
        right' = ap (take (size c)) f ∙ take_leaves c q

        go : (d : Bool) → SameOk u c d → same_bytes (take (size c) (leaves u r)) (leaves c []) ≡ d
        go true z = ap (λ (v : Term). same_bytes (take (size c) (leaves v r)) (leaves c [])) z ∙ ap (λ (l : List ℕ). same_bytes l (leaves c [])) (take_leaves c r) ∙ same_bytes_refl (leaves c [])
        go false z = other (same_bytes (take (size c) (leaves u r)) (leaves c [])) refl
          where
            other : (b : Bool) → same_bytes (take (size c) (leaves u r)) (leaves c []) ≡ b → b ≡ false
            other true k = absurd (z (term_unique u c wu wc r (same_bytes_eq _ _ k)))
            other false k = refl

    var_ok : (x : ℕ) → x < 64 → (c : Term) → Whole c → (k : List ℕ) (p : ℕ) (b : List ℕ) (β : Bindings) → Means b β → At p c → Result (var x) c k p b (bind_to x c β)
    unfolding leaves bind_to
    var_ok x l c w k p b β M at = go (get_or b x 0) refl
      where
        n≡ : span ar 1 (drop p text) ≡ size c
        n≡ = ap (span ar 1) at.1 ∙ span_whole c at.0 w

        stands : (s : ℕ) → get_or b x 0 ≡ suc s → (u : Term) → At s u → Whole u → (d : Bool) → SameOk u c d → Result (var x) c k p b (elim d [ true ↦ some β | false ↦ none ])
        stands s e u a wu true h = (b, M, var_same x k p (size c) s b l e n≡ (agree_same c u s p a at wu w true h))
        stands s e u a wu false h = var_other x k p (size c) s b l e n≡ (agree_same c u s p a at wu w false h)

        go : (v : ℕ) → get_or b x 0 ≡ v → Result (var x) c k p b (elim (lookup x β) [ none ↦ some ((x, c) ∷ β) | some u ↦ elim (same u c) [ true ↦ some β | false ↦ none ] ])
        go zero e =
            subst (λ (o : Option Term). Result (var x) c k p b (elim o [ none ↦ some ((x, c) ∷ β) | some u ↦ elim (same u c) [ true ↦ some β | false ↦ none ] ])) (sym (M.free x l e))
            (set b x (suc p), means_more b β x p c M l at w, var_free x k p (size c) b l e n≡)
        go (suc s) e =
            let m = M.held x s l e in
            subst (λ (o : Option Term). Result (var x) c k p b (elim o [ none ↦ some ((x, c) ∷ β) | some u ↦ elim (same u c) [ true ↦ some β | false ↦ none ] ])) (sym m.1)
            (stands s e m.0 m.2 m.3 (same m.0 c) (same_ok m.0 c))

    con_ok : (f g : ℕ) → 64 ≤ f → (k : List ℕ) (p : ℕ) (b : List ℕ) (β : Bindings) → Means b β → At p (con g) → (d : Bool) → eqb f g ≡ d → Result (con f) (con g) k p b (elim d [ true ↦ some β | false ↦ none ])
    unfolding leaves size
    con_ok f g s k p b β M at true e = (b, M, symbol_goes f k p b s (at_token p g at.0 at.1 ∙ sym (eqb-true f g e)))
    con_ok f g s k p b β M at false e = symbol_fails f k p b s (λ z. eqb-false f g e (sym z ∙ at_token p g at.0 at.1))

    -- a variable's token is no symbol
    not_var : (p y : ℕ) → y < 64 → At p (var y) → (f : ℕ) → 64 ≤ f → get_or text p 0 ≢ f
    unfolding leaves
    not_var p y l at f s e = omega (arith, at_token p y at.0 at.1)

    at_left : (p : ℕ) (a d : Term) → At p (a · d) → At p a
    unfolding leaves
    at_left p a d at = (leaves d at.0, at.1)

    at_right : (p : ℕ) (a d : Term) → At p (a · d) → At (p + size a) d
    unfolding leaves
    at_right p a d at = (at.0, sym (drop-drop (size a) p text) ∙ ap (drop (size a)) at.1 ∙ drop_leaves a (leaves d at.0))

    -- first the heads, then the last arguments
    app_ok :
        (t q a d : Term) (k : List ℕ) (p : ℕ) (b : List ℕ) (β : Bindings) (o : Option Bindings) → Result t a (leaves q k) p b o
        → ((b' : List ℕ) (β' : Bindings) → Means b' β' → Result q d k (p + size a) b' (match q d β'))
        → Result (t · q) (a · d) k p b (elim o [ none ↦ none | some β' ↦ match q d β' ])
    unfolding leaves size
    app_ok t q a d k p b β none h n = h
    app_ok t q a d k p b β (some β') h n = go (match q d β') (n h.0 β' h.1)
      where
        go : (o : Option Bindings) → Result q d k (p + size a) h.0 o → Result (t · q) (a · d) k p b o
        go none z = ap (λ (v : Bool × List ℕ). v.0) h.2 ∙ z
        go (some β'') z = (z.0, z.1, h.2 ∙ z.2 ∙ ap (λ (i : ℕ). matched ar k text i z.0) (let y : p + size a + size d ≡ p + (size a + size d) = omega arith in y))

    -- a symbol meets a variable of the text
    var_fails : {n : ℕ} {t : Term} → Spine n t → (y : ℕ) → y < 64 → (k : List ℕ) (p : ℕ) (b : List ℕ) (β : Bindings) → At p (var y) → Result t (var y) k p b (match t (var y) β)
    unfolding match
    var_fails (head f e s) y l k p b β at = let z = first_of (head f e s) in fails_first z.0 z.1 k p b (λ h q m. not_var p y l at h m)
    var_fails (more u w) y l k p b β at = let z = first_of (more u w) in fails_first z.0 z.1 k p b (λ h q m. not_var p y l at h m)

    -- a symbol that has its arguments meets one that lacks some: their arities differ, so they do
    head_more : {n : ℕ} (f : ℕ) → ar f ≡ n → 64 ≤ f → {a d : Term} → Spine n (a · d) → (k : List ℕ) (p : ℕ) (b : List ℕ) → At p (a · d) → (matched ar (leaves (con f) k) text p b).0 ≡ false
    unfolding leaves
    head_more f e s {a} {d} u k p b at =
        let z = first_of u in
        let t = at_token p z.1.token (z.1.front at.0).0 (at.1 ∙ (z.1.front at.0).1) in
        symbol_fails f k p b s (λ r. omega (arith, z.1.has, z.3 a d refl, ap ar (sym r ∙ t)))

    more_head : {n : ℕ} {a d : Term} → Spine n (a · d) → (g : ℕ) → ar g ≡ n → (k : List ℕ) (p : ℕ) (b : List ℕ) → At p (con g) → (matched ar (leaves (a · d) k) text p b).0 ≡ false
    unfolding leaves
    more_head {a = a} {d = d} u g e k p b at =
        let z = first_of u in
        fails_first z.0 z.1 k p b (λ h q m r. omega (arith, z.3 a d refl, ap ar (sym r ∙ at_token p g at.0 at.1)))

    -- Matching a pattern's tokens against a term of the text answers as matching the terms does.
    mutual
      unfolding match

      pub spine_ok : {n : ℕ} {t c : Term} → Spine n t → Spine n c → (k : List ℕ) (p : ℕ) (b : List ℕ) (β : Bindings) → Means b β → At p c → Result t c k p b (match t c β)
      spine_ok (head f e s) (head g e' s') k p b β M at = con_ok f g s k p b β M at (eqb f g) refl
      spine_ok (head f e s) (more u w) k p b β M at = head_more f e s (more u w) k p b at
      spine_ok (more u w) (head g e' s') k p b β M at = more_head (more u w) g e' k p b at
      spine_ok (more {a = t} {b = q} u w) (more {a = a} {b = d} u' w') k p b β M at =
          app_ok t q a d k p b β (match t a β) (spine_ok u u' (leaves q k) p b β M (at_left p a d at))
          (λ b' β' M'. whole_ok w w' k (p + size a) b' β' M' (at_right p a d at))

      pub whole_ok : {t c : Term} → Whole t → Whole c → (k : List ℕ) (p : ℕ) (b : List ℕ) (β : Bindings) → Means b β → At p c → Result t c k p b (match t c β)
      whole_ok {c = c} (is_var x l) w k p b β M at = var_ok x l c w k p b β M at
      whole_ok (is_spine s e v) (is_spine s' e' v') k p b β M at = spine_ok s s' k p b β M at
      whole_ok (is_spine s e v) (is_var y l) k p b β M at = var_fails s y l k p b β at
