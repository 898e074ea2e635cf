-- What is written is a derivation: every step follows, however the writing ends, and it ends with the query unless room lacks. Assumes nothing.
use Prim.Native.Nat.{ℕ, zero, suc, ◌+◌, ◌*◌, ◌≤◌, ◌<◌}
use Rattle.std.proofs.Common.{arith, ap₂, ◌∙◌, sym}
use Rattle.std.specs.Prelude.{Bool, ◌≡◌, ◌⊎◌, leb}
use Rattle.std.proofs.Math.Bool.{true, false}
use Rattle.std.proofs.Math.Option.{Option, none, some}
use mathlib.Core.List.{List, [], ◌∷◌, ◌++◌, map, append-nil, append_assoc}
use Rattle.std.proofs.Math.Path.{refl, ap, subst}
use Rattle.std.proofs.Math.Logic.{inl, inr}
use Rattle.std.proofs.Math.ListN.{length}
use borrow.Author.Tests.{leb-true, leb-false}
use Rattle.model.specs.Term.{Term, var, con, ◌·◌, sub, same, size, closed, elem, apply}
use Rattle.model.specs.Rule.{Rule, Limits, vars_of, place, drop_copies, normal}
use Rattle.model.specs.Table.{Origin, input, combined, asked, Rec, rec_at, Cause, rules_full, rule_large, goals_full, goal_large, steps_full, fact_large, found, lack, Progress, going, stopped, and_then}
use Rattle.model.specs.Run.{goal0}
use Rattle.model.specs.Write.{Step, constant, or_else, filler, rule_at, rule_of, before, parents, input_values, concluded, numbers, all_short, put_step, step_by, write_step, write_input, record', write, derivation}
use Rattle.model.specs.Check.{fact_at, facts_at}
use Rattle.model.specs.Derive.{Closed}
use Rattle.theory.specs.Basics.{true≢false, no_confusion}
use Rattle.theory.specs.Closed.{closed_sub, closed_of}
use Rattle.theory.specs.Embed.{Mem, mem_nil, mem_cons, mem_here, mem_there, mem_left, mem_right, mem_unmap, sel_cases, map_append}
use Rattle.theory.specs.Implies.{same_ok, SameOk}
use Rattle.theory.specs.Combine.{sel_nth}
use Rattle.theory.specs.Sound.{firsts_mem}
use Rattle.theory.specs.Tables.{at_lt, length_snoc}
use Rattle.theory.specs.Parents.{Parents, parents_ok, concl_before, hyp_before}
use Rattle.theory.specs.Checks.{Follows, AllFollow, next, Last}
use Rattle.theory.specs.Origins.{rank, RuleIs, Prov, is_input, is_asked, is_combined, ProvAll}

-- ---- facts that are concluded
abbrev fact_of : Step → Term
fact_of s = s.fact

abbrev pub Known : Term → List Step → Type 0
Known f ss = Mem f (map fact_of ss)

-- what the search for a step that concludes f answers
abbrev ConcludedOk : Term → List Step → ℕ → Option ℕ → Type 0
ConcludedOk f ss j (some i) = Known f ss × (n : ℕ) × (i ≡ j + n) × (fact_at ss n ≡ some f)
ConcludedOk f ss j none = Known f ss → ⊥

concluded_ok : (f : Term) (ss : List Step) (j : ℕ) → ConcludedOk f ss j (concluded f ss j)
unfolding concluded fact_at
concluded_ok f [] j = λ k. mem_nil k
concluded_ok f (s ∷ ss) j = go (same f s.fact) (same_ok f s.fact) (concluded f ss (suc j)) (concluded_ok f ss (suc j))
  where
    go : (c : Bool) → SameOk f s.fact c → (o : Option ℕ) → ConcludedOk f ss (suc j) o → ConcludedOk f (s ∷ ss) j (elim c [ true ↦ some j | false ↦ o ])
    go true h o k = (subst (λ (z : Term). Mem f (z ∷ map fact_of ss)) h mem_here, 0, omega arith, ap some (sym h))
    go false h (some i) k = (mem_there k.0, suc k.1, omega (arith, k.2), k.3)
    go false h none k = λ m. elim (mem_cons m) [ inl e ↦ h e | inr z ↦ k z ]

number_at : (f : Term) (ss : List Step) → Known f ss → fact_at ss (or_else 0 (concluded f ss 0)) ≡ some f
unfolding or_else
number_at f ss k = go (concluded f ss 0) (concluded_ok f ss 0)
  where
    go : (o : Option ℕ) → ConcludedOk f ss 0 o → fact_at ss (or_else 0 o) ≡ some f
    go (some i) h = ap (fact_at ss) (omega (arith, h.2)) ∙ h.3
    go none h = absurd (h k)

-- the numbers written for facts that are known lead to these facts
numbers_at : (l : List Term) (ss : List Step) → ((f : Term) → Mem f l → Known f ss) → facts_at ss (numbers l ss) ≡ some l
unfolding facts_at numbers
numbers_at [] ss h = refl
numbers_at (f ∷ l) ss h = go (fact_at ss (or_else 0 (concluded f ss 0))) (number_at f ss (h f mem_here)) (facts_at ss (numbers l ss)) (numbers_at l ss (λ x m. h x (mem_there m)))
  where
    go : (o : Option Term) → o ≡ some f → (p : Option (List Term)) → p ≡ some l → elim o as (λ _. Option (List Term)) [ none ↦ none | some g ↦ elim p [ none ↦ none | some gs ↦ some (g ∷ gs) ] ] ≡ some (f ∷ l)
    go none e p e' = no_confusion (cc)
    go (some g) e none e' = no_confusion (cc)
    go (some g) e (some gs) e' = let x : g ≡ f = cc in let y : gs ≡ l = cc in ap₂ (λ (a : Term) (b : List Term). some (a ∷ b)) x y

known_more : (f : Term) (ss : List Step) (s : Step) → Known f ss → Known f (ss ++ (s ∷ []))
known_more f ss s k = rw map_append (mem_left (s.fact ∷ []) k)

known_new : (ss : List Step) (s : Step) → Known s.fact (ss ++ (s ∷ []))
known_new ss s = rw map_append (mem_right (map fact_of ss) mem_here)

known_cases : (f : Term) (ss : List Step) (s : Step) → Known f (ss ++ (s ∷ [])) → Known f ss ⊎ (f ≡ s.fact)
known_cases f [] s k = elim (mem_cons k) [ inl e ↦ inr e | inr z ↦ absurd (mem_nil z) ]
known_cases f (x ∷ ss) s k =
    elim (mem_cons k) [
      | inl e ↦ inl (subst (λ (z : Term). Mem f (z ∷ map fact_of ss)) e mem_here)
      | inr z ↦ elim (known_cases f ss s z) [ inl a ↦ inl (mem_there a) | inr b ↦ inr b ]
    ]

-- one step more
follow_snoc : (rs : List Rule) {ss : List Step} (l : List Step) (s : Step) → AllFollow rs ss l → Follows rs (ss ++ l) s → AllFollow rs ss (l ++ (s ∷ []))
follow_snoc rs {ss} [] s AllFollow.none h = next (subst (λ (z : List Step). Follows rs z s) (append-nil ss) h) AllFollow.none
follow_snoc rs {ss} (x ∷ l) s (next f a) h = next f (follow_snoc rs l s a (subst (λ (z : List Step). Follows rs z s) (sym (append_assoc ss (x ∷ []) l)) h))

-- ---- closed values
abbrev ConstOk : Option Term → Type 0
ConstOk none = Unit {0}
ConstOk (some c) = Closed c

first_const : (o p : Option Term) → ConstOk o → ConstOk p → ConstOk (elim o [ some u ↦ some u | none ↦ p ])
first_const none p h k = k
first_const (some c) p h k = h

constant_ok : (q : Term) → ConstOk (constant q)
unfolding constant closed
constant_ok (var x) = tt
constant_ok (con f) = tt
constant_ok (a · var x) = constant_ok a
constant_ok (a · con c) = first_const (constant a) (some (con c)) (constant_ok a) refl
constant_ok (a · (c · d)) = first_const (constant a) (constant (c · d)) (constant_ok a) (constant_ok (c · d))

pub filler_closed : (q : Term) → Closed (filler q)
unfolding filler or_else closed
filler_closed q = go (constant q) (constant_ok q)
  where
    go : (o : Option Term) → ConstOk o → Closed (or_else (con 0) o)
    go none h = refl
    go (some c) h = h

abbrev AllValues : (ℕ → Term) → Type 0
AllValues θ = (x : ℕ) → Closed (θ x)

before_closed : (vs : List ℕ) (c : Term) (θ : ℕ → Term) → Closed c → AllValues θ → AllValues (before vs c θ)
unfolding before
before_closed vs c θ k h x = go (elem x vs)
  where
    go : (b : Bool) → Closed (elim b [ true ↦ θ (suc (place x vs)) | false ↦ c ])
    go true = h (suc (place x vs))
    go false = k

parents_closed : (c : Term) (r r' : Rule) (k : ℕ) (θ : ℕ → Term) → Closed c → AllValues θ → AllValues (parents c r r' k θ)
unfolding parents
parents_closed c r r' k θ h v z = closed_of _ (before_closed _ c θ h v) (apply _ (var z))

-- no fact of the list is longer than the limit
short_first : (m : ℕ) (t : Term) (l : List Term) → all_short m (t ∷ l) ≡ true → size t ≤ m
unfolding all_short
short_first m t l e = go (leb (size t) m) refl e
  where
    go : (c : Bool) → leb (size t) m ≡ c → elim c as (λ _. Bool) [ true ↦ all_short m l | false ↦ false ] ≡ true → size t ≤ m
    go true p e' = leb-true (size t) m p
    go false p e' = true≢false e' refl

-- ---- the writing
module _ (L : Limits) (rs : List Rule) (t g : List Rec) (query : Term) (closed-q : Closed query) where
  -- no step's fact is too long for it
  abbrev pub Short : List Step → Type 0
  Short u = (f : Term) → Known f u → size f ≤ L.max_tokens

  -- What is so of the steps u at any time.
  pub record Written (u : List Step) : Type 0 where
    pub follow : AllFollow rs [] u
    pub count : length u ≤ L.max_steps
    pub short : Short u

  -- .. and while the writing goes on, after an instance that concludes f: f is concluded, the query is not.
  pub record More (ss : List Step) (f : Term) (u : List Step) : Type 0 where
    pub written : Written u
    pub ext : (h : Term) → Known h ss → Known h u
    pub known : Known f u
    pub not_yet : Known query u → ⊥

  -- Why the writing lacked room: no step was free, or an instance had a fact that is too long.
  abbrev pub Lacked : Cause → List Step → Type 0
  Lacked steps_full u = L.max_steps ≤ length u
  Lacked fact_large u = (goal : Bool) × (i : ℕ) × (x : Rec) × (θ : ℕ → Term) × (record' L rs t g query goal i ≡ some x) × AllValues θ × (all_short L.max_tokens (map (sub θ) (x.rule.concl ∷ x.rule.hyps)) ≡ false)
  Lacked rules_full u = ⊥
  Lacked rule_large u = ⊥
  Lacked goals_full u = ⊥
  Lacked goal_large u = ⊥

  abbrev pub WriteOk : List Step → Term → Progress (List Step) → Type 0
  WriteOk ss f (going u) = More ss f u
  WriteOk ss f (stopped found u) = Written u × Last query u
  WriteOk ss f (stopped (lack c) u) = Written u × Lacked c u

  abbrev W : ℕ → Bool → ℕ → (ℕ → Term) → List Step → Progress (List Step)
  W = write L rs t g query

  abbrev At : Bool → ℕ → Option Rec
  At = record' L rs t g query

  put_ok :
      (ss : List Step) (s : Step) (f : Term) → Written ss → Follows rs ss s → size s.fact ≤ L.max_tokens → s.fact ≡ f → (Known query ss → ⊥)
      → (a : Bool) → leb L.max_steps (length ss) ≡ a → (b : Bool) → SameOk s.fact query b → WriteOk ss f (put_step a b ss s)
  unfolding put_step
  put_ok ss s f w h z e ny true l b k = (w, leb-true L.max_steps (length ss) l)
  put_ok ss s f w h z e ny false l b k = go b k
    where
      new : Written (ss ++ (s ∷ []))
      new =
          record {
            follow = follow_snoc rs ss s w.follow h;
            count = omega (arith, leb-false L.max_steps (length ss) l, length_snoc ss s);
            short = λ y m. elim (known_cases y ss s m) [ inl i ↦ w.short y i | inr p ↦ subst (λ (v : Term). size v ≤ L.max_tokens) (sym p) z ];
          }

      go : (b : Bool) → SameOk s.fact query b → WriteOk ss f (put_step false b ss s)
      go true k = (new, (ss, s, refl, k))
      go false k =
          record {
            written = new;
            ext = λ y m. known_more y ss s m;
            known = subst (λ (v : Term). Known v (ss ++ (s ∷ []))) e (known_new ss s);
            not_yet = λ m. elim (known_cases query ss s m) [ inl a ↦ ny a | inr p ↦ k (sym p) ];
          }

  -- an input rule: its hypotheses, repeats included, are concluded if those of its record are
  input_ok :
      (a : ℕ) (r : Rule) → rule_at rs a ≡ some r → (θ : ℕ → Term) → AllValues θ → (ss : List Step) (x : Rule) → x ≡ normal r → Written ss → (Known query ss → ⊥)
      → ((h : Term) → Mem h x.hyps → Known (sub θ h) ss) → size (sub θ x.concl) ≤ L.max_tokens → WriteOk ss (sub θ x.concl) (write_step L rs t g query a r θ ss)
  unfolding write_step step_by input_values normal drop_copies
  input_ok a r at θ v ss x e w ny hy z =
      put_ok ss _ (sub θ x.concl) w
      (record {
        rule = r;
        named = at;
        is_closed = closed_of θ' θ'_closed r.concl;
        values = θ';
        on_concl = refl;
        on_hyps = numbers_at (map (sub θ') r.hyps) ss (λ f m. let n = mem_unmap (sub θ') f r.hyps m in subst (λ (y : Term). Known y ss) n.2 (hyps n.0 n.1));
      })
      (subst (λ (y : Term). size y ≤ L.max_tokens) (sym concl) z) concl ny
      (leb L.max_steps (length ss)) refl (same (sub θ' r.concl) query) (same_ok (sub θ' r.concl) query)
    where
      θ' : ℕ → Term
      θ' = before (vars_of (drop_copies r)) (filler query) θ

      θ'_closed : AllValues θ'
      θ'_closed = before_closed (vars_of (drop_copies r)) (filler query) θ (filler_closed query) v

      concl : sub θ' r.concl ≡ sub θ x.concl
      concl = sym (concl_before (drop_copies r) (filler query) θ) ∙ ap (λ (y : Rule). sub θ y.concl) (sym e)

      hyps : (h : Term) → Mem h r.hyps → Known (sub θ' h) ss
      hyps h m =
          let n = mem_unmap (sub θ) _ _ (hyp_before (drop_copies r) (filler query) θ h (firsts_mem h r.hyps m)) in
          subst (λ (y : Term). Known y ss) n.2 (hy n.0 (subst (λ (y : Rule). Mem n.0 y.hyps) (sym e) n.1))

  then_ok :
      (ss : List Step) (f c : Term) (o : Progress (List Step)) (k : List Step → Progress (List Step)) → WriteOk ss f o
      → ((u : List Step) → More ss f u → WriteOk u c (k u)) → WriteOk ss c (and_then o k)
  unfolding and_then
  then_ok ss f c (going u) k h n = go (k u) (n u h)
    where
      go : (o : Progress (List Step)) → WriteOk u c o → WriteOk ss c o
      go (going v) m = record { written = m.written; ext = λ y z. m.ext y (h.ext y z); known = m.known; not_yet = m.not_yet }
      go (stopped found v) m = m
      go (stopped (lack d) v) m = m
  then_ok ss f c (stopped found u) k h n = h
  then_ok ss f c (stopped (lack d) u) k h n = h

  module _ (prov_t : ProvAll rs t t query false) (prov_g : ProvAll rs t g query true) where
    own : Bool → List Rec
    own true = g
    own false = t

    prov : (goal : Bool) (i : ℕ) (x : Rec) → At goal i ≡ some x → Prov rs t (own goal) query i x goal
    unfolding record' own
    prov true i x e = prov_g i x e
    prov false i x e = prov_t i x e

    own_at : (goal : Bool) (b : ℕ) (r : Rule) → RuleIs (own goal) b r → RuleIs (own goal) b r × ((x : Rec) × (At goal b ≡ some x) × (x.rule ≡ r))
    unfolding record' own
    own_at true b r w = (w, w)
    own_at false b r w = (w, w)

    -- If the hypotheses of an instance are concluded, what is written of it concludes its conclusion.
    pub Writes : ℕ → Type 0
    Writes n =
        (goal : Bool) (i : ℕ) (θ : ℕ → Term) → AllValues θ → (ss : List Step) (x : Rec) → At goal i ≡ some x → rank t goal i < n → Written ss → (Known query ss → ⊥)
        → ((h : Term) → Mem h x.rule.hyps → Known (sub θ h) ss) → WriteOk ss (sub θ x.rule.concl) (W n goal i θ ss)

    rank_lower : (goal : Bool) (i a : ℕ) (r : Rule) → RuleIs t a r → (goal ≡ false → a < i) → rank t false a < rank t goal i
    rank_lower true i a r w l = omega (arith, at_lt t a w.0 w.1)
    rank_lower false i a r w l = l refl

    rank_own : (goal : Bool) (i b : ℕ) → b < i → rank t goal b < rank t goal i
    rank_own true i b l = omega arith
    rank_own false i b l = l

    combined_ok :
        (n : ℕ) → Writes n → (goal : Bool) (i : ℕ) (θ : ℕ → Term) → AllValues θ → (ss : List Step) (x : Rec) → rank t goal i < suc n → Written ss → (Known query ss → ⊥)
        → ((h : Term) → Mem h x.rule.hyps → Known (sub θ h) ss)
        → (k a b : ℕ) (r r' : Rec) → At false a ≡ some r → At goal b ≡ some r' → rank t false a < rank t goal i → rank t goal b < rank t goal i
        → (σ : ℕ → Term) → AllValues σ → Parents r.rule r'.rule x.rule k θ σ
        → WriteOk ss (sub θ x.rule.concl) (and_then (W n false a (λ y. σ (2 * y)) ss) (W n goal b (λ y. σ (2 * y + 1))))
    unfolding Writes
    combined_ok n rec goal i θ v ss x l w ny hy k a b r r' e e' la lb σ vs P =
        then_ok ss (sub (λ y. σ (2 * y)) r.rule.concl) (sub θ x.rule.concl) (W n false a (λ y. σ (2 * y)) ss) (W n goal b (λ y. σ (2 * y + 1)))
        (rec false a (λ y. σ (2 * y)) (λ y. vs (2 * y)) ss r e (omega arith) w ny (λ h m. back (P.hyps_l h m)))
        (λ u c.
        subst (λ (z : Term). WriteOk u z (W n goal b (λ y. σ (2 * y + 1)) u)) P.concl
        (rec goal b (λ y. σ (2 * y + 1)) (λ y. vs (2 * y + 1)) u r' e' (omega arith) c.written c.not_yet
        (λ h m.
        elim (sel_cases (sel_nth r'.rule.hyps k P.hyp P.at) m.1) [
          | inl p ↦ subst (λ (z : Term). Known z u) (P.meet ∙ ap (sub _) (sym p)) c.known
          | inr j ↦ c.ext _ (back (P.hyps_r h j))
        ])))
      where
        back : {y : Term} → Mem y (map (sub θ) x.rule.hyps) → Known y ss
        back {y} m = let z = mem_unmap (sub θ) y x.rule.hyps m in subst (λ (q : Term). Known q ss) z.2 (hy z.0 z.1)

    abbrev by_origin : ℕ → Bool → Rec → (ℕ → Term) → List Step → Origin → Progress (List Step)
    by_origin n goal x θ ss o =
        elim o [
          | asked ↦ going ss
          | input a ↦ write_input L rs t g query a (rule_at rs a) θ ss
          | combined k a b ↦
              let σ = parents (filler query) (rule_of (rec_at t a)) (rule_of (At goal b)) k θ in
              and_then (W n false a (λ y. σ (2 * y)) ss) (W n goal b (λ y. σ (2 * y + 1)))
        ]

    origin_ok :
        (n : ℕ) → Writes n → (goal : Bool) (i : ℕ) (θ : ℕ → Term) → AllValues θ → (ss : List Step) (x : Rec) → rank t goal i < suc n → Written ss → (Known query ss → ⊥)
        → ((h : Term) → Mem h x.rule.hyps → Known (sub θ h) ss) → size (sub θ x.rule.concl) ≤ L.max_tokens → Prov rs t (own goal) query i x goal
        → WriteOk ss (sub θ x.rule.concl) (by_origin n goal x θ ss x.origin)
    unfolding write_input rule_of record' goal0
    origin_ok n rec goal i θ v ss x l w ny hy z (is_input a r u at e) =
        subst (λ (o : Origin). WriteOk ss (sub θ x.rule.concl) (by_origin n false x θ ss o)) (sym u)
        (subst (λ (o : Option Rule). WriteOk ss (sub θ x.rule.concl) (write_input L rs t g query a o θ ss)) (sym at)
        (input_ok a r at θ v ss x.rule e w ny hy z))
    origin_ok n rec goal i θ v ss x l w ny hy z (is_asked u e) =
        absurd (ny (subst (λ (q : Term). Known q ss) (closed_sub query closed-q θ) (hy query (subst (λ (r : Rule). Mem query r.hyps) (sym e) mem_here))))
    origin_ok n rec goal i θ v ss x l w ny hy z (is_combined k a b r r' u p q la lb c) =
        let m = own_at goal b r' q in
        subst (λ (o : Origin). WriteOk ss (sub θ x.rule.concl) (by_origin n goal x θ ss o)) (sym u)
        (combined_ok n rec goal i θ v ss x l w ny hy k a b p.0 m.1.0 p.1 m.1.1 (rank_lower goal i a r p la) (rank_own goal i b lb)
        (parents (filler query) (rule_of (rec_at t a)) (rule_of (At goal b)) k θ)
        (parents_closed (filler query) (rule_of (rec_at t a)) (rule_of (At goal b)) k θ (filler_closed query) v)
        (subst (λ (y : Rule). Parents p.0.rule m.1.0.rule x.rule k θ (parents (filler query) y (rule_of (At goal b)) k θ)) (sym (ap rule_of p.1))
        (subst (λ (y : Rule). Parents p.0.rule m.1.0.rule x.rule k θ (parents (filler query) p.0.rule y k θ)) (sym (ap rule_of m.1.1))
        (parents_ok (filler query) p.0.rule m.1.0.rule k θ x.rule (rw (p.2, m.1.2) c)))))

    instance_ok :
        (n : ℕ) → Writes n → (goal : Bool) (i : ℕ) (θ : ℕ → Term) → AllValues θ → (ss : List Step) (x : Rec) → At goal i ≡ some x → rank t goal i < suc n → Written ss → (Known query ss → ⊥)
        → ((h : Term) → Mem h x.rule.hyps → Known (sub θ h) ss)
        → (a : Bool) → all_short L.max_tokens (map (sub θ) (x.rule.concl ∷ x.rule.hyps)) ≡ a → (o : Option ℕ) → ConcludedOk (sub θ x.rule.concl) ss 0 o
        → WriteOk ss (sub θ x.rule.concl) (elim a [ false ↦ stopped (lack fact_large) ss | true ↦ elim o [ some k ↦ going ss | none ↦ by_origin n goal x θ ss x.origin ] ])
    instance_ok n rec goal i θ v ss x e l w ny hy false s o c = (w, (goal, i, x, θ, e, v, s))
    instance_ok n rec goal i θ v ss x e l w ny hy true s (some k) c = record { written = w; ext = λ y z. z; known = c.0; not_yet = ny }
    instance_ok n rec goal i θ v ss x e l w ny hy true s none c =
        origin_ok n rec goal i θ v ss x l w ny hy (short_first L.max_tokens (sub θ x.rule.concl) (map (sub θ) x.rule.hyps) s) (prov goal i x e)

    pub write_ok : (n : ℕ) → Writes n
    unfolding Writes write
    write_ok zero goal i θ v ss x e l w ny hy = absurd (omega arith)
    write_ok (suc n) goal i θ v ss x e l w ny hy =
        subst
        (λ (o : Option Rec).
        WriteOk ss (sub θ x.rule.concl) (
        elim o [
          | none ↦ going ss
          | some x ↦
              elim (all_short L.max_tokens (map (sub θ) (x.rule.concl ∷ x.rule.hyps))) [
                | false ↦ stopped (lack fact_large) ss
                | true ↦ elim (concluded (sub θ x.rule.concl) ss 0) [ some k ↦ going ss | none ↦ by_origin n goal x θ ss x.origin ]
              ]
        ]))
        (sym e)
        (instance_ok n (write_ok n) goal i θ v ss x e l w ny hy (all_short L.max_tokens (map (sub θ) (x.rule.concl ∷ x.rule.hyps))) refl (concluded (sub θ x.rule.concl) ss 0) (concluded_ok (sub θ x.rule.concl) ss 0))

    -- From a last goal without hypotheses that concludes the query: the writing ends with the query, or lacks room.
    pub derivation_ok : (last : ℕ) (x : Rec) → length g ≡ suc last → rec_at g last ≡ some x → x.rule.hyps ≡ [] → x.rule.concl ≡ query → WriteOk [] query (derivation L rs t g query (length g))
    unfolding derivation record' Writes
    derivation_ok last x c e h q =
        subst (λ (n : ℕ). WriteOk [] query (derivation L rs t g query n)) (sym c)
        (subst (λ (f : Term). WriteOk [] f (W (length t + length g) true last (λ y. filler query) [])) (ap (sub _) q ∙ closed_sub query closed-q _)
        (write_ok (length t + length g) true last (λ y. filler query) (λ y. filler_closed query) [] x e (omega (arith, at_lt g last x e))
        (record { follow = AllFollow.none; count = omega arith; short = λ f m. absurd (mem_nil m) })
        mem_nil (λ f m. absurd (mem_nil (subst (λ (l : List Term). Mem f l) h m)))))
