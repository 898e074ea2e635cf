-- One-way matching and the search over hypotheses are right both ways, so the executable test decides implication (Definition 1). Assumes nothing.
use Rattle.std.specs.Prelude.{ℕ, Bool, true, false, List, [], ◌∷◌, map, ◌≡◌, refl, ◌⊎◌, ◌≢◌, eqb}
use Rattle.std.proofs.Common.{ap, ap₂, ◌∙◌, subst, sym, inl, inr, eqb-true, eq-eqb}
use Rattle.std.proofs.Math.Option.{Option, none, some}
use Rattle.std.proofs.lemmas.Bool.{eqb-false}
use Rattle.model.specs.Term.{Term, var, con, ◌·◌, sub, same, Bindings}
use Rattle.theory.specs.Basics.{true≢false, no_confusion}
use Rattle.theory.specs.Embed.{Sel, here, there, Emb, done, pick, Implies}
use Rattle.theory.specs.Unify.{inj_left, inj_right}
use Rattle.model.specs.Rule.{Rule, lookup, bind_to, match, choose, embeds, implies_by, implies}

-- ---- equality
abbrev pub SameOk : Term → Term → Bool → Type 0
SameOk s t true = s ≡ t
SameOk s t false = s ≢ t

same_eqb : (f : ℕ → Term) → ((x y : ℕ) → f x ≡ f y → x ≡ y) → (x y : ℕ) (c : Bool) → eqb x y ≡ c → SameOk (f x) (f y) c
same_eqb f inj x y true e = ap f (eqb-true x y e)
same_eqb f inj x y false e = λ h. eqb-false x y e (inj x y h)

same_app : (a b c d : Term) (x y : Bool) → SameOk a c x → SameOk b d y → SameOk (a · b) (c · d) (elim x [ true ↦ y | false ↦ false ])
same_app a b c d true true h k = ap₂ ◌·◌ h k
same_app a b c d true false h k = λ e. k (inj_right e)
same_app a b c d false y h k = λ e. h (inj_left e)

pub same_ok : (s t : Term) → SameOk s t (same s t)
unfolding same
same_ok (var x) (var y) = same_eqb var (λ x y h. cc) x y (eqb x y) refl
same_ok (var x) (con g) = λ h. no_confusion (cc)
same_ok (var x) (c · d) = λ h. no_confusion (cc)
same_ok (con f) (var y) = λ h. no_confusion (cc)
same_ok (con f) (con g) = same_eqb con (λ x y h. cc) f g (eqb f g) refl
same_ok (con f) (c · d) = λ h. no_confusion (cc)
same_ok (a · b) (var y) = λ h. no_confusion (cc)
same_ok (a · b) (con g) = λ h. no_confusion (cc)
same_ok (a · b) (c · d) = same_app a b c d (same a c) (same b d) (same_ok a c) (same_ok b d)

-- ---- bindings
abbrev pub Ext : Bindings → Bindings → Type 0
Ext b c = (x : ℕ) (u : Term) → lookup x b ≡ some u → lookup x c ≡ some u

abbrev pub Agree : (ℕ → Term) → Bindings → Type 0
Agree θ b = (x : ℕ) (u : Term) → lookup x b ≡ some u → θ x ≡ u

pub or_var : ℕ → Option Term → Term
or_var x none = var x
or_var x (some u) = u

pub as_sub : Bindings → ℕ → Term
as_sub b x = or_var x (lookup x b)

pub data Fits (b : Bindings) : Term → Term → Type 0 where
  fvar : {x : ℕ} {t : Term} → lookup x b ≡ some t → Fits b (var x) t
  fcon : {f : ℕ} → Fits b (con f) (con f)
  fapp : {p q c d : Term} → Fits b p c → Fits b q d → Fits b (p · q) (c · d)

pub fits_ext : {b c : Bindings} → Ext b c → {p t : Term} → Fits b p t → Fits c p t
fits_ext h (fvar {x = x} {t = t} e) = fvar (h x t e)
fits_ext h fcon = fcon
fits_ext h (fapp f g) = fapp (fits_ext h f) (fits_ext h g)

pub fits_sub : {b : Bindings} {p t : Term} → Fits b p t → sub (as_sub b) p ≡ t
unfolding sub as_sub or_var
fits_sub (fvar {x = x} e) = ap (or_var x) e
fits_sub fcon = refl
fits_sub (fapp f g) = ap₂ ◌·◌ (fits_sub f) (fits_sub g)

-- what a match answers
pub record Matched (p t : Term) (b c : Bindings) : Type 0 where
  pub ext : Ext b c
  pub fit : Fits c p t
  pub keeps : (θ : ℕ → Term) → Agree θ b → sub θ p ≡ t → Agree θ c

abbrev pub MatchOk : Term → Term → Bindings → Option Bindings → Type 0
MatchOk p t b none = (θ : ℕ → Term) → Agree θ b → sub θ p ≡ t → ⊥
MatchOk p t b (some c) = Matched p t b c

bound_ok : (x : ℕ) (u t : Term) (b : Bindings) → lookup x b ≡ some u → (c : Bool) → SameOk u t c → MatchOk (var x) t b (elim c [ true ↦ some b | false ↦ none ])
unfolding sub
bound_ok x u t b e true h = record { ext = λ y v k. k; fit = fvar (e ∙ ap some h); keeps = λ θ a k. a }
bound_ok x u t b e false h = λ θ a k. h (sym (a x u e) ∙ k)

lookup_here : (x : ℕ) (t : Term) (b : Bindings) → lookup x ((x, t) ∷ b) ≡ some t
unfolding lookup
lookup_here x t b = go (eqb x x) (eq-eqb x x refl)
  where
    go : (c : Bool) → c ≡ true → elim c [ true ↦ some t | false ↦ lookup x b ] ≡ some t
    go true e = refl
    go false e = true≢false e refl

-- either the new one or an old one
lookup_cons : (y x : ℕ) (t u : Term) (b : Bindings) → lookup y ((x, t) ∷ b) ≡ some u → ((y ≡ x) × (t ≡ u)) ⊎ (lookup y b ≡ some u)
unfolding lookup
lookup_cons y x t u b = go (eqb y x) refl
  where
    go : (c : Bool) → eqb y x ≡ c → elim c as (λ _. Option Term) [ true ↦ some t | false ↦ lookup y b ] ≡ some u → ((y ≡ x) × (t ≡ u)) ⊎ (lookup y b ≡ some u)
    go true e h = inl (eqb-true y x e, (cc))
    go false e h = inr h

lookup_other : (y x : ℕ) (t u : Term) (b : Bindings) → lookup x b ≡ none → lookup y b ≡ some u → lookup y ((x, t) ∷ b) ≡ some u
unfolding lookup
lookup_other y x t u b n h = go (eqb y x) refl
  where
    go : (c : Bool) → eqb y x ≡ c → elim c [ true ↦ some t | false ↦ lookup y b ] ≡ some u
    go true e = no_confusion (cc (ap (λ (z : ℕ). lookup z b) (eqb-true y x e)))
    go false e = h

bind_to_ok : (x : ℕ) (t : Term) (b : Bindings) → MatchOk (var x) t b (bind_to x t b)
unfolding bind_to sub
bind_to_ok x t b = go (lookup x b) refl
  where
    go : (o : Option Term) → lookup x b ≡ o → MatchOk (var x) t b (elim o [ none ↦ some ((x, t) ∷ b) | some u ↦ elim (same u t) [ true ↦ some b | false ↦ none ] ])
    go none e =
        record {
          ext = λ y u h. lookup_other y x t u b e h;
          fit = fvar (lookup_here x t b);
          keeps = λ θ a k y u h. elim (lookup_cons y x t u b h) [ inl p ↦ ap θ p.0 ∙ k ∙ p.1 | inr q ↦ a y u q ];
        }
    go (some u) e = bound_ok x u t b e (same u t) (same_ok u t)

match_con : (f g : ℕ) (b : Bindings) (c : Bool) → eqb f g ≡ c → MatchOk (con f) (con g) b (elim c [ true ↦ some b | false ↦ none ])
unfolding sub
match_con f g b true e = record { ext = λ y v k. k; fit = subst (λ (z : ℕ). Fits b (con f) (con z)) (eqb-true f g e) fcon; keeps = λ θ a k. a }
match_con f g b false e = λ θ a k. eqb-false f g e (cc)

match_app :
    (p q c d : Term) (b : Bindings) (o : Option Bindings) → MatchOk p c b o
    → ((b' : Bindings) → MatchOk q d b' (match q d b'))
    → MatchOk (p · q) (c · d) b (elim o [ none ↦ none | some b' ↦ match q d b' ])
unfolding sub
match_app p q c d b none h k = λ θ a e. h θ a (inj_left e)
match_app p q c d b (some b') h k = go (match q d b') (k b')
  where
    go : (o : Option Bindings) → MatchOk q d b' o → MatchOk (p · q) (c · d) b o
    go none j = λ θ a e. j θ (h.keeps θ a (inj_left e)) (inj_right e)
    go (some b'') j =
        record {
          ext = λ y u e. j.ext y u (h.ext y u e);
          fit = fapp (fits_ext j.ext h.fit) j.fit;
          keeps = λ θ a e. j.keeps θ (h.keeps θ a (inj_left e)) (inj_right e);
        }

pub match_ok : (p t : Term) (b : Bindings) → MatchOk p t b (match p t b)
unfolding match sub
match_ok (var x) t b = bind_to_ok x t b
match_ok (con f) (var y) b = λ θ a h. no_confusion (cc)
match_ok (con f) (con g) b = match_con f g b (eqb f g) refl
match_ok (con f) (c · d) b = λ θ a h. no_confusion (cc)
match_ok (p · q) (var y) b = λ θ a h. no_confusion (cc)
match_ok (p · q) (con g) b = λ θ a h. no_confusion (cc)
match_ok (p · q) (c · d) b = match_app p q c d b (match p c b) (match_ok p c b) (match_ok q d)

-- ---- the choice
abbrev Fails : Option Bindings → Type 0
Fails o = o ≡ none

pub choose_some : (k : Term → List Term → Option Bindings) (q : List Term) (b : Bindings) → choose k q ≡ some b → (x : Term) × (r : List Term) × Sel x r q × (k x r ≡ some b)
unfolding choose
choose_some k [] b h = no_confusion (cc)
choose_some k (x ∷ q) b h = go (k x q) refl h (choose_some (λ y r. k y (x ∷ r)) q b)
  where
    go :
        (o : Option Bindings) → k x q ≡ o → elim o as (λ _. Option Bindings) [ some c ↦ some c | none ↦ choose (λ y r. k y (x ∷ r)) q ] ≡ some b
        → (choose (λ y r. k y (x ∷ r)) q ≡ some b → (y : Term) × (r : List Term) × Sel y r q × (k y (x ∷ r) ≡ some b))
        → (y : Term) × (r : List Term) × Sel y r (x ∷ q) × (k y r ≡ some b)
    go (some c) e h' rec = (x, q, here, e ∙ h')
    go none e h' rec = let w = rec h' in (w.0, x ∷ w.1, there w.2, w.3)

pub choose_none : {x : Term} (k : Term → List Term → Option Bindings) {r q : List Term} → choose k q ≡ none → Sel x r q → k x r ≡ none
unfolding choose
choose_none {x = x} k h (here {l = l}) = go (k x l) refl h
  where
    go : (o : Option Bindings) → k x l ≡ o → Fails (elim o [ some c ↦ some c | none ↦ choose (λ y s. k y (x ∷ s)) l ]) → k x l ≡ none
    go (some c) e h' = no_confusion (cc)
    go none e h' = e
choose_none k h (there {y = z} {l = l} i) = choose_none (λ y s. k y (z ∷ s)) (go (k z l) h) i
  where
    go : (o : Option Bindings) → Fails (elim o [ some c ↦ some c | none ↦ choose (λ y s. k y (z ∷ s)) l ]) → choose (λ y s. k y (z ∷ s)) l ≡ none
    go (some c) h' = no_confusion (cc)
    go none h' = h'

-- ---- the embedding
pub data FitsAll (b : Bindings) : List Term → List Term → Type 0 where
  fnil : {q : List Term} → FitsAll b [] q
  fcons : {h x : Term} {hs r q : List Term} → Sel x r q → Fits b h x → FitsAll b hs r → FitsAll b (h ∷ hs) q

fits_all_emb : {b : Bindings} {hs q : List Term} → FitsAll b hs q → Emb (map (sub (as_sub b)) hs) q
fits_all_emb fnil = done
fits_all_emb {b = b} {q = q} (fcons {hs = hs} i f g) =
    subst (λ (z : Term). Emb (z ∷ map (sub (as_sub b)) hs) q) (sym (fits_sub f)) (pick i (fits_all_emb g))

abbrev pub EmbedsOk : List Term → List Term → Bindings → Option Bindings → Type 0
EmbedsOk hs q b (some c) = Ext b c × FitsAll c hs q
EmbedsOk hs q b none = (θ : ℕ → Term) → Agree θ b → Emb (map (sub θ) hs) q → ⊥

-- one hypothesis against one of the list
try : List Term → Term → Bindings → Term → List Term → Option Bindings
try hs h b x r = elim (match h x b) [ none ↦ none | some b' ↦ embeds hs r b' ]

abbrev Rec : List Term → Type 0
Rec hs = (r : List Term) (b : Bindings) → EmbedsOk hs r b (embeds hs r b)

try_some : (hs : List Term) (h : Term) (b : Bindings) (x : Term) (r : List Term) (c : Bindings) → Rec hs → try hs h b x r ≡ some c → Ext b c × Fits c h x × FitsAll c hs r
unfolding try
try_some hs h b x r c rec = go (match h x b) (match_ok h x b)
  where
    inner : (b' : Bindings) → Matched h x b b' → (o : Option Bindings) → EmbedsOk hs r b' o → o ≡ some c → Ext b c × Fits c h x × FitsAll c hs r
    inner b' m (some d) k e =
        let z : d ≡ c = cc in
        subst (λ (w : Bindings). Ext b w × Fits w h x × FitsAll w hs r) z ((λ y u l. k.0 y u (m.ext y u l)), fits_ext k.0 m.fit, k.1)
    inner b' m none k e = no_confusion (cc)

    go : (o : Option Bindings) → MatchOk h x b o → elim o as (λ _. Option Bindings) [ none ↦ none | some b' ↦ embeds hs r b' ] ≡ some c → Ext b c × Fits c h x × FitsAll c hs r
    go none m e = no_confusion (cc)
    go (some b') m e = inner b' m (embeds hs r b') (rec r b') e

try_none : (hs : List Term) (h : Term) (b : Bindings) (x : Term) (r : List Term) → Rec hs → try hs h b x r ≡ none → (θ : ℕ → Term) → Agree θ b → sub θ h ≡ x → Emb (map (sub θ) hs) r → ⊥
unfolding try
try_none hs h b x r rec = go (match h x b) (match_ok h x b)
  where
    inner : (b' : Bindings) → Matched h x b b' → (o : Option Bindings) → EmbedsOk hs r b' o → o ≡ none → (θ : ℕ → Term) → Agree θ b → sub θ h ≡ x → Emb (map (sub θ) hs) r → ⊥
    inner b' m (some d) k e = no_confusion (cc)
    inner b' m none k e = λ θ a p w. k θ (m.keeps θ a p) w

    go : (o : Option Bindings) → MatchOk h x b o → Fails (elim o [ none ↦ none | some b' ↦ embeds hs r b' ]) → (θ : ℕ → Term) → Agree θ b → sub θ h ≡ x → Emb (map (sub θ) hs) r → ⊥
    go none m e = λ θ a p w. m θ a p
    go (some b') m e = inner b' m (embeds hs r b') (rec r b') e

embeds_cons : (h : Term) (hs q : List Term) (b : Bindings) → Rec hs → (o : Option Bindings) → choose (try hs h b) q ≡ o → EmbedsOk (h ∷ hs) q b o
embeds_cons h hs q b rec (some c) e =
    let w = choose_some (try hs h b) q c e in
    let v = try_some hs h b w.0 w.1 c rec w.3 in
    (v.0, fcons w.2 v.1 v.2)
embeds_cons h hs q b rec none e = λ θ a k. go θ a refl k
  where
    go : (θ : ℕ → Term) → Agree θ b → {l : List Term} → map (sub θ) (h ∷ hs) ≡ l → Emb l q → ⊥
    go θ a p done = no_confusion (cc)
    go θ a p (pick {x = x} {l = l} {r = r} i k) =
        try_none hs h b x r rec (choose_none (try hs h b) e i) θ a (cc) (subst (λ (z : List Term). Emb z r) (cc) k)

pub embeds_ok : (hs q : List Term) (b : Bindings) → EmbedsOk hs q b (embeds hs q b)
unfolding embeds try
embeds_ok [] q b = ((λ y u e. e), fnil)
embeds_ok (h ∷ hs) q b = embeds_cons h hs q b (embeds_ok hs) (choose (try hs h b) q) refl

-- ---- implication
-- The answer with its substitution, and the answer alone.
abbrev pub ImpliesByOk : Rule → Rule → Option Bindings → Type 0
ImpliesByOk r q (some b) = (sub (as_sub b) r.concl ≡ q.concl) × Emb (map (sub (as_sub b)) r.hyps) q.hyps
ImpliesByOk r q none = Implies r q → ⊥

abbrev pub ImpliesOk : Rule → Rule → Bool → Type 0
ImpliesOk r q true = Implies r q
ImpliesOk r q false = Implies r q → ⊥

pub implies_by_ok : (r q : Rule) → ImpliesByOk r q (implies_by r q)
unfolding implies_by lookup
implies_by_ok r q = go (match r.concl q.concl []) (match_ok r.concl q.concl [])
  where
    inner : (b : Bindings) → Matched r.concl q.concl [] b → (o : Option Bindings) → EmbedsOk r.hyps q.hyps b o → ImpliesByOk r q o
    inner b m (some c) k = (fits_sub (fits_ext k.0 m.fit), fits_all_emb k.1)
    inner b m none k = λ i. k i.by (m.keeps i.by (λ x u e. no_confusion (cc)) i.on_concl) i.on_hyps

    go : (o : Option Bindings) → MatchOk r.concl q.concl [] o → ImpliesByOk r q (elim o [ none ↦ none | some b ↦ embeds r.hyps q.hyps b ])
    go none m = λ i. m i.by (λ x u e. no_confusion (cc)) i.on_concl
    go (some b) m = inner b m (embeds r.hyps q.hyps b) (embeds_ok r.hyps q.hyps b)

-- The test decides Definition 1.
pub implies_ok : (r q : Rule) → ImpliesOk r q (implies r q)
unfolding implies
implies_ok r q = go (implies_by r q) (implies_by_ok r q)
  where
    go : (o : Option Bindings) → ImpliesByOk r q o → ImpliesOk r q (elim o [ none ↦ false | some b ↦ true ])
    go none h = h
    go (some b) h = record { by = as_sub b; on_concl = h.0; on_hyps = h.1 }
