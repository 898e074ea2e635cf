-- Records by number, live records and what they imply, and what becomes of a rule that is offered. Assumes nothing.
use Rattle.std.specs.Prelude.{ℕ, zero, suc, ◌≤◌, ◌<◌, Bool, true, false, List, [], ◌∷◌, ◌++◌, map, ◌≡◌, refl, ◌⊎◌, leb, length}
use Rattle.std.proofs.Common.{arith, ap, ◌∙◌, subst, sym, inl, inr, leb-true, leb-false}
use Rattle.std.proofs.Math.Option.{Option, none, some}
use Rattle.model.specs.Rule.{Rule, Limits, fits, implies}
use Rattle.model.specs.Table.{Origin, Rec, rec_at, Fate, kept_as, implied_by, skipped, no_room, too_large, first_implying, fate, retire1, retire, added}
use Rattle.theory.specs.Basics.{true≢false, no_confusion}
use Rattle.theory.specs.Embed.{Implies, implies_trans}
use Rattle.theory.specs.Implies.{implies_ok, ImpliesOk}
use Rattle.theory.specs.Forest.{By}

-- ---- records by number
pub at_lt : (t : List Rec) (k : ℕ) (x : Rec) → rec_at t k ≡ some x → k < length t
unfolding rec_at
at_lt [] k x e = no_confusion (cc)
at_lt (y ∷ t) zero x e = omega arith
at_lt (y ∷ t) (suc k) x e = omega (arith, at_lt t k x e)

pub at_none : (t : List Rec) (k : ℕ) → rec_at t k ≡ none → length t ≤ k
unfolding rec_at
at_none [] k e = omega arith
at_none (x ∷ t) zero e = no_confusion (cc)
at_none (x ∷ t) (suc k) e = omega (arith, at_none t k e)

pub at_append : (t s : List Rec) (k : ℕ) (x : Rec) → rec_at t k ≡ some x → rec_at (t ++ s) k ≡ some x
unfolding rec_at
at_append [] s k x e = no_confusion (cc)
at_append (y ∷ t) s zero x e = e
at_append (y ∷ t) s (suc k) x e = at_append t s k x e

pub at_back : (t s : List Rec) (k : ℕ) → k < length t → rec_at (t ++ s) k ≡ rec_at t k
unfolding rec_at
at_back [] s k l = absurd (omega arith)
at_back (x ∷ t) s zero l = refl
at_back (x ∷ t) s (suc k) l = at_back t s k (omega arith)

pub at_last : (t : List Rec) (x : Rec) → rec_at (t ++ (x ∷ [])) (length t) ≡ some x
unfolding rec_at
at_last [] x = refl
at_last (y ∷ t) x = at_last t x

pub at_map : (f : Rec → Rec) (t : List Rec) (k : ℕ) (x : Rec) → rec_at t k ≡ some x → rec_at (map f t) k ≡ some (f x)
unfolding rec_at
at_map f [] k x e = no_confusion (cc)
at_map f (y ∷ t) zero x e = ap some (ap f (cc))
at_map f (y ∷ t) (suc k) x e = at_map f t k x e

pub at_unmap : (f : Rec → Rec) (t : List Rec) (k : ℕ) (x : Rec) → rec_at (map f t) k ≡ some x → (y : Rec) × (rec_at t k ≡ some y) × (f y ≡ x)
unfolding rec_at
at_unmap f [] k x e = no_confusion (cc)
at_unmap f (y ∷ t) zero x e = (y, refl, (cc))
at_unmap f (y ∷ t) (suc k) x e = at_unmap f t k x e

pub length_map : {A B : Type 0} (f : A → B) (t : List A) → length (map f t) ≡ length t
length_map f [] = refl
length_map f (x ∷ t) = ap suc (length_map f t)

pub length_snoc : {A : Type 0} (t : List A) (x : A) → length (t ++ (x ∷ [])) ≡ suc (length t)
length_snoc [] x = refl
length_snoc (y ∷ t) x = ap suc (length_snoc t x)

-- a record of a longer table is the new one or an old one
pub at_snoc : (t : List Rec) (x : Rec) (k : ℕ) (y : Rec) → rec_at (t ++ (x ∷ [])) k ≡ some y → (rec_at t k ≡ some y) ⊎ ((k ≡ length t) × (x ≡ y))
at_snoc t x k y e = go (leb (length t) k) refl
  where
    go : (c : Bool) → leb (length t) k ≡ c → (rec_at t k ≡ some y) ⊎ ((k ≡ length t) × (x ≡ y))
    go false l = inl (sym (at_back t (x ∷ []) k (leb-false (length t) k l)) ∙ e)
    go true l =
        let z : k ≡ length t = omega (arith, leb-true (length t) k l, at_lt (t ++ (x ∷ [])) k y e, length_snoc t x) in
        inr (z, cc (at_last t x, ap (rec_at (t ++ (x ∷ []))) z))

-- ---- live rules, and what they imply
pub record Live (t : List Rec) (q : Rule) : Type 0 where
  pub num : ℕ
  pub rec : Rec
  pub there' : rec_at t num ≡ some rec
  pub alive : rec.live ≡ true
  pub is : rec.rule ≡ q

abbrev pub Covers : List Rec → Rule → Type 0
Covers t q = By (Live t) q

pub live_at : {t : List Rec} (k : ℕ) (x : Rec) → rec_at t k ≡ some x → x.live ≡ true → Live t x.rule
live_at k x e l = record { num = k; rec = x; there' = e; alive = l; is = refl }

live_tail : {t : List Rec} {q : Rule} (x : Rec) → Live t q → Live (x ∷ t) q
unfolding rec_at
live_tail x l = record { num = suc l.num; rec = l.rec; there' = l.there'; alive = l.alive; is = l.is }

live_head : {t : List Rec} (x : Rec) → x.live ≡ true → Live (x ∷ t) x.rule
unfolding rec_at
live_head x l = record { num = 0; rec = x; there' = refl; alive = l; is = refl }

pub live_cons : (x : Rec) (t : List Rec) (r : Rule) → Live (x ∷ t) r → ((x.live ≡ true) × (x.rule ≡ r)) ⊎ Live t r
unfolding rec_at
live_cons x t r l = go l.num l.there'
  where
    go : (k : ℕ) → rec_at (x ∷ t) k ≡ some l.rec → ((x.live ≡ true) × (x.rule ≡ r)) ⊎ Live t r
    go zero e =
        let y : x ≡ l.rec = cc in
        inl (ap (λ (v : Rec). v.live) y ∙ l.alive, ap (λ (v : Rec). v.rule) y ∙ l.is)
    go (suc k) e = inr (record { num = k; rec = l.rec; there' = e; alive = l.alive; is = l.is })

pub implies_true : (r q : Rule) → implies r q ≡ true → Implies r q
implies_true r q e = go (implies r q) (implies_ok r q) e
  where
    go : (c : Bool) → ImpliesOk r q c → c ≡ true → Implies r q
    go true h e' = h
    go false h e' = true≢false e' refl

-- What the search for the first live record that implies q answers: there is one, or there is none.
abbrev pub FirstOk : List Rec → Rule → Option ℕ → Type 0
FirstOk t q (some k) = Covers t q
FirstOk t q none = (p : Rule) → Live t p → implies p q ≡ true → ⊥

first_cons :
    (x : Rec) (t : List Rec) (q : Rule) (k : ℕ) (c d : Bool) → x.live ≡ c → implies x.rule q ≡ d → (o : Option ℕ) → FirstOk t q o
    → FirstOk (x ∷ t) q (elim c [ false ↦ o | true ↦ elim d [ true ↦ some k | false ↦ o ] ])
first_cons x t q k false d l i none h = λ p w e. elim (live_cons x t p w) [ inl z ↦ true≢false z.0 l | inr z ↦ h p z e ]
first_cons x t q k false d l i (some n) h = (h.0, live_tail x h.1, h.2)
first_cons x t q k true true l i o h = (x.rule, live_head x l, implies_true x.rule q i)
first_cons x t q k true false l i none h =
    λ p w e. elim (live_cons x t p w) [ inl z ↦ true≢false (ap (λ (v : Rule). implies v q) z.1 ∙ e) i | inr z ↦ h p z e ]
first_cons x t q k true false l i (some n) h = (h.0, live_tail x h.1, h.2)

pub first_ok : (t : List Rec) (q : Rule) (k : ℕ) → FirstOk t q (first_implying t q k)
unfolding first_implying rec_at
first_ok [] q k = λ p l e. absurd (omega (arith, at_lt [] l.num l.rec l.there'))
first_ok (x ∷ t) q k = first_cons x t q k x.live (implies x.rule q) refl refl (first_implying t q (suc k)) (first_ok t q (suc k))

-- ---- what each fate means
abbrev pub FateOk : Limits → ℕ → (Rule → Bool) → List Rec → Rule → Fate → Type 0
FateOk L room skips t q (kept_as k) = (fits L q ≡ true) × (skips q ≡ false) × (first_implying t q 0 ≡ none) × (length t < room) × (k ≡ length t)
FateOk L room skips t q (implied_by k) = (fits L q ≡ true) × (skips q ≡ false) × (first_implying t q 0 ≡ some k)
FateOk L room skips t q skipped = (fits L q ≡ true) × (skips q ≡ true)
FateOk L room skips t q no_room = (fits L q ≡ true) × (skips q ≡ false) × (first_implying t q 0 ≡ none) × (room ≤ length t)
FateOk L room skips t q too_large = fits L q ≡ false

pub fate_ok : (L : Limits) (room : ℕ) (skips : Rule → Bool) (t : List Rec) (q : Rule) → FateOk L room skips t q (fate L room skips t q)
unfolding fate
fate_ok L room skips t q = go (fits L q) refl (skips q) refl (first_implying t q 0) refl (leb room (length t)) refl
  where
    go :
        (a : Bool) → fits L q ≡ a → (b : Bool) → skips q ≡ b → (o : Option ℕ) → first_implying t q 0 ≡ o → (d : Bool) → leb room (length t) ≡ d
        → FateOk L room skips t q (
        elim a [
          | false ↦ too_large
          | true ↦ elim b [ true ↦ skipped | false ↦ elim o [ some k ↦ implied_by k | none ↦ elim d [ true ↦ no_room | false ↦ kept_as (length t) ] ] ]
        ])
    go false e b f o g d h = e
    go true e true f o g d h = (e, f)
    go true e false f (some k) g d h = (e, f, g)
    go true e false f none g true h = (e, f, g, leb-true room (length t) h)
    go true e false f none g false h = (e, f, g, leb-false room (length t) h, refl)

pub first_covers : (t : List Rec) (q : Rule) (k : ℕ) → first_implying t q 0 ≡ some k → Covers t q
first_covers t q k e = subst (FirstOk t q) e (first_ok t q 0)

-- ---- from one table to a later one
-- Nothing that was implied is lost, a record keeps its rule and is not revived, and the table does not get shorter.
pub record Step (t u : List Rec) : Type 0 where
  pub covers : (q : Rule) → Covers t q → Covers u q
  pub back : (k : ℕ) (x : Rec) → rec_at u k ≡ some x → k < length t → (y : Rec) × (rec_at t k ≡ some y) × (y.rule ≡ x.rule) × (x.live ≡ true → y.live ≡ true)
  pub longer : length t ≤ length u

pub step_refl : (t : List Rec) → Step t t
step_refl t = record { covers = λ q c. c; back = λ k x e l. (x, e, refl, λ a. a); longer = omega arith }

pub step_trans : {t u v : List Rec} → Step t u → Step u v → Step t v
step_trans {t} {u} {v} h k =
    record {
      covers = λ q c. k.covers q (h.covers q c);
      back =
          λ n x e l.
          let a = k.back n x e (omega (arith, h.longer)) in
          let b = h.back n a.0 a.1 l in
          (b.0, b.1, b.2 ∙ a.2, λ z. b.3 (a.3 z));
      longer = omega (arith, h.longer, k.longer);
    }

-- a rule after the last record
pub added_live : (t : List Rec) (q : Rule) (o : Origin) → Live (added t q o) q
unfolding added
added_live t q o = record { num = length t; rec = record { rule = q; live = true; origin = o }; there' = at_last t _; alive = refl; is = refl }

pub added_step : (t : List Rec) (q : Rule) (o : Origin) → Step t (added t q o)
unfolding added
added_step t q o =
    record {
      covers =
          λ p c.
          let l = c.1 in
          (c.0, record { num = l.num; rec = l.rec; there' = at_append t _ l.num l.rec l.there'; alive = l.alive; is = l.is }, c.2);
      back = λ k x e l. (x, sym (at_back t _ k l) ∙ e, refl, λ a. a);
      longer = omega (arith, length_snoc t (record { rule = q; live = true; origin = o }));
    }

-- ---- retiring
pub record Retired (q : Rule) (x y : Rec) : Type 0 where
  pub same_rule : y.rule ≡ x.rule
  pub same_origin : y.origin ≡ x.origin
  pub was_live : y.live ≡ true → x.live ≡ true
  pub stays : x.live ≡ true → (y.live ≡ true) ⊎ Implies q x.rule

pub retire1_ok : (q : Rule) (x : Rec) → Retired q x (retire1 q x)
unfolding retire1
retire1_ok q x = go (implies q x.rule) refl
  where
    go : (c : Bool) → implies q x.rule ≡ c → Retired q x (elim c [ true ↦ record { rule = x.rule; live = false; origin = x.origin } | false ↦ x ])
    go true e = record { same_rule = refl; same_origin = refl; was_live = λ a. true≢false a refl; stays = λ a. inr (implies_true q x.rule e) }
    go false e = record { same_rule = refl; same_origin = refl; was_live = λ a. a; stays = λ a. inl a }

-- The step of keeping a rule: what it retires it implies.
pub kept_step : (t : List Rec) (q : Rule) (o : Origin) → Step t (added (retire q t) q o)
unfolding retire
kept_step t q o =
    record {
      covers = covers;
      back =
          λ k x e l.
          let b = s.back k x e (omega (arith, length_map (retire1 q) t)) in
          let a = at_unmap (retire1 q) t k b.0 b.1 in
          let w = retire1_ok q a.0 in
          (a.0, a.1, sym w.same_rule ∙ ap (λ (z : Rec). z.rule) a.2 ∙ b.2, λ z. w.was_live (ap (λ (z : Rec). z.live) a.2 ∙ b.3 z));
      longer = omega (arith, s.longer, length_map (retire1 q) t);
    }
  where
    s : Step (retire q t) (added (retire q t) q o)
    s = added_step (retire q t) q o

    covers : (p : Rule) → Covers t p → Covers (added (retire q t) q o) p
    covers p c =
        let l = c.1 in
        let w = retire1_ok q l.rec in
        elim (w.stays l.alive) [
          | inl a ↦
              s.covers p (
                c.0,
                record { num = l.num; rec = retire1 q l.rec; there' = at_map (retire1 q) t l.num l.rec l.there'; alive = a; is = w.same_rule ∙ l.is },
                c.2,
              )
          | inr i ↦ (q, added_live (retire q t) q o, implies_trans (subst (λ (z : Rule). Implies q z) l.is i) c.2)
        ]

pub kept_length : (t : List Rec) (q : Rule) (o : Origin) → length (added (retire q t) q o) ≡ suc (length t)
unfolding added retire
kept_length t q o = length_snoc (map (retire1 q) t) _ ∙ ap suc (length_map (retire1 q) t)
