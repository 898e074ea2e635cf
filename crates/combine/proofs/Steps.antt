-- The laws of Built at a draft: what the steps of the code leave. Assumes nothing.
use Rattle.std.proofs.Common.{ℕ, ◌+◌, ◌-◌, ◌*◌, ◌≤◌, ◌<◌, ◌≡◌, Bool, true, false, List, [], ◌∷◌, ◌++◌, length, take, drop, set, refl, ap, ap₂, sym, subst, arith, ◌∙◌, Result, Ok, Err, Option, Some, None}
use Rattle.std.specs.Prelude.{All}
use Rattle.records.specs.Tokens.{span}
use Rattle.records.specs.Symbols.{arity_of}
use Rattle.records.specs.Rules.{tokens_of}
use borrow.Rule.Slice.PartMut.{put_mid}
use Rattle.unify.specs.Nodes.{graph, node_in}
use Rattle.unify.specs.Facts.{facts_length}
use Rattle.unify.specs.Writer.{Writes}
use Rattle.combine.specs.declared.Draft.{Draft}
use Rattle.combine.specs.declared.Instances.{Instances}
use Rattle.combine.specs.declared.TooLarge.{TooLarge}
use Rattle.terms.specs.declared.Walk.{Walk}
use Rattle.terms.specs.declared.Facts.{Facts}
use Rattle.terms.specs.Walk.{Steps as WalkSteps}
use Rattle.terms.proofs.Laws.{span_next}
use Rattle.std.specs.Borrow.{Bor}
use Rattle.combine.specs.Copies.{Says, Copy, has_copy}
use Rattle.combine.specs.Built.{Built, Over, start_long, start_fits, add_long, copy_here, copy_short, copy_before, add_copy, add_large, add_many, add_kept}
use Rattle.combine.specs.Draft.{both_of, node_of, side_of, HoldsIn, Holds, LeavesIn, Leaves, IsSameRoom, IsWritten}
use Rattle.combine.specs.Places.{visits, Along, along_skip, along_went, along_over, along_end, visit_skip, visit_node, visit_none}
use Rattle.combine.specs.Settle.{Settled}
use Rattle.combine.proofs.Laws.{has_copy_says}

-- The facts of the nodes ns make too large a rule.
abbrev pub TooMuchIn : Instances → ℕ → List ℕ → Type 0
TooMuchIn of hyps ns = Over of.classes.pair.symbols.now (both_of of) of.classes.rep.now of.classes.pair.toks hyps ns

abbrev pub TooMuch : Draft → List ℕ → Type 0
TooMuch d ns = TooMuchIn d.of (length d.starts.now) ns

-- The state of a draft whose text, starts, end and count are these.
abbrev pub HoldsAt : Draft → List ℕ → List ℕ → ℕ → ℕ → List ℕ → Type 0
HoldsAt d text starts e n ns = Built d.of.classes.pair.symbols.now (both_of d.of) d.of.classes.rep.now d.of.classes.pair.toks (length d.starts.now) text starts e n ns

module _ (d : Draft) (place : ℕ) (l : place ≤ 2 * d.of.classes.pair.toks) (w : List ℕ) where
  abbrev sy : List ℕ
  sy = d.of.classes.pair.symbols.now

  abbrev T : ℕ
  T = d.of.classes.pair.toks

  abbrev a : List ℕ
  a = d.of.classes.pair.a.now

  abbrev b : List ℕ
  b = d.of.classes.pair.b.now

  abbrev s : List ℕ
  s = d.of.classes.rep.now

  -- what writing the instance at the part w of the text answers
  abbrev pub Answers : Option ℕ → Type 0
  Answers r = Writes (graph sy (both_of d.of)) s (node_of d.of place) w r

  small : node_of d.of place < 2 * T + 128
  small = let z = facts_length T a b d.of.classes.pair.given in omega (arith, node_in sy (both_of d.of) place (omega arith))

  -- the conclusion
  module _ (room : length w ≡ T) where
    pub begun_over : Answers None → TooMuch d (node_of d.of place ∷ [])
    begun_over W = start_long sy T a b s d.of.site (node_of d.of place) small d.text.now w room W (length d.starts.now)

    pub begun : (k : ℕ) → Answers (Some k) → HoldsAt d (put_mid 0 T d.text.now w) d.starts.now k 0 (node_of d.of place ∷ [])
    begun k W = start_fits sy T a b s d.of.site (node_of d.of place) small d.text.now w room k W (length d.starts.now) d.starts.now

  -- a hypothesis
  module _ (room : length w ≡ T) (ns : List ℕ) (B : Holds d ns) where
    abbrev more : List ℕ
    more = ns ++ (node_of d.of place ∷ [])

    pub too_long : Answers None → TooMuch d more
    too_long W = add_long sy T (length d.starts.now) a b s d.of.site d.text.now w d.starts.now d.end d.count (node_of d.of place) small room ns B W

    module _ (m k : ℕ) (W : Answers (Some k)) where
      abbrev o' : List ℕ
      o' = put_mid d.end m d.text.now w

      pub here : d.end + k ≤ length o'
      here = copy_here sy T (length d.starts.now) a b s d.of.site d.text.now w d.starts.now d.end d.count (node_of d.of place) small room ns B m k W d.space

      pub short : k ≤ T
      short = copy_short sy T (length d.starts.now) a b s d.of.site d.text.now w d.starts.now d.end d.count (node_of d.of place) small room ns B m k W d.space

      pub before : All (λ x. x ≤ d.end) (take d.count d.starts.now)
      before = copy_before sy T (length d.starts.now) a b s d.of.site d.text.now w d.starts.now d.end d.count (node_of d.of place) small room ns B m k W d.space B.few

      module _ (c : Bool) (h : c ≡ has_copy o' (take d.count d.starts.now) d.end k) where
        abbrev says : Says (Copy o' d.starts.now d.count d.end k) c
        says = has_copy_says o' d.starts.now d.count d.end k B.few c h

        pub copied : c ≡ true → HoldsAt d o' d.starts.now d.end d.count more
        copied q = add_copy sy T (length d.starts.now) a b s d.of.site d.text.now w d.starts.now d.end d.count (node_of d.of place) small room ns B m k W d.space c q says

        pub too_large : c ≡ false → T < d.end + k → TooMuch d more
        too_large q g = add_large sy T (length d.starts.now) a b s d.of.site d.text.now w d.starts.now d.end d.count (node_of d.of place) small room ns B m k W d.space c q says g

        pub too_many : c ≡ false → length d.starts.now ≤ d.count → TooMuch d more
        too_many q g = add_many sy T (length d.starts.now) a b s d.of.site d.text.now w d.starts.now d.end d.count (node_of d.of place) small room ns B m k W d.space c q says g

        pub kept : c ≡ false → d.end + k ≤ T → d.count < length d.starts.now → HoldsAt d o' (set d.starts.now d.count d.end) (d.end + k) (d.count + 1) more
        kept q g h' = add_kept sy T (length d.starts.now) a b s d.of.site d.text.now w d.starts.now d.end d.count (node_of d.of place) small room ns B m k W d.space c q says g h' (omega arith) (set d.starts.now d.count d.end) refl

-- ---- the room stays
module _ (old new : Draft) (same : IsSameRoom old new) where
  pub holds_now : (ns : List ℕ) → HoldsIn old.of (length old.starts.now) new ns → Holds new ns
  holds_now ns h =
      subst (λ (x : Instances). HoldsIn x (length new.starts.now) new ns) (sym same.0) (subst (λ (n : ℕ). HoldsIn old.of n new ns) (sym same.1) h)

  -- a step from the new draft, by the old one's records and room
  pub step_in : (f : Instances → List ℕ) (e : Draft) (r : Result (Unit {0}) TooLarge) → ((ns : List ℕ) → Holds new ns → Leaves new e (ns ++ f new.of) r)
      → (ns : List ℕ) → HoldsIn old.of (length old.starts.now) new ns → LeavesIn old.of (length old.starts.now) e (ns ++ f old.of) r
  step_in f e r h =
      subst (λ (n : ℕ). (ns : List ℕ) → HoldsIn old.of n new ns → LeavesIn old.of n e (ns ++ f old.of) r) same.1
      (subst (λ (x : Instances). (ns : List ℕ) → HoldsIn x (length new.starts.now) new ns → LeavesIn x (length new.starts.now) e (ns ++ f x) r) same.0 h)

pub same_room : (d e f : Draft) → IsSameRoom d e → IsSameRoom e f → IsSameRoom d f
same_room d e f p q = (q.0 ∙ p.0, q.1 ∙ p.1)

-- ---- the hypotheses of a record, one after another
module _ (of : Instances) (hyps : ℕ) (rec : List ℕ) (base skip : ℕ) where
  abbrev ar : ℕ → ℕ
  ar = arity_of of.classes.pair.symbols.now

  abbrev rest : ℕ → ℕ → List ℕ
  rest m at = visits ar (both_of of) (tokens_of rec) base skip m at

  -- a draft that the hypotheses before the walk went into: all but those that it has left
  pub record Going (d : Draft) (w : Walk) (ns : List ℕ) : Type 0 where
    pub symbols : w.facts.symbols.now ≡ of.classes.pair.symbols.now
    pub tokens : w.facts.tokens.now ≡ tokens_of rec
    pub along : Along of.classes.pair.symbols.now (both_of of) of.classes.rep.now of.classes.pair.toks hyps d.text.now d.starts.now d.end d.count (side_of of rec base skip) (rest w.left w.at) ns

  pub going_end : (d : Draft) (w v : Walk) → WalkSteps w None v → (ns : List ℕ) → Going d w ns → HoldsIn of hyps d (ns ++ side_of of rec base skip)
  going_end d w v t ns g =
      along_end of.classes.pair.symbols.now (both_of of) of.classes.rep.now of.classes.pair.toks hyps d.text.now d.starts.now d.end d.count (side_of of rec base skip) (rest w.left w.at) ns
      (ap (λ (m : ℕ). rest m w.at) t.0 ∙ visit_none ar (both_of of) (tokens_of rec) base skip w.at) g.along

  module _ (d : Draft) (w v : Walk) (f : ℕ × Bor (List ℕ)) (t : WalkSteps w (Some f) v) (ns : List ℕ) (g : Going d w ns) where
    size : ℕ
    size = span (arity_of w.facts.symbols.now) 1 (drop w.at w.facts.tokens.now)

    sized : size ≡ span ar 1 (drop w.at (tokens_of rec))
    unfolding size
    sized = ap₂ (λ (s u : List ℕ). span (arity_of s) 1 (drop w.at u)) g.symbols g.tokens

    moved : v.at ≡ w.at + size
    unfolding size
    moved =
        let ar' = arity_of w.facts.symbols.now in
        let ts = w.facts.tokens.now in
        v.here
        ∙ ap₂ (λ (x : Facts) (n : ℕ). span (arity_of x.symbols.now) n x.tokens.now) t.3 t.4
        ∙ sym (span_next ar' ts w.next)
        ∙ ap (λ (n : ℕ). n + span ar' 1 (drop n ts)) (sym w.here)

    next : rest (w.left - 1) (w.at + size) ≡ rest v.left v.at
    next = ap₂ (λ (m n : ℕ). rest m n) (sym t.5) (sym moved)

    still : v.facts.symbols.now ≡ of.classes.pair.symbols.now
    still = ap (λ (x : Facts). x.symbols.now) t.3 ∙ g.symbols

    stays : v.facts.tokens.now ≡ tokens_of rec
    stays = ap (λ (x : Facts). x.tokens.now) t.3 ∙ g.tokens

    pub going_skip : base + f.0 ≡ skip → Going d v ns
    going_skip h =
        record {
          symbols = still;
          tokens = stays;
          along =
              along_skip of.classes.pair.symbols.now (both_of of) of.classes.rep.now of.classes.pair.toks hyps d.text.now d.starts.now d.end d.count (side_of of rec base skip) (rest w.left w.at) (rest v.left v.at) ns
              (visit_skip ar (both_of of) (tokens_of rec) base skip w.left w.at size t.0 sized (omega (arith, t.1)) ∙ next) g.along;
        }

    module _ (h : base + f.0 ≡ skip → ⊥) (d' : Draft) (r : Result (Unit {0}) TooLarge) (R : (ms : List ℕ) → HoldsIn of hyps d ms → LeavesIn of hyps d' (ms ++ (node_of of (base + f.0) ∷ [])) r) where
      node_next : rest w.left w.at ≡ node_of of (base + f.0) ∷ rest v.left v.at
      node_next =
          visit_node ar (both_of of) (tokens_of rec) base skip w.left w.at size t.0 sized (λ z. h (omega (arith, t.1)))
          ∙ ap₂ (λ (n : ℕ) (l : List ℕ). node_of of (base + n) ∷ l) (sym t.1) next

      pub going_on : (x : Unit {0}) → r ≡ Ok x → Going d' v ns
      going_on x q =
          record {
            symbols = still;
            tokens = stays;
            along =
                along_went of.classes.pair.symbols.now (both_of of) of.classes.rep.now of.classes.pair.toks hyps d.text.now d'.text.now d.starts.now d'.starts.now d.end d.count d'.end d'.count (side_of of rec base skip) (rest w.left w.at) (rest v.left v.at) ns
                (node_of of (base + f.0)) node_next g.along r R x q;
          }

      pub going_over : (x : TooLarge) → r ≡ Err x → TooMuchIn of hyps (ns ++ side_of of rec base skip)
      going_over x q =
          along_over of.classes.pair.symbols.now (both_of of) of.classes.rep.now of.classes.pair.toks hyps d.text.now d'.text.now d.starts.now d'.starts.now d.end d.count d'.end d'.count (side_of of rec base skip) (rest w.left w.at) (rest v.left v.at) ns
          (node_of of (base + f.0)) node_next g.along r R of.site.reads x q

-- ---- what was written, by the records and the room that the draft began with
pub written_in : (d : Draft) (of : Instances) (hyps : ℕ) → d.of ≡ of → length d.starts.now ≡ hyps → (f : Instances → List ℕ) (vars : ℕ) (old new : List ℕ) (ok : Bool)
    → ((ns : List ℕ) → Holds d ns → IsWritten d vars old new ns ok) → HoldsIn of hyps d (f of) → Settled of.classes.pair.symbols.now (both_of of) of.classes.rep.now of.classes.pair.toks hyps vars old new (f of) ok
written_in d of hyps e l f vars old new ok h =
    subst (λ (n : ℕ). HoldsIn of n d (f of) → Settled of.classes.pair.symbols.now (both_of of) of.classes.rep.now of.classes.pair.toks n vars old new (f of) ok) l
    (subst (λ (x : Instances). HoldsIn x (length d.starts.now) d (f x) → Settled x.classes.pair.symbols.now (both_of x) x.classes.rep.now x.classes.pair.toks (length d.starts.now) vars old new (f x) ok) e (h (f d.of)))

-- ---- what is said of an instance's parts
pub at_parts : (of : Instances) (sy : List ℕ) (T : ℕ) (a b s : List ℕ) → of.classes.pair.symbols.now ≡ sy → of.classes.pair.a.now ≡ a → of.classes.pair.b.now ≡ b → of.classes.pair.toks ≡ T → of.classes.rep.now ≡ s
    → (P : List ℕ → ℕ → List ℕ → List ℕ → List ℕ → Type 0) → P of.classes.pair.symbols.now of.classes.pair.toks of.classes.pair.a.now of.classes.pair.b.now of.classes.rep.now → P sy T a b s
at_parts of sy T a b s ey ea eb et es P h =
    subst (λ (x : List ℕ). P sy T a b x) es
    (
    subst (λ (x : ℕ). P sy x a b of.classes.rep.now) et
    (
    subst (λ (x : List ℕ). P sy of.classes.pair.toks a x of.classes.rep.now) eb
    (subst (λ (x : List ℕ). P sy of.classes.pair.toks x of.classes.pair.b.now of.classes.rep.now) ea (subst (λ (x : List ℕ). P x of.classes.pair.toks of.classes.pair.a.now of.classes.pair.b.now of.classes.rep.now) ey h))
    )
    )
