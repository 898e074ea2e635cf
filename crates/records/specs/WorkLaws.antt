-- Working records and their bytes give each other back, one by one and in a table. Assumes nothing.
use Prim.Native.Nat.{ℕ, zero, suc, ◌+◌, ◌-◌, ◌*◌, ◌/◌, ◌%◌, ◌≤◌, ◌<◌}
use Rattle.std.proofs.Common.{add-zero, ◌∙◌, drop-drop, get_or-append-add}
use native.Mathlib.Omega.{arith}
use Rattle.std.specs.Prelude.{Bool, true, ◌≡◌, eqb, drop, get_or, replicate}
use Rattle.std.proofs.Math.Bool.{false}
use Rattle.std.proofs.Math.Option.{some}
use mathlib.Core.List.{List, [], ◌∷◌, ◌++◌, append_assoc}
use Rattle.std.proofs.Math.Path.{refl, ap, ap₂, sym}
use Rattle.std.proofs.Math.ListN.{length, take, length-append}
use Rattle.std.proofs.lemmas.List.{length-replicate}
use Rattle.std.proofs.Math.Seq.{take_at, drop_at}
use Rattle.model.specs.Rule.{Rule, size_all}
use Rattle.model.specs.Sign.{are_facts, well_formed}
use Rattle.model.specs.Table.{Origin, input, combined, asked, Rec, rec_at}
use Rattle.theory.specs.Basics.{no_confusion}
use Rattle.records.specs.Tokens.{leaves_all, terms, rule_of}
use Rattle.records.specs.Symbols.{arity_of, signature}
use Rattle.records.specs.Rules.{tokens_of, decode_rule}
use Rattle.records.specs.TokenLaws.{EachVars, Small, length_leaves_all, terms_facts}
use Rattle.records.specs.RuleLaws.{signature_agrees}
use Rattle.records.specs.Work.{token_count, body, state, pair, origin_bytes, encode_rec, encode_recs, number, decode_origin, decode_rec, recs_of}

-- ---- one record
-- A record that the bytes can hold: well-formed, with at most 32 hypotheses, within T tokens, with variables below 64 and numbers of two bytes.
abbrev pub Holdable : Bool → Origin → Type 0
Holdable goal (input i) = (goal ≡ false) × (i < 65536)
Holdable goal (combined k i j) = (i < 65536) × (j < 65536)
Holdable goal asked = goal ≡ true

pub record Fine (sy : List ℕ) (T : ℕ) (goal : Bool) (x : Rec) : Type 0 where
  pub formed : well_formed (signature sy) x.rule ≡ true
  pub few : length x.rule.hyps ≤ 32
  pub small : EachVars Small (x.rule.concl ∷ x.rule.hyps)
  pub fits : token_count x.rule ≤ T
  pub origin : Holdable goal x.origin

-- A record whose tokens are the facts of a rule that keeps to the arities.
pub record Holding (sy : List ℕ) (rec : List ℕ) (r : Rule) : Type 0 where
  pub tokens : tokens_of rec ≡ leaves_all (r.concl ∷ r.hyps)
  pub count : get_or rec 0 0 ≡ length r.hyps
  pub facts : are_facts (signature sy) (r.concl ∷ r.hyps) ≡ true
  pub small : EachVars Small (r.concl ∷ r.hyps)

pub length_body : (T : ℕ) (r : Rule) → token_count r ≤ T → length (body T r) ≡ T + 2
unfolding body size_all
length_body T r h =
    let z : List ℕ = replicate (T - token_count r) 0 in
    omega (arith, length-append (leaves_all (r.concl ∷ r.hyps)) z, length_leaves_all (r.concl ∷ r.hyps), length-replicate {A = ℕ} (T - token_count r) 0)

pub tokens_body : (T : ℕ) (r : Rule) (rest : List ℕ) → tokens_of (body T r ++ rest) ≡ leaves_all (r.concl ∷ r.hyps)
unfolding body tokens_of size_all
tokens_body T r rest =
    ap (take (token_count r)) (append_assoc (leaves_all (r.concl ∷ r.hyps)) (replicate (T - token_count r) 0) rest)
    ∙ take_at (leaves_all (r.concl ∷ r.hyps)) (replicate (T - token_count r) 0 ++ rest) (token_count r) (length_leaves_all (r.concl ∷ r.hyps))

-- A record that begins with a rule's body holds the rule.
pub body_holding : (sy : List ℕ) (T : ℕ) (r : Rule) (rest : List ℕ) → well_formed (signature sy) r ≡ true → EachVars Small (r.concl ∷ r.hyps) → Holding sy (body T r ++ rest) r
unfolding body well_formed are_facts
body_holding sy T r rest w v = record { tokens = tokens_body T r rest; count = refl; facts = w; small = v }

pub decode_body : (sy : List ℕ) (T : ℕ) (r : Rule) (rest : List ℕ) → well_formed (signature sy) r ≡ true → EachVars Small (r.concl ∷ r.hyps) → decode_rule sy (body T r ++ rest) ≡ r
unfolding decode_rule rule_of well_formed are_facts
decode_body sy T r rest w v = ap (λ (ts : List ℕ). rule_of (terms (arity_of sy) ts)) (tokens_body T r rest) ∙ ap rule_of (terms_facts (arity_of sy) (signature sy) (signature_agrees sy) (r.concl ∷ r.hyps) w v)

pair_number : (n : ℕ) → n % 256 + 256 * (n / 256) ≡ n
pair_number n = omega arith

decode_origin_lem : (goal : Bool) (o : Origin) → Holdable goal o → decode_origin goal (origin_bytes o) ≡ o
unfolding decode_origin origin_bytes number pair
decode_origin_lem goal (input i) h = ap (λ (c : Bool). elim c as (λ _. Origin) [ true ↦ asked | false ↦ input (i % 256 + 256 * (i / 256)) ]) h.0 ∙ ap input (pair_number i)
decode_origin_lem goal (combined k i j) h = ap₂ (combined k) (pair_number i) (pair_number j)
decode_origin_lem goal asked h = ap (λ (c : Bool). elim c as (λ _. Origin) [ true ↦ asked | false ↦ input 0 ]) h

pub length_rec : (sy : List ℕ) (T : ℕ) (goal : Bool) (x : Rec) → Fine sy T goal x → length (encode_rec T x) ≡ T + 8
unfolding encode_rec origin_bytes pair
length_rec sy T goal x F = length-append (body T x.rule) (state x.live ∷ origin_bytes x.origin) ∙ ap₂ ◌+◌ (length_body T x.rule F.fits) (ap suc (five x.origin)) ∙ (let z : T + 2 + 6 ≡ T + 8 = omega arith in z)
  where
    five : (o : Origin) → length (origin_bytes o) ≡ 5
    five (input i) = refl
    five (combined k i j) = refl
    five asked = refl

pub decode_rec_lem : (sy : List ℕ) (T : ℕ) (goal : Bool) (x : Rec) → Fine sy T goal x → decode_rec sy T goal (encode_rec T x) ≡ x
unfolding decode_rec encode_rec
decode_rec_lem sy T goal x F = same_rec (decode_body sy T x.rule _ F.formed F.small) (at_state x.live) (at_origin ∙ decode_origin_lem goal x.origin F.origin)
  where
    same_rec : {r : Rule} {b : Bool} {o : Origin} → r ≡ x.rule → b ≡ x.live → o ≡ x.origin → ◌≡◌ {A = Rec} (record { rule = r; live = b; origin = o }) x
    same_rec p q s = λ i. record { rule = p i; live = q i; origin = s i }

    len : length (body T x.rule) ≡ T + 2
    len = length_body T x.rule F.fits

    at_state : (b : Bool) → eqb (get_or (body T x.rule ++ (state b ∷ origin_bytes x.origin)) (T + 2) 0) 1 ≡ b
    at_state b = ap (λ (n : ℕ). eqb n 1) (ap (λ (i : ℕ). get_or (body T x.rule ++ (state b ∷ origin_bytes x.origin)) i 0) (sym (len) ∙ sym (add-zero (length (body T x.rule)))) ∙ get_or-append-add (body T x.rule) (state b ∷ origin_bytes x.origin) 0 0) ∙ test b
      where
        test : (b : Bool) → eqb (state b) 1 ≡ b
        test true = unfold state in refl
        test false = unfold state in refl

    at_origin : decode_origin goal (drop (T + 3) (body T x.rule ++ (state x.live ∷ origin_bytes x.origin))) ≡ decode_origin goal (origin_bytes x.origin)
    at_origin =
        ap (decode_origin goal)
        (ap (λ (n : ℕ). drop n (body T x.rule ++ (state x.live ∷ origin_bytes x.origin))) (let z : T + 3 ≡ T + 2 + 1 = omega arith in z)
        ∙ sym (drop-drop 1 (T + 2) (body T x.rule ++ (state x.live ∷ origin_bytes x.origin)))
        ∙ ap (drop 1) (drop_at (body T x.rule) (state x.live ∷ origin_bytes x.origin) (T + 2) len))

-- ---- a table
abbrev pub AllFine : List ℕ → ℕ → Bool → List Rec → Type 0
AllFine sy T goal t = (k : ℕ) (x : Rec) → rec_at t k ≡ some x → Fine sy T goal x

module _ (sy : List ℕ) (T : ℕ) (goal : Bool) where
  fine_head : (x : Rec) (t : List Rec) → AllFine sy T goal (x ∷ t) → Fine sy T goal x
  unfolding rec_at
  fine_head x t F = F 0 x refl

  fine_tail : (x : Rec) (t : List Rec) → AllFine sy T goal (x ∷ t) → AllFine sy T goal t
  unfolding rec_at
  fine_tail x t F k y e = F (suc k) y e

  pub length_recs : (t : List Rec) → AllFine sy T goal t → length (encode_recs T t) ≡ length t * (T + 8)
  unfolding encode_recs
  length_recs [] F = omega arith
  length_recs (x ∷ t) F =
      length-append (encode_rec T x) (encode_recs T t) ∙ ap₂ ◌+◌ (length_rec sy T goal x (fine_head x t F)) (length_recs t (fine_tail x t F)) ∙ (let z : T + 8 + length t * (T + 8) ≡ suc (length t) * (T + 8) = omega arith in z)

  -- The records of a table that begins with their bytes.
  pub recs_back : (t : List Rec) (rest : List ℕ) → AllFine sy T goal t → recs_of sy T goal (length t) (encode_recs T t ++ rest) ≡ t
  unfolding recs_of encode_recs
  recs_back [] rest F = refl
  recs_back (x ∷ t) rest F =
      let n = length_rec sy T goal x (fine_head x t F) in
      let e = append_assoc (encode_rec T x) (encode_recs T t) rest in
      ap₂ ◌∷◌ (ap (decode_rec sy T goal) (ap (take (T + 8)) e ∙ take_at (encode_rec T x) (encode_recs T t ++ rest) (T + 8) n) ∙ decode_rec_lem sy T goal x (fine_head x t F))
      (ap (recs_of sy T goal (length t)) (ap (drop (T + 8)) e ∙ drop_at (encode_rec T x) (encode_recs T t ++ rest) (T + 8) n) ∙ recs_back t rest (fine_tail x t F))

  -- Record i of such a table.
  pub rec_part : (t : List Rec) (rest : List ℕ) → AllFine sy T goal t → (i : ℕ) (x : Rec) → rec_at t i ≡ some x → take (T + 8) (drop (i * (T + 8)) (encode_recs T t ++ rest)) ≡ encode_rec T x
  unfolding rec_at encode_recs
  rec_part [] rest F i x e = no_confusion (cc)
  rec_part (y ∷ t) rest F zero x e =
      let p : y ≡ x = cc in
      ap (λ (n : ℕ). take (T + 8) (drop n ((encode_rec T y ++ encode_recs T t) ++ rest))) (let z : 0 * (T + 8) ≡ 0 = omega arith in z)
      ∙ ap (take (T + 8)) (append_assoc (encode_rec T y) (encode_recs T t) rest)
      ∙ take_at (encode_rec T y) (encode_recs T t ++ rest) (T + 8) (length_rec sy T goal y (fine_head y t F))
      ∙ ap (encode_rec T) p
  rec_part (y ∷ t) rest F (suc i) x e =
      ap (λ (n : ℕ). take (T + 8) (drop n ((encode_rec T y ++ encode_recs T t) ++ rest))) (let z : suc i * (T + 8) ≡ T + 8 + i * (T + 8) = omega arith in z)
      ∙ ap (take (T + 8)) (sym (drop-drop (i * (T + 8)) (T + 8) ((encode_rec T y ++ encode_recs T t) ++ rest)))
      ∙ ap (λ (l : List ℕ). take (T + 8) (drop (i * (T + 8)) l)) (ap (drop (T + 8)) (append_assoc (encode_rec T y) (encode_recs T t) rest) ∙ drop_at (encode_rec T y) (encode_recs T t ++ rest) (T + 8) (length_rec sy T goal y (fine_head y t F)))
      ∙ rec_part t rest (fine_tail y t F) i x e

  pub recs_append : (t u : List Rec) → encode_recs T (t ++ u) ≡ encode_recs T t ++ encode_recs T u
  unfolding encode_recs
  recs_append [] u = refl
  recs_append (x ∷ t) u = ap (encode_rec T x ++◌) (recs_append t u) ∙ sym (append_assoc (encode_rec T x) (encode_recs T t) (encode_recs T u))

  -- The bytes l begin with the records t, which they can hold.
  pub record Holds (t : List Rec) (l : List ℕ) : Type 0 where
    pub fine : AllFine sy T goal t
    pub rest : List ℕ
    pub bytes : l ≡ encode_recs T t ++ rest

  pub holds_recs : (t : List Rec) (l : List ℕ) → Holds t l → recs_of sy T goal (length t) l ≡ t
  holds_recs t l H = ap (recs_of sy T goal (length t)) H.bytes ∙ recs_back t H.rest H.fine

  pub holds_part : (t : List Rec) (l : List ℕ) → Holds t l → (i : ℕ) (x : Rec) → rec_at t i ≡ some x → take (T + 8) (drop (i * (T + 8)) l) ≡ encode_rec T x
  holds_part t l H i x e = ap (λ (m : List ℕ). take (T + 8) (drop (i * (T + 8)) m)) H.bytes ∙ rec_part t H.rest H.fine i x e
