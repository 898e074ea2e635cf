-- Working records as bytes, and a table of them. Assumes nothing.
-- A record of room for T tokens: the counts, the tokens, zeros up to T tokens, then the state and five bytes of origin.
use Rattle.std.specs.Prelude.{ℕ, zero, suc, ◌+◌, ◌-◌, ◌*◌, ◌/◌, ◌%◌, Bool, true, false, List, [], ◌∷◌, ◌++◌, eqb, length, take, drop, get_or, replicate}
use Rattle.model.specs.Term.{size}
use Rattle.model.specs.Rule.{Rule, size_all}
use Rattle.model.specs.Table.{Origin, input, combined, asked, Rec}
use Rattle.records.specs.Tokens.{leaves_all}
use Rattle.records.specs.Rules.{decode_rule}

-- The number of tokens of a rule.
abbrev pub token_count : Rule → ℕ
token_count r = size r.concl + size_all r.hyps

-- The counts and the tokens, with zeros up to T tokens.
unfoldable pub body : ℕ → Rule → List ℕ
body T r = length r.hyps ∷ token_count r ∷ (leaves_all (r.concl ∷ r.hyps) ++ replicate (T - token_count r) 0)

-- 1 live, 2 retired.
unfoldable pub state : Bool → ℕ
state true = 1
state false = 2

-- A number in two bytes, low byte first.
unfoldable pub pair : ℕ → List ℕ
pair n = n % 256 ∷ n / 256 ∷ []

-- The hypothesis combined upon, from 1, or 0; then R or the input rule; then R'.
unfoldable pub origin_bytes : Origin → List ℕ
origin_bytes (input i) = 0 ∷ (pair i ++ pair 0)
origin_bytes (combined k i j) = suc k ∷ (pair i ++ pair j)
origin_bytes asked = 0 ∷ (pair 0 ++ pair 0)

unfoldable pub encode_rec : ℕ → Rec → List ℕ
encode_rec T x = body T x.rule ++ (state x.live ∷ origin_bytes x.origin)

unfoldable pub encode_recs : ℕ → List Rec → List ℕ
encode_recs T [] = []
encode_recs T (x ∷ l) = encode_rec T x ++ encode_recs T l

-- Bytes written over the front of others; what lies behind stays.
unfoldable pub over : List ℕ → List ℕ → List ℕ
over old new = new ++ drop (length new) old

-- ---- what the bytes of a table hold
unfoldable pub number : List ℕ → ℕ → ℕ
number l i = get_or l i 0 + 256 * get_or l (i + 1) 0

-- In a table of goals a record that was not combined is goal 0, in a table of rules an input rule.
unfoldable pub decode_origin : Bool → List ℕ → Origin
decode_origin goal l = elim (get_or l 0 0) [ suc k ↦ combined k (number l 1) (number l 3) | zero ↦ elim goal [ true ↦ asked | false ↦ input (number l 1) ] ]

unfoldable pub decode_rec : List ℕ → ℕ → Bool → List ℕ → Rec
decode_rec sy T goal rec = record { rule = decode_rule sy rec; live = eqb (get_or rec (T + 2) 0) 1; origin = decode_origin goal (drop (T + 3) rec) }

-- The first n records of a table.
unfoldable pub recs_of : List ℕ → ℕ → Bool → ℕ → List ℕ → List Rec
recs_of sy T goal zero l = []
recs_of sy T goal (suc n) l = decode_rec sy T goal (take (T + 8) l) ∷ recs_of sy T goal n (drop (T + 8) l)
