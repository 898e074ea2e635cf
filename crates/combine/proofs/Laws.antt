-- Laws of lists that the functions' proofs cite. Assumes nothing.
use Rattle.std.proofs.Common.{ℕ, ◌≤◌, ◌<◌, ◌≡◌, List, Bool, true, false, length, take, drop, get_or, ap, ◌∙◌, sym, arith, get_or-take, length-take-le}
use Rattle.std.specs.Str.{bytes_eq}
use Rattle.std.proofs.lemmas.List.{get_or_default}
use Rattle.std.proofs.lemmas.List.Folds.{Any-from_list_any, list_any_at}
use Rattle.std.proofs.lemmas.Slice.Eq.{bytes_eq-Decides}
use Rattle.combine.specs.Copies.{Says, Copy, has_copy}

-- the search for a copy among the first n starts
pub has_copy_says : (text starts : List ℕ) (n p k : ℕ) → n ≤ length starts → (c : Bool) → c ≡ has_copy text (take n starts) p k → Says (Copy text starts n p k) c
has_copy_says text starts n p k l true e =
    let w = Any-from_list_any (λ s. bytes_eq (take k (drop s text)) (take k (drop p text))) (take n starts) (sym e) in
    let lt : w.0 < n = omega (arith, length-take-le n starts l, w.2) in
    let at : get_or starts w.0 0 ≡ w.1 = get_or_default starts w.0 0 w.1 (omega arith) ∙ sym (get_or-take n starts w.0 w.1 lt) ∙ w.3 in
    (w.0, lt, ap (λ (x : ℕ). take k (drop x text)) at ∙ (bytes_eq-Decides (take k (drop w.1 text)) (take k (drop p text))).0 w.4)
has_copy_says text starts n p k l false e = λ w.
    let lt : w.0 < length (take n starts) = omega (arith, length-take-le n starts l, w.1) in
    let at : bytes_eq (take k (drop (get_or (take n starts) w.0 0) text)) (take k (drop p text)) ≡ true =
    (bytes_eq-Decides (take k (drop (get_or (take n starts) w.0 0) text)) (take k (drop p text))).1
    (ap (λ (x : ℕ). take k (drop x text)) (get_or-take n starts w.0 0 w.1) ∙ w.2)
    in
    let z : true ≡ false = sym (list_any_at (λ s. bytes_eq (take k (drop s text)) (take k (drop p text))) (take n starts) w.0 0 lt at) ∙ sym e in
    cc
