-- Laws on buffers that the functions' proofs cite. Assumes nothing.
use Rattle.std.proofs.Common.{◌≡◌, ℕ, ◌+◌, ◌≤◌, List, ◌++◌, length, take, sym, ap, ◌∙◌}
use Rattle.std.proofs.Math.Seq.{length-take-le, take-append-add, take-append-le}
use borrow.Rule.Slice.PartMut.{put_mid, post_of}

-- the front of a buffer after the first n of what was put behind it
pub grown : (at room n : ℕ) (buf new : List ℕ) → at ≤ length buf → n ≤ length new → take (at + n) (put_mid at room buf new) ≡ take at buf ++ take n new
grown at room n buf new h k =
    let after = post_of at room buf in
    ap (λ (x : ℕ). take (x + n) (take at buf ++ (new ++ after))) (sym (length-take-le at buf h))
    ∙ take-append-add (take at buf) (new ++ after) n
    ∙ ap (take at buf ++◌) (take-append-le n new after k)
