-- The bytes that a log has left, after more of them were read into its buffer.
-- Assumes nothing.
use Rattle.std.proofs.Common.{◌≡◌, ℕ, ◌+◌, ◌-◌, ◌≤◌, List, ◌++◌, Option, None, Some, length, take, drop, sym, ap, ◌∙◌, arith, append_assoc, take-append-drop, length-take-le, length-drop}
use Rattle.std.proofs.Math.Seq.{take-take}
use Rattle.std.specs.Io.KnownBytes.{Consumes, Keeps, prepend_known}
use Rattle.arrays.specs.Put.{put}
use Rattle.arrays.proofs.PutLaws.{front-put}

kept : (a b : Option (List ℕ)) (xs ys bs : List ℕ) → ys ≡ xs ++ bs → Consumes a b bs → Keeps (prepend_known xs a) (prepend_known ys b)
kept None b xs ys bs e p = tt
kept (Some x) None xs ys bs e p = absurd p
kept (Some x) (Some y) xs ys bs e p = ap (λ (l : List ℕ). l ++ y) e ∙ append_assoc xs bs y ∙ ap (λ (l : List ℕ). xs ++ l) (sym p)

-- n bytes went to the front, and what was read stands behind them
pub left_kept : (a b : Option (List ℕ)) (old buf new : List ℕ) (from to n count : ℕ) → from + n ≡ to → to ≤ length old → buf ≡ put 0 (take n (drop from old)) old
    → take n new ≡ take n buf → n ≤ count → Consumes a b (drop n (take count new))
    → Keeps (prepend_known (take (to - from) (drop from old)) a) (prepend_known (take (count - 0) (drop 0 new)) b)
left_kept a b old buf new from to n count e k moved front more read =
    let xs = take n (drop from old) in
    let size : length xs ≡ n = length-take-le n (drop from old) (omega (arith, length-drop from old)) in
    let own : take n new ≡ xs = front ∙ ap (take n) moved ∙ front-put n xs old size (omega arith) in
    let cut : take count new ≡ xs ++ drop n (take count new) = sym (take-append-drop n (take count new)) ∙ ap (λ (l : List ℕ). l ++ drop n (take count new)) (take-take n count new more ∙ own) in
    let width : to - from ≡ n = omega arith in
    let end : count - 0 ≡ count = omega arith in
    rw (width, end) (kept a b xs (take count new) (drop n (take count new)) cut read)
