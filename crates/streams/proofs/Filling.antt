-- A buffer that is read into behind its first bytes.
-- Assumes nothing.
use Rattle.std.proofs.Common.{◌≡◌, ℕ, ◌+◌, ◌≤◌, List, ◌++◌, Option, length, take, drop, sym, ap, subst, ◌∙◌, arith, length-take-le}
use Rattle.std.proofs.Math.Seq.{take-add, take-take, drop-append-le}
use Rattle.std.specs.Io.KnownBytes.{Consumes}
use Rattle.std.proofs.KnownBytes.{Consumes-trans}

-- the first bytes stay
pub front_kept : (xs ys zs : List ℕ) (have f : ℕ) → have ≤ f → take f ys ≡ take f xs → take have xs ≡ take have zs → take have ys ≡ take have zs
front_kept xs ys zs have f h e k = sym (take-take have f ys h) ∙ ap (take have) e ∙ take-take have f xs h ∙ k

-- what came before and what one more read gave
pub filled : (a b c : Option (List ℕ)) (xs ys : List ℕ) (have f n : ℕ) → have ≤ f → f ≤ length ys → take f ys ≡ take f xs
    → Consumes a b (drop have (take f xs)) → Consumes b c (take n (drop f ys)) → Consumes a c (drop have (take (f + n) ys))
filled a b c xs ys have f n h k e before read =
    let within : have ≤ length (take f ys) = omega (arith, length-take-le f ys k) in
    let cut : drop have (take (f + n) ys) ≡ drop have (take f xs) ++ take n (drop f ys) = ap (drop have) (take-add f n ys) ∙ drop-append-le have (take f ys) (take n (drop f ys)) within ∙ ap (λ (l : List ℕ). drop have l ++ take n (drop f ys)) e in
    subst (Consumes a c) (sym cut) (Consumes-trans a b c _ _ before read)
