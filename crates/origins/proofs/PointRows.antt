-- An array with the cover bins of point p from 256 p on, point after point.
-- Assumes nothing.
use mathlib.Core.Path.{◌≡◌, sym, ap, ap₂, ◌∙◌}
use mathlib.Core.List.{List, map}
use mathlib.Core.Logic.{⊎_elim, inl, inr}
use Prim.Native.Nat.{ℕ, ◌+◌, ◌*◌, ◌≤◌, ◌<◌}
use native.Mathlib.Decide.{dec_le}
use native.Mathlib.Omega.{arith}
use lib.ListN.{length, get_or, length-map}
use Rattle.model.specs.Table.{Table}
use Rattle.model.specs.Counters.{CoverBin, no_cover_bin}
use Rattle.arrays.specs.Put.{put}
use Rattle.model.proofs.Lists.{get_d_map}
use Rattle.arrays.specs.Flat.{covers}
use Rattle.arrays.proofs.PutLaws.{put_in, put-before}

-- those of the first n points stand there
abbrev pub Filled : (CoverBin → ℕ) → Table → ℕ → List ℕ → Type 0
Filled f t n a = (p k : ℕ) → p < n → k < length (covers t p) → get_or a (256 * p + k) 0 ≡ f (get_or (covers t p) k no_cover_bin)

module _ (f : CoverBin → ℕ) (t : Table) where
  pub filled_none : (a : List ℕ) → Filled f t 0 a
  filled_none a p k h i = absurd (omega arith)

  module _ (n : ℕ) (few : (p : ℕ) → p < n + 1 → length (covers t p) ≤ 256) (a b : List ℕ) (room : 256 * n + 256 ≤ length a) (e : b ≡ put (256 * n) (map f (covers t n)) a) (done : Filled f t n a) where
    pub filled-turn : Filled f t (n + 1) b
    filled-turn p k h i = ⊎_elim before here (elim (dec_le n p) [ yes y ↦ inr y | no y ↦ inl (omega arith) ])
      where
        before : p < n → get_or b (256 * p + k) 0 ≡ f (get_or (covers t p) k no_cover_bin)
        before y =
            ap (λ (l : List ℕ). get_or l (256 * p + k) 0) e
            ∙ put-before (256 * n) (map f (covers t n)) a (256 * p + k) 0 (omega arith) (omega (arith, few p h)) ∙ done p k y i

        here : n ≤ p → get_or b (256 * p + k) 0 ≡ f (get_or (covers t p) k no_cover_bin)
        here y =
            let same : p ≡ n = omega arith in
            let inside : k < length (covers t n) = rw same at i in
            let long = length-map (covers t n) f in
            ap₂ (λ (l : List ℕ) (q : ℕ). get_or l (256 * q + k) 0) e same
            ∙ put_in (256 * n) (map f (covers t n)) a k 0 (omega arith) (omega arith)
            ∙ get_d_map f (covers t n) k no_cover_bin 0 inside
            ∙ ap (λ (q : ℕ). f (get_or (covers t q) k no_cover_bin)) (sym same)
