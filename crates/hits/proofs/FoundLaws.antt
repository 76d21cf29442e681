-- The elements with given numbers, one after the other.
-- Assumes nothing.
use mathlib.Core.Path.{◌≡◌, sym, ap, ap₂, ◌∙◌}
use mathlib.Core.List.{List, ◌∷◌}
use Prim.Native.Nat.{ℕ, ◌+◌, ◌-◌, ◌≤◌, ◌<◌}
use native.Mathlib.Omega.{arith}
use lib.ListN.{length, get_or, take, drop, set}
use Rattle.model.proofs.Lists.{part-cons, part_end}
use Rattle.arrays.specs.Put.{put}
use Rattle.arrays.proofs.PutLaws.{put-nil, put-cons}
use Rattle.hits.specs.Places.{elements_at}

module _ (a f : List ℕ) (n i : ℕ) where
  pub elements_turn : (l whole : List ℕ) → i < n → 1 + i < length f → i < length l → put i (elements_at a (take (n - i) (drop (1 + i) f))) l ≡ whole
      → put (i + 1) (elements_at a (take (n - (i + 1)) (drop (1 + (i + 1)) f))) (set l i (get_or a (get_or f (1 + i) 0) 0)) ≡ whole
  unfolding elements_at
  elements_turn l whole h k m e =
      let x = get_or f (1 + i) 0 in
      put-cons i (get_or a x 0) (elements_at a (take (n - (i + 1)) (drop (1 + (i + 1)) f))) l m
      ∙ ap (λ (z : ℕ). put i (elements_at a (x ∷ take (n - (i + 1)) (drop z f))) l) (let z : 1 + (i + 1) ≡ 1 + i + 1 = omega arith in z)
      ∙ ap (λ (ks : List ℕ). put i (elements_at a ks) l) (sym (part-cons f (1 + i) i n h k))
      ∙ e

  pub elements_end : (l whole : List ℕ) → n ≤ i → put i (elements_at a (take (n - i) (drop (1 + i) f))) l ≡ whole → l ≡ whole
  unfolding elements_at
  elements_end l whole h e = sym (put-nil i l) ∙ ap (λ (ks : List ℕ). put i (elements_at a ks) l) (sym (part_end (drop (1 + i) f) i n h)) ∙ e

pub elements-start : (a f : List ℕ) (n : ℕ) (l : List ℕ) → put 0 (elements_at a (take (n - 0) (drop (1 + 0) f))) l ≡ put 0 (elements_at a (take n (drop 1 f))) l
elements-start a f n l = ap₂ (λ (x y : ℕ). put 0 (elements_at a (take x (drop y f))) l) (let z : n - 0 ≡ n = omega arith in z) (let z : 1 + 0 ≡ 1 = omega arith in z)
