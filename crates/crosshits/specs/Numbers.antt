-- The numbers of a cross's hit products, from the lists of hit cover bins. For an accepted table they are the places of the hit ones among its products (proofs/NumberLaws.antt).
-- Assumes nothing.
use Rattle.std.specs.Prelude.{ℕ, zero, suc, ◌+◌, ◌*◌, ◌≤◌, ◌<◌, ◌≡◌, List, [], ◌∷◌, map, length, get_or, drop}
use Rattle.model.specs.Lists.{up_from, concat_of}
use Rattle.model.specs.Format.{byte}
use Rattle.products.specs.Digits.{many}
use Rattle.products.specs.Shapes.{sizes_of}
use Rattle.products.specs.declared.shapes.Shape.{Shape}
use Rattle.crosshits.specs.declared.numbers.Turn.{Turn}

-- the k-th hit cover bin of point p
abbrev pub found_part : List ℕ → ℕ → ℕ → ℕ
found_part a p k = get_or a (257 * p + 1 + k) 0

-- how many there are
abbrev pub found_count : List ℕ → ℕ → ℕ
found_count a p = get_or a (257 * p) 0

-- all of them
unfoldable pub found_parts : List ℕ → ℕ → List ℕ
found_parts a p = map (found_part a p) (up_from 0 (found_count a p))

-- The points stand from the byte `at` on, and have as many parts as the sizes say. `first` is the number of the first of these products.
unfoldable pub numbers_from : List ℕ → List ℕ → ℕ → ℕ → List ℕ → List ℕ
numbers_from s a at first [] = first ∷ []
numbers_from s a at first (n ∷ ns) = concat_of (λ d. numbers_from s a (at + 1) (first + d * many ns) ns) (found_parts a (byte s at))

-- how many they are: as many as n points from the byte `at` on have hit cover bins, multiplied
unfoldable pub hit_total : List ℕ → List ℕ → ℕ → ℕ → ℕ
hit_total s a at zero = 1
hit_total s a at (suc n) = found_count a (byte s at) * hit_total s a (at + 1) n

abbrev pub turn_numbers : List ℕ → List ℕ → Shape → Turn → List ℕ
turn_numbers s a h x = numbers_from s a x.point x.first (drop x.q (sizes_of h))

-- each hit part is one of its point's
unfoldable pub PartsFit : List ℕ → List ℕ → ℕ → List ℕ → Type 0
PartsFit s a at [] = Unit {0}
PartsFit s a at (n ∷ ns) = ((k : ℕ) → k < found_count a (byte s at) → found_part a (byte s at) k < n) × PartsFit s a (at + 1) ns

-- at most 1,024 products
pub record Ready (s a : List ℕ) (h : Shape) (x : Turn) : Type 0 where
  pub few : h.count ≤ 4
  pub long : length (sizes_of h) ≡ h.count
  pub near : x.point ≤ 65540 + x.q
  pub room : x.first + many (drop x.q (sizes_of h)) ≤ 1024
  pub fit : PartsFit s a x.point (drop x.q (sizes_of h))
