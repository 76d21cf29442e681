-- The report of listed places.
-- Assumes nothing.
use Rattle.std.specs.Prelude.{ℕ, ◌≤◌, ◌<◌, ◌≡◌, List, map, length, get_or, drop}
use Rattle.model.specs.Lists.{one_of, as_bit}

-- 1 for each listed place that is hit
unfoldable pub hit_bits : List ℕ → List ℕ → List ℕ
hit_bits places hits = map (λ k. as_bit (one_of k hits)) places

-- the hits from `from` on, without those before r, are the same as far as places from k on go; and that at r is not below k
pub record Passed (hits : List ℕ) (k from r : ℕ) : Type 0 where
  pub inside : r ≤ length hits
  pub same : (x : ℕ) → k ≤ x → one_of x (drop r hits) ≡ one_of x (drop from hits)
  pub reached : r < length hits → k ≤ get_or hits r 0
