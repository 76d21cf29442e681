-- Elements that depend only on what a counter of a cross is, and on its cross.
-- Assumes nothing.
use Rattle.std.specs.Prelude.{ℕ, ◌+◌, ◌≡◌, Bool, cond, List, [], ◌∷◌, ◌++◌, replicate}
use Rattle.model.specs.Counters.{CoverBin, Counter, cross_bin, illegal_cross, product}
use Rattle.model.specs.Format.{byte, CrossBinHead}
use Rattle.crosses.specs.Flags.{label_of, heads_at}

unfoldable pub bin_labels : ℕ → ℕ → List CrossBinHead → List ℕ
bin_labels a b [] = []
bin_labels a b (h ∷ hs) = label_of a b h.kind ++ bin_labels a b hs

-- the cross whose record stands at cp, its bins from bp on, with n products
unfoldable pub cross_labels : List ℕ → ℕ → ℕ → ℕ → ℕ → ℕ → ℕ → List ℕ
cross_labels s n a b p cp bp = bin_labels a b (heads_at s bp (byte s (cp + 12))) ++ replicate n p

-- the cross's number where each cross has elements of its own, else 0
abbrev pub shift : Bool → ℕ → ℕ
shift each c = cond each c 0

-- g is a on cover cross bins, b on illegal ones and p on products, each moved on by the cross's number if `each` says so
pub record Labels (g : Counter → ℕ) (a b p : ℕ) (each : Bool) : Type 0 where
  pub on_cover : (c i : ℕ) → g (cross_bin c i) ≡ a + shift each c
  pub on_illegal : (c i : ℕ) → g (illegal_cross c i) ≡ b + shift each c
  pub on_product : (c : ℕ) (cs : List CoverBin) → g (product c cs) ≡ p + shift each c
