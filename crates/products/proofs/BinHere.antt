-- What the turn of a cross's i-th bin needs.
-- Assumes nothing.
use mathlib.Core.Path.{◌≡◌, ap}
use mathlib.Core.List.{List}
use Prim.Native.Nat.{ℕ, ◌+◌, ◌*◌, ◌-◌, ◌^◌, ◌≤◌, ◌<◌}
use native.Mathlib.Omega.{arith}
use lib.Pow.{pow_mono}
use Rattle.model.specs.Format.{byte}
use Rattle.products.specs.declared.places.Place.{Place}
use Rattle.products.specs.Shapes.{Stands}
use Rattle.products.specs.Single.{Single, BinsSingle}
use Rattle.products.specs.Tokens.{TokensLegal}
use Rattle.products.specs.Marks.{BinsLegal, longest, longest_bin}
use Rattle.products.proofs.Selected.{single_first, legal_first}
use Rattle.products.proofs.Longest.{bin-inside}
use Rattle.products.proofs.Exact.{cross_placed}

-- the i-th of n bins stands at b and has m tokens, from k on
pub record BinHere (s : List ℕ) (p : Place) (n i b k m : ℕ) : Type 0 where
  pub near : (p.cross ≤ 65536) × (p.bins ≤ 65536) × (p.tokens ≤ 65536)
  pub few : n ≤ 16
  pub power : 2 ^ i ≤ 2 ^ 15
  pub tokens : m ≤ 32
  pub legal : TokensLegal s p.cross k m
  pub legal_rest : BinsLegal s p.cross (b + 3) (k + 20 * m) (n - (i + 1))
  pub single : Single s k m
  pub single_rest : BinsSingle s (b + 3) (k + 20 * m) (n - (i + 1))
  pub most : longest s b (n - i) ≤ longest_bin s p
  pub inside : m ≤ longest_bin s p

pub bin_here : (s : List ℕ) (p : Place) (n i b k m : ℕ) → Stands s p → n ≡ byte s (p.cross + 12) → i < n → m ≡ byte s (b + 2)
    → BinsSingle s b k (n - i) → BinsLegal s p.cross b k (n - i) → longest s b (n - i) ≤ longest s p.bins n → BinHere s p n i b k m
bin_here s p n i b k m stands en h em single legal most =
    let good = cross_placed s p stands in
    let few : n ≤ 16 = omega (arith, en, good.few) in
    let all : longest s b (n - i) ≤ longest_bin s p = omega (arith, most, ap (longest s p.bins) en) in
    let one = single_first s p.cross b k n i h m em single in
    let first = legal_first s p.cross b k n i h m em legal in
    record {
      near = good.near;
      few = few;
      power = pow_mono {i = i} {j = 15} (omega (arith, few, h));
      tokens = first.0;
      legal = first.1;
      legal_rest = first.2;
      single = one.0;
      single_rest = one.1;
      most = all;
      inside = bin-inside s b n i h m em (longest_bin s p) all;
    }
