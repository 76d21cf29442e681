-- The crosses of a table by the places where their records, bins and tokens stand.
-- Assumes nothing.
use mathlib.Core.Path.{◌≡◌, refl, sym, ap, ◌∙◌}
use mathlib.Core.List.{List}
use Prim.Native.Nat.{ℕ, zero, suc, ◌<◌}
use native.Mathlib.Omega.{arith}
use lib.ListN.{length, get_or}
use Rattle.model.specs.Table.{Cross, Table, no_cross}
use Rattle.model.specs.Counters.{cross_at}
use Rattle.model.specs.Format.{decode, decoded}
use Rattle.model.specs.Raw.{record_count, records_place, crosses_at, raw_table}
use Rattle.model.specs.Raw as raw
use Rattle.model.proofs.RawCrosses.{length-crosses}
use Rattle.model.proofs.RawExact.{raw-exact}
use Rattle.arrays.specs.Flat.{CrossPlace, next_place, cross_place}

module _ (s : List ℕ) where
  -- i crosses after the place a
  unfoldable pub place_from : CrossPlace → ℕ → CrossPlace
  place_from a zero = a
  place_from a (suc i) = place_from (next_place s a) i

  place_last : (a : CrossPlace) (i : ℕ) → next_place s (place_from a i) ≡ place_from (next_place s a) i
  unfolding place_from
  place_last a zero = refl
  place_last a (suc i) = place_last (next_place s a) i

  pub place_is : (c : ℕ) → cross_place s c ≡ place_from (cross_place s 0) c
  unfolding cross_place place_from
  place_is zero = refl
  place_is (suc c) = ap (next_place s) (place_is c) ∙ place_last (cross_place s 0) c

  -- the cross that the bytes say
  abbrev pub raw_at : CrossPlace → Cross
  raw_at a = raw.cross_at s a.cross a.bins a.tokens

  crosses_at_lem : (n : ℕ) (a : CrossPlace) (i : ℕ) → i < n → get_or (crosses_at s a.cross a.bins a.tokens n) i no_cross ≡ raw_at (place_from a i)
  unfolding crosses_at place_from
  crosses_at_lem zero a i h = absurd (omega arith)
  crosses_at_lem (suc n) a zero h = refl
  crosses_at_lem (suc n) a (suc i) h = crosses_at_lem n (next_place s a) i (omega arith)

  -- a cross of the table t, which was decoded
  module _ (t : Table) (e : decode s ≡ decoded t) (c : ℕ) (h : c < length t.crosses) where
    raw-crosses : t.crosses ≡ crosses_at s (records_place s 7) (records_place s 8) (records_place s 9) (record_count s 7)
    unfolding raw_table
    raw-crosses = ap (λ (u : Table). u.crosses) (raw-exact s t e)

    pub cross-inside : c < record_count s 7
    cross-inside = omega (arith, ap length raw-crosses, length-crosses s (records_place s 7) (records_place s 8) (records_place s 9) (record_count s 7))

    pub cross-raw : cross_at t c ≡ raw_at (cross_place s c)
    unfolding cross_place
    cross-raw = ap (λ (cs : List Cross). get_or cs c no_cross) raw-crosses ∙ crosses_at_lem (record_count s 7) (cross_place s 0) c cross-inside ∙ ap raw_at (sym (place_is c))
