-- The cover bins of a point of a decoded table, by number.
-- Assumes nothing.
use mathlib.Core.Path.{◌≡◌, refl, sym, ap, ap₂, ◌∙◌}
use mathlib.Core.Bool.{Bool, true, false, ◌&&◌, cond}
use mathlib.Core.List.{List, [], ◌∷◌, ◌++◌, map, append-nil, map-append}
use Prim.Native.Nat.{ℕ, suc, ◌+◌, ◌≤◌}
use native.Mathlib.Omega.{arith}
use native.Mathlib.Numerals.{add-one}
use lib.Dec.{eqb}
use lib.ListN.{length, replicate, length-append, length-map}
use borrow.Author.Tests.{eqb-true}
use Rattle.model.specs.Lists.{up_from}
use Rattle.model.specs.Table.{Point, Kind, cover, ignore, illegal, default, ValueBin, Table, is_cover}
use Rattle.model.specs.Values.{lowest, bin_count}
use Rattle.model.specs.Counters.{CoverBin, listed, auto, Counter, value_bin, point_at, auto_count, has_auto, bin_counters, value_counters, auto_counters, transition_counters, point_counters, cover_bins}
use Rattle.model.proofs.Readers.{All}
use Rattle.model.proofs.WellFormed.{GoodBin, WellFormed}
use Rattle.model.proofs.TableExact.{divisible}
use Rattle.model.proofs.Limits.{covers-append, covers-map, no-covers}
use Rattle.model.proofs.Lists.{length-up_from}
use Rattle.arrays.specs.Flat.{covers, origin}
use Rattle.values.specs.Counts.{cover_count, autos_of}
use Rattle.values.proofs.CountExact.{counted, map_same}
use Rattle.origins.specs.Points.{own_count, origins_in}

-- ---- the bins of some value bins, which are numbered from b on

numbered : ℕ → ℕ → ℕ → List ValueBin → List CoverBin
numbered low p b [] = []
numbered low p b (v ∷ vs) = map (listed b) (up_from 0 (own_count low p v)) ++ numbered low p (suc b) vs

-- by what each comes of
numbered-origins : (low p b : ℕ) (vs : List ValueBin) → map origin (numbered low p b vs) ≡ origins_in low p b vs
unfolding numbered origins_in
numbered-origins low p b [] = refl
numbered-origins low p b (v ∷ vs) =
    map-append origin (map (listed b) (up_from 0 (own_count low p v))) (numbered low p (suc b) vs)
    ∙ ap₂ ◌++◌ (map_same origin (listed b) b (λ k. refl) 0 (own_count low p v))
    (numbered-origins low p (suc b) vs ∙ ap (λ (i : ℕ). origins_in low p i vs) (sym (add-one b)))

module _ (t : Table) (p : ℕ) where
  q : Point
  q = point_at t p

  -- ---- the cover bins are these

  autos : Bool → List CoverBin
  autos c = cond c (map (auto p) (up_from 0 (auto_count q))) []

  auto_covers : cover_bins (auto_counters t p) ≡ autos (has_auto t p)
  unfolding autos q
  auto_covers = go (has_auto t p)
    where
      go : (c : Bool) → cover_bins (cond c (map (λ k. value_bin (auto p k)) (up_from 0 (auto_count (point_at t p)))) []) ≡ cond c (map (auto p) (up_from 0 (auto_count (point_at t p)))) []
      go true = covers-map (auto p) (up_from 0 (auto_count (point_at t p)))
      go false = unfold cover_bins in refl

  auto_origins : (c : Bool) → map origin (autos c) ≡ replicate (autos_of c q) 65535
  unfolding autos
  auto_origins true = map_same origin (auto p) 65535 (λ k. refl) 0 (auto_count q)
  auto_origins false = refl

  module _ (w : WellFormed t) where
    listed-covers : (b : ℕ) (vs : List ValueBin) → All (GoodBin t.points) vs → length (value_counters t p b vs) ≤ 256 → cover_bins (value_counters t p b vs) ≡ numbered (lowest q) p b vs
    unfolding value_counters numbered own_count q
    listed-covers b [] good few = unfold cover_bins in refl
    listed-covers b (v ∷ vs) good few =
        covers-append mine (value_counters t p (suc b) vs)
        ∙ ap₂ ◌++◌ (go (eqb v.point p) refl (omega (arith, long))) (listed-covers (suc b) vs good.1 (omega (arith, long)))
      where
        n : ℕ
        n = bin_count (point_at t p) v.form v.ranges

        mine : List Counter
        mine = cond (eqb v.point p) (bin_counters b v.kind n) []

        long : length (mine ++ value_counters t p (suc b) vs) ≡ length mine + length (value_counters t p (suc b) vs)
        long = length-append mine (value_counters t p (suc b) vs)

        by_kind : (k : Kind) → v.point ≡ p → length (bin_counters b k n) ≤ 256
            → cover_bins (bin_counters b k n) ≡ map (listed b) (up_from 0 (cond (is_cover k) (cover_count (lowest q) v.form v.ranges) 0))
        by_kind cover e few =
            covers-map (listed b) (up_from 0 n)
            ∙ ap (λ (m : ℕ). map (listed b) (up_from 0 m))
            (counted t p w v.form v.ranges (rw e at (divisible t w v good.0)) (omega (arith, length-map (up_from 0 n) (λ k. value_bin (listed b k)), length-up_from 0 n)))
        by_kind ignore e few = unfold cover_bins up_from in refl
        by_kind illegal e few = unfold cover_bins up_from in refl
        by_kind default e few = unfold cover_bins up_from in refl

        go : (c : Bool) → eqb v.point p ≡ c → length (cond c (bin_counters b v.kind n) []) ≤ 256
            → cover_bins (cond c (bin_counters b v.kind n) []) ≡ map (listed b) (up_from 0 (cond (c && is_cover v.kind) (cover_count (lowest q) v.form v.ranges) 0))
        go true e few = by_kind v.kind (eqb-true v.point p e) few
        go false e few = unfold cover_bins up_from in refl

    module _ (few : length (value_counters t p 0 t.value_bins) ≤ 256) where
      covers-numbered : covers t p ≡ numbered (lowest q) p 0 t.value_bins ++ autos (has_auto t p)
      unfolding covers point_counters
      covers-numbered =
          let vs = value_counters t p 0 t.value_bins in
          covers-append (vs ++ auto_counters t p) (transition_counters p 0 t.transition_bins)
          ∙ ap₂ ◌++◌ (covers-append vs (auto_counters t p) ∙ ap₂ ◌++◌ (listed-covers 0 t.value_bins w.bins few) auto_covers) (no-covers p 0 t.transition_bins)
          ∙ append-nil (numbered (lowest q) p 0 t.value_bins ++ autos (has_auto t p))

      pub covers-origins : map origin (covers t p)
          ≡ origins_in (lowest (point_at t p)) p 0 t.value_bins ++ replicate (autos_of (has_auto t p) (point_at t p)) 65535
      unfolding q
      covers-origins =
          ap (map origin) covers-numbered ∙ map-append origin (numbered (lowest q) p 0 t.value_bins) (autos (has_auto t p))
          ∙ ap₂ ◌++◌ (numbered-origins (lowest q) p 0 t.value_bins) (auto_origins (has_auto t p))
