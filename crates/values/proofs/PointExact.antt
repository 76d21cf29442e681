-- The points, value bins and auto bins of an accepted table, by their places.
-- Assumes nothing.
use mathlib.Core.Path.{◌≡◌, refl, sym, ap, ap₂, ◌∙◌}
use mathlib.Core.Bool.{Bool, true, false, not, ◌&&◌, ◌||◌}
use mathlib.Core.List.{List, ◌++◌}
use Prim.Native.Nat.{ℕ, zero, suc, ◌+◌, ◌*◌, ◌≤◌, ◌<◌}
use native.Mathlib.Omega.{arith}
use lib.Dec.{leb, eqb}
use lib.ListN.{length, get_or, length-append}
use borrow.Author.Tests.{leb-true, le-leb, ne_eqb}
use Rattle.model.specs.Lists.{up_from, any, all}
use Rattle.model.specs.Table.{Point, Table, is_cover, is_default, no_point}
use Rattle.model.specs.Counters.{point_at, has_auto, value_counters, auto_counters, transition_counters, point_counters, product_count, within_limits}
use Rattle.model.specs.Format.{byte, kind_from, point_record, decode, decoded}
use Rattle.model.specs.Raw.{bins_at, transitions_at, record_count, records_place, raw_table}
use Rattle.model.proofs.Booleans.{and_left}
use Rattle.model.proofs.Sections.{acceptance}
use Rattle.model.proofs.Limits.{all_from}
use Rattle.model.proofs.RawLaws.{length-rows, get_d_rows}
use Rattle.model.proofs.RawExact.{raw-exact}
use Rattle.values.specs.Points.{some_own, has_auto_at}

-- ---- which bins keep a point from having auto bins

listed-kind : (k : ℕ) → (is_cover (kind_from k) || is_default (kind_from k)) ≡ (eqb k 0 || (true && leb 3 k))
listed-kind zero = refl
listed-kind (suc zero) = refl
listed-kind (suc (suc zero)) = refl
listed-kind (suc (suc (suc k))) = sym (ap₂ ◌||◌ (ne_eqb (suc (suc (suc k))) 0 (λ e. omega arith)) (le-leb 3 (suc (suc (suc k))) (omega arith)))

cover-kind : (k : ℕ) → is_cover (kind_from k) ≡ (eqb k 0 || (false && leb 3 k))
cover-kind zero = refl
cover-kind (suc zero) = refl
cover-kind (suc (suc zero)) = refl
cover-kind (suc (suc (suc k))) = sym (ap (◌|| false) (ne_eqb (suc (suc (suc k))) 0 (λ e. omega arith)))

own_bins_lem : (s : List ℕ) (p a r n : ℕ) → any (λ b. eqb b.point p && (is_cover b.kind || is_default b.kind)) (bins_at s a r n) ≡ some_own s p true 8 a n
unfolding any bins_at some_own
own_bins_lem s p a r zero = refl
own_bins_lem s p a r (suc n) = ap₂ ◌||◌ (ap (eqb (byte s a) p &&◌) (listed-kind (byte s (a + 1)))) (own_bins_lem s p (a + 8) _ n)

own-transitions : (s : List ℕ) (p b q k r n : ℕ) → any (λ u. eqb u.point p && is_cover u.kind) (transitions_at s b q k r n) ≡ some_own s p false 4 b n
unfolding any transitions_at some_own
own-transitions s p b q k r zero = refl
own-transitions s p b q k r (suc n) = ap₂ ◌||◌ (ap (eqb (byte s b) p &&◌) (cover-kind (byte s (b + 1)))) (own-transitions s p (b + 4) _ _ _ n)

pub auto_raw : (s : List ℕ) (p : ℕ) → has_auto (raw_table s) p ≡ has_auto_at s p (records_place s 1) (record_count s 1) (records_place s 3) (record_count s 3)
unfolding has_auto raw_table
auto_raw s p =
    ap₂ (λ (x y : Bool). not x && not y)
    (own_bins_lem s p (records_place s 1) (records_place s 2) (record_count s 1))
    (own-transitions s p (records_place s 3) (records_place s 4) (records_place s 5) (records_place s 6) (record_count s 3))

-- ---- the point's record, and the bins

module _ (s : List ℕ) (t : Table) (e : decode s ≡ decoded t) (p : ℕ) (inside : p < length t.points) where
  pub point_raw : point_at t p ≡ point_record s (records_place s 0 + 11 * p)
  unfolding raw_table
  point_raw =
      let q = ap (λ (u : Table). u.points) (raw-exact s t e) in
      let many : length t.points ≡ record_count s 0 = ap length q ∙ length-rows (point_record s) 11 (records_place s 0) (record_count s 0) in
      ap (λ (ps : List Point). get_or ps p no_point) q ∙ get_d_rows (point_record s) 11 (records_place s 0) (record_count s 0) p no_point (omega arith)

  pub bins_raw : t.value_bins ≡ bins_at s (records_place s 1) (records_place s 2) (record_count s 1)
  unfolding raw_table
  bins_raw = ap (λ (u : Table). u.value_bins) (raw-exact s t e)

  pub few_counters : length (point_counters t p) ≤ 256
  unfolding within_limits
  few_counters =
      let points = all (λ q. leb (length (point_counters t q)) 256) (up_from 0 (length t.points)) in
      let crosses = all (λ c. leb (product_count t c) 1024) (up_from 0 (length t.crosses)) in
      leb-true (length (point_counters t p)) 256 (all_from (λ q. leb (length (point_counters t q)) 256) 0 (length t.points) (and_left points crosses (acceptance s t e).limited) p (omega arith) (omega arith))

  pub few_values : length (value_counters t p 0 t.value_bins) ≤ 256
  unfolding point_counters
  few_values =
      let mine = value_counters t p 0 t.value_bins in
      let others = transition_counters p 0 t.transition_bins in
      let few : length ((mine ++ auto_counters t p) ++ others) ≤ 256 = few_counters in
      omega (arith, length-append (mine ++ auto_counters t p) others, length-append mine (auto_counters t p))
