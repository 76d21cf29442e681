-- The kinds of a point's counters, by the places of its bins, are the model's.
-- Assumes nothing.
use mathlib.Core.Path.{◌≡◌, refl, sym, ap, ap₂, ◌∙◌, subst}
use mathlib.Core.Bool.{Bool, true, false, cond}
use mathlib.Core.List.{List, [], ◌∷◌, ◌++◌, map, map-append}
use Prim.Native.Nat.{ℕ, zero, suc, ◌+◌, ◌-◌, ◌*◌, ◌≤◌, ◌<◌}
use native.Mathlib.Omega.{arith}
use native.Mathlib.Numerals.{add-one}
use lib.Dec.{eqb}
use lib.ListN.{length, set, replicate, length-append, length-map, length-replicate}
use borrow.Author.Tests.{eqb-true}
use Rattle.model.specs.Lists.{up_from, concat_of}
use Rattle.model.specs.Table.{Kind, cover, ignore, illegal, default, ValueBin, TransitionBin, Table}
use Rattle.model.specs.Values.{lowest, bin_count}
use Rattle.model.specs.Counters.{Counter, value_bin, listed, auto, point_at, auto_count, has_auto, bin_counters, value_counters, auto_counters, transition_counter, transition_counters, point_counters}
use Rattle.model.specs.Format.{byte, kind_from, point_record, accepted, table_of}
use Rattle.model.specs.Raw.{records_place, record_count, bins_at, transitions_at, step_total, range_total}
use Rattle.model.specs.Register.{point_total}
use Rattle.model.proofs.Readers.{All}
use Rattle.model.proofs.WellFormed.{GoodBin, WellFormed, well-formed}
use Rattle.model.proofs.TableExact.{divisible}
use Rattle.model.proofs.Lists.{length-row, from_step, from_end}
use Rattle.model.proofs.Sections.{accepted_decodes}
use Rattle.model.proofs.RawExact.{accepted_raw, few_points}
use Rattle.arrays.specs.Put.{put}
use Rattle.arrays.specs.Flat.{kind_of, kinds_of, all_point_counters, point_start, point_starts}
use Rattle.arrays.proofs.PutLaws.{put-nil, put-cons}
use Rattle.arrays.proofs.Written.{both-written}
use Rattle.arrays.proofs.FlatLaws.{kinds-length}
use Rattle.layout.specs.declared.Layout.{Layout}
use Rattle.layout.specs.Places.{layout_of}
use Rattle.values.specs.Counts.{autos_of}
use Rattle.values.specs.Points.{has_auto_at}
use Rattle.values.proofs.CountExact.{counted, map_same}
use Rattle.values.proofs.PointExact.{auto_raw, few_values, bins_raw}
use Rattle.spans.specs.declared.collects.Bins.{Bins}
use Rattle.spans.specs.Part.{PartOf, OwnPart}
use Rattle.spans.proofs.PartLaws.{own_bins, own_part, part_auto}
use Rattle.points.specs.Kinds.{kinds_by, bin_kinds, kinds_in, transition_kind, transition_kinds, transition_kinds_from}
use Rattle.points.proofs.ValueLaws.{record_is}
use Rattle.points.proofs.TransitionExact.{bins_are}
use Rattle.points.proofs.AllLaws.{few_here, points_turn, points_end, points-all, counters_room}

module _ (t : Table) (ok : WellFormed t) (p : ℕ) where
  bin_kinds_lem : (b : ℕ) (u : ValueBin) → GoodBin t.points u → u.point ≡ p → length (bin_counters b u.kind (bin_count (point_at t p) u.form u.ranges)) ≤ 256
      → map kind_of (bin_counters b u.kind (bin_count (point_at t p) u.form u.ranges)) ≡ kinds_by (lowest (point_at t p)) u.kind u
  bin_kinds_lem b u good y few = go u.kind few
    where
      n : ℕ
      n = bin_count (point_at t p) u.form u.ranges

      go : (k : Kind) → length (bin_counters b k n) ≤ 256 → map kind_of (bin_counters b k n) ≡ kinds_by (lowest (point_at t p)) k u
      go cover few =
          map_same kind_of (λ k. value_bin (listed b k)) 0 (λ k. refl) 0 n
          ∙ ap (λ (m : ℕ). replicate m 0) (counted t p ok u.form u.ranges (rw y at (divisible t ok u good)) (omega (arith, length-row (λ k. value_bin (listed b k)) 0 n)))
      go ignore few = refl
      go illegal few = refl
      go default few = refl

  value_kinds : (b : ℕ) (us : List ValueBin) → All (GoodBin t.points) us → length (value_counters t p b us) ≤ 256 → map kind_of (value_counters t p b us) ≡ kinds_in (lowest (point_at t p)) p us
  unfolding value_counters kinds_in bin_kinds
  value_kinds b [] good few = refl
  value_kinds b (u ∷ us) good few =
      map-append kind_of (cond (eqb u.point p) (bin_counters b u.kind (bin_count (point_at t p) u.form u.ranges)) []) (value_counters t p (suc b) us)
      ∙ ap₂ ◌++◌ (go (eqb u.point p) refl (omega (arith, long))) (value_kinds (suc b) us good.1 (omega (arith, long)))
    where
      mine : List Counter
      mine = cond (eqb u.point p) (bin_counters b u.kind (bin_count (point_at t p) u.form u.ranges)) []

      long : length (mine ++ value_counters t p (suc b) us) ≡ length mine + length (value_counters t p (suc b) us)
      long = length-append mine (value_counters t p (suc b) us)

      go : (c : Bool) → eqb u.point p ≡ c → length (cond c (bin_counters b u.kind (bin_count (point_at t p) u.form u.ranges)) []) ≤ 256
          → map kind_of (cond c (bin_counters b u.kind (bin_count (point_at t p) u.form u.ranges)) []) ≡ cond c (kinds_by (lowest (point_at t p)) u.kind u) []
      go true k few = bin_kinds_lem b u good.0 (eqb-true u.point p k) few
      go false k few = refl

-- those from the first to the last bin of the point
kinds-own : (low p : ℕ) (us : List ValueBin) → kinds_in low p (own_bins p us) ≡ kinds_in low p us
unfolding kinds_in bin_kinds own_bins
kinds-own low p [] = refl
kinds-own low p (u ∷ us) = go (eqb u.point p) refl (kinds-own low p us)
  where
    go : (c : Bool) → eqb u.point p ≡ c → kinds_in low p (own_bins p us) ≡ kinds_in low p us
        → kinds_in low p (cond c (u ∷ own_bins p us) (own_bins p us)) ≡ cond c (kinds_by low u.kind u) [] ++ kinds_in low p us
    go true e h = rw e (ap (kinds_by low u.kind u ++◌) h)
    go false e h = h

part_kinds : (s : List ℕ) (low p a r n b q m : ℕ) → PartOf s p a r n b q m → kinds_in low p (bins_at s b q m) ≡ kinds_in low p (bins_at s a r n)
part_kinds s low p a r n b q m o = sym (kinds-own low p (bins_at s b q m)) ∙ ap (kinds_in low p) (own_part s p a r n b q m o) ∙ kinds-own low p (bins_at s a r n)

auto_kinds : (t : Table) (p : ℕ) → map kind_of (auto_counters t p) ≡ replicate (autos_of (has_auto t p) (point_at t p)) 0
auto_kinds t p = go (has_auto t p)
  where
    go : (c : Bool) → map kind_of (cond c (map (λ k. value_bin (auto p k)) (up_from 0 (auto_count (point_at t p)))) []) ≡ replicate (autos_of c (point_at t p)) 0
    go true = map_same kind_of (λ k. value_bin (auto p k)) 0 (λ k. refl) 0 (auto_count (point_at t p))
    go false = refl

transition_kinds_lem : (s : List ℕ) (p b n i q k r : ℕ) → map kind_of (transition_counters p i (transitions_at s (b + 4 * i) q k r n)) ≡ transition_kinds_from s p b i n
unfolding transition_counters transitions_at transition_kinds_from transition_kinds
transition_kinds_lem s p b zero i q k r = refl
transition_kinds_lem s p b (suc n) i q k r =
    map-append kind_of (cond (eqb (byte s (b + 4 * i)) p) (transition_counter i (kind_from (byte s (b + 4 * i + 1)))) []) (transition_counters p (suc i) (transitions_at s (b + 4 * i + 4) q' k' r' n))
    ∙ ap₂ ◌++◌ (go (eqb (byte s (b + 4 * i)) p) (kind_from (byte s (b + 4 * i + 1))))
    (ap₂ (λ (x y : ℕ). map kind_of (transition_counters p x (transitions_at s y q' k' r' n))) (sym (add-one i)) (let z : b + 4 * i + 4 ≡ b + 4 * (i + 1) = omega arith in z)
    ∙ transition_kinds_lem s p b n (i + 1) q' k' r')
  where
    q' : ℕ
    q' = q + byte s (b + 4 * i + 3)

    k' : ℕ
    k' = k + 3 * step_total s q (byte s (b + 4 * i + 3))

    r' : ℕ
    r' = r + 17 * range_total s k (step_total s q (byte s (b + 4 * i + 3)))

    go : (c : Bool) (x : Kind) → map kind_of (cond c (transition_counter i x) []) ≡ cond c (transition_kind x) []
    go true cover = refl
    go true ignore = refl
    go true illegal = refl
    go true default = refl
    go false x = refl

-- ---- a point of an accepted table

module _ (s : List ℕ) (ok : accepted s ≡ true) (p : ℕ) (inside : p < point_total (table_of s)) where
  raw_kinds : kinds_of (point_counters (table_of s) p)
      ≡ (kinds_in (lowest (point_at (table_of s) p)) p (bins_at s (records_place s 1) (records_place s 2) (record_count s 1))
      ++ replicate (autos_of (has_auto_at s p (records_place s 1) (record_count s 1) (records_place s 3) (record_count s 3)) (point_at (table_of s) p)) 0)
      ++ transition_kinds_from s p (records_place s 3) 0 (record_count s 3)
  unfolding kinds_of point_counters
  raw_kinds =
      let t = table_of s in
      let d = accepted_decodes s ok in
      let good = well-formed s t d in
      let low = lowest (point_at t p) in
      map-append kind_of (value_counters t p 0 t.value_bins ++ auto_counters t p) (transition_counters p 0 t.transition_bins)
      ∙ ap₂ ◌++◌
      (map-append kind_of (value_counters t p 0 t.value_bins) (auto_counters t p)
      ∙ ap₂ ◌++◌
      (value_kinds t good p 0 t.value_bins good.bins (few_values s t d p inside) ∙ ap (kinds_in low p) (bins_raw s t d p inside))
      (auto_kinds t p ∙ ap (λ (b : Bool). replicate (autos_of b (point_at t p)) 0) (ap (λ (u : Table). has_auto u p) (accepted_raw s ok) ∙ auto_raw s p)))
      (ap (λ (us : List TransitionBin). map kind_of (transition_counters p 0 us))
      (bins_are s ok ∙ ap (λ (at : ℕ). transitions_at s at (records_place s 4) (records_place s 5) (records_place s 6) (record_count s 3)) (let z : records_place s 3 ≡ records_place s 3 + 4 * 0 = omega arith in z))
      ∙ transition_kinds_lem s p (records_place s 3) (record_count s 3) 0 (records_place s 4) (records_place s 5) (records_place s 6))

  module _ (l : Layout) (e : l ≡ layout_of s) (own : Bins) (o : OwnPart s p own.bins own.ranges own.count) where
    part : PartOf s p l.bins l.ranges l.bin_count own.bins own.ranges own.count
    unfolding layout_of
    part = subst (λ (x : Layout). PartOf s p x.bins x.ranges x.bin_count own.bins own.ranges own.count) (sym e) o

    module _ (low : ℕ) (has : Bool) (m : ℕ) (el : low ≡ lowest (point_record s (l.points + 11 * p))) (eh : has ≡ has_auto_at s p own.bins own.count l.transitions l.transition_count)
        (em : m ≡ autos_of has (point_record s (l.points + 11 * p))) where
      auto-same : has ≡ has_auto_at s p (records_place s 1) (record_count s 1) (records_place s 3) (record_count s 3)
      unfolding layout_of
      auto-same =
          eh ∙ part_auto s p l.bins l.ranges l.bin_count own.bins own.ranges own.count part l.transitions l.transition_count
          ∙ ap (λ (x : Layout). has_auto_at s p x.bins x.bin_count x.transitions x.transition_count) e

      autos-same : m ≡ autos_of (has_auto_at s p (records_place s 1) (record_count s 1) (records_place s 3) (record_count s 3)) (point_at (table_of s) p)
      autos-same = em ∙ ap₂ autos_of auto-same (sym (record_is s ok p inside l e))

      low_same : low ≡ lowest (point_at (table_of s) p)
      low_same = el ∙ ap lowest (sym (record_is s ok p inside l e))

      pub kind-parts : kinds_of (point_counters (table_of s) p)
          ≡ (kinds_in low p (bins_at s own.bins own.ranges own.count) ++ replicate m 0) ++ transition_kinds_from s p l.transitions 0 l.transition_count
      unfolding layout_of
      kind-parts =
          raw_kinds
          ∙ sym
          (ap₂ ◌++◌
          (ap₂ ◌++◌
          (ap (λ (v : ℕ). kinds_in v p (bins_at s own.bins own.ranges own.count)) low_same
          ∙ part_kinds s (lowest (point_at (table_of s) p)) p (records_place s 1) (records_place s 2) (record_count s 1) own.bins own.ranges own.count o)
          (ap (λ (k : ℕ). replicate k 0) autos-same))
          (ap (λ (x : Layout). transition_kinds_from s p x.transitions 0 x.transition_count) e))

      -- the three parts are no more than 256 together
      pub kind-room : length (kinds_in low p (bins_at s own.bins own.ranges own.count)) + m + length (transition_kinds_from s p l.transitions 0 l.transition_count) ≤ 256
      unfolding kinds_of
      kind-room =
          let xs = kinds_in low p (bins_at s own.bins own.ranges own.count) in
          let ys = replicate {A = ℕ} m 0 in
          let zs = transition_kinds_from s p l.transitions 0 l.transition_count in
          omega (arith, ap length kind-parts, length-append (xs ++ ys) zs, length-append xs ys, length-replicate {A = ℕ} m 0, length-map (point_counters (table_of s) p) kind_of, few_here s ok p inside)

-- three writes in a row
pub all-written : (cur c d e : ℕ) (xs ys zs whole l l₁ l₂ l₃ : List ℕ) → whole ≡ (xs ++ ys) ++ zs → cur + length whole ≤ length l → c ≡ cur + length xs → l₁ ≡ put cur xs l → d ≡ c + length ys → l₂ ≡ put c ys l₁
    → e ≡ d + length zs → l₃ ≡ put d zs l₂ → (e ≡ cur + length whole) × (l₃ ≡ put cur whole l)
all-written cur c d e xs ys zs whole l l₁ l₂ l₃ q fit ec w₁ ed w₂ ee w₃ =
    let long = ap length q ∙ length-append (xs ++ ys) zs in
    let first = both-written cur c d xs ys (xs ++ ys) l l₁ l₂ refl (omega arith) ec w₁ ed w₂ in
    both-written cur d e (xs ++ ys) zs whole l l₂ l₃ q fit first.0 first.1 ee w₃

-- ---- where each point's counters begin

upto-length : (f : ℕ → List Counter) (n j : ℕ) → length (concat_of f (up_from j (suc n))) ≡ length (concat_of f (up_from j n)) + length (f (j + n))
unfolding concat_of up_from
upto-length f zero j = length-append (f j) [] ∙ (let z : length (f j) + 0 ≡ 0 + length (f j) = omega arith in z) ∙ ap (λ (k : ℕ). 0 + length (f k)) (let z : j ≡ j + 0 = omega arith in z)
upto-length f (suc n) j =
    length-append (f j) (concat_of f (up_from (suc j) (suc n)))
    ∙ omega (arith, upto-length f n (suc j), length-append (f j) (concat_of f (up_from (suc j) n)), ap (λ (k : ℕ). length (f k)) (let z : suc j + n ≡ j + suc n = omega arith in z))

module _ (t : Table) where
  pub start_zero : 0 ≡ point_start t 0
  unfolding point_start concat_of up_from
  start_zero = refl

  pub start_next : (p e : ℕ) → e ≡ point_start t p + length (point_counters t p) → e ≡ point_start t (p + 1)
  unfolding point_start
  start_next p e z =
      z ∙ sym (ap (λ (n : ℕ). length (concat_of (point_counters t) (up_from 0 n))) (add-one p) ∙ upto-length (point_counters t) p 0 ∙ ap (λ (q : ℕ). length (concat_of (point_counters t) (up_from 0 p)) + length (point_counters t q)) (let y : 0 + p ≡ p = omega arith in y))

  pub start_last : (n : ℕ) → n ≡ point_total t → point_start t n ≡ length (all_point_counters t)
  unfolding point_start all_point_counters
  start_last n e = ap (λ (m : ℕ). length (concat_of (point_counters t) (up_from 0 m))) e

-- the points from number i on: their counters' kinds, and where these begin
unfoldable pub kinds_from : Table → ℕ → ℕ → List ℕ
kinds_from t i n = kinds_of (concat_of (point_counters t) (up_from i n))

unfoldable pub starts_from : Table → ℕ → ℕ → List ℕ
starts_from t i n = map (point_start t) (up_from i n)

module _ (t : Table) (n : ℕ) where
  pub kinds_all : n ≡ point_total t → kinds_from t 0 (n - 0) ≡ kinds_of (all_point_counters t)
  unfolding kinds_from kinds_of
  kinds_all e = points-all kind_of t n e

  pub kinds_next : (i : ℕ) → i < n → kinds_from t i (n - i) ≡ kinds_of (point_counters t i) ++ kinds_from t (i + 1) (n - (i + 1))
  unfolding kinds_from kinds_of
  kinds_next i h = points_turn kind_of t n i h

  pub kinds_none : (i : ℕ) (c : ℕ) (l : List ℕ) → n ≤ i → put c (kinds_from t i (n - i)) l ≡ l
  unfolding kinds_from kinds_of
  kinds_none i c l h = ap (λ (z : List ℕ). put c z l) (points_end kind_of t n i h) ∙ put-nil c l

  pub starts_all : n ≡ point_total t → starts_from t 0 (suc n - 0) ≡ point_starts t
  unfolding starts_from point_starts
  starts_all e = ap (λ (m : ℕ). map (point_start t) (up_from 0 m)) (let z : suc n - 0 ≡ suc (point_total t) = omega arith in z)

  pub starts_next : (i c : ℕ) (l : List ℕ) → i ≤ n → i < length l → c ≡ point_start t i → put (i + 1) (starts_from t (i + 1) (suc n - (i + 1))) (set l i c) ≡ put i (starts_from t i (suc n - i)) l
  unfolding starts_from
  starts_next i c l h k e =
      put-cons i c (starts_from t (i + 1) (suc n - (i + 1))) l k
      ∙ ap (λ (z : List ℕ). put i z l) (ap (◌∷ starts_from t (i + 1) (suc n - (i + 1))) e ∙ sym (ap (map (point_start t)) (from_step i (suc n) (omega arith))))

  pub starts_last : (c : ℕ) (l : List ℕ) → n < length l → c ≡ point_start t n → set l n c ≡ put n (starts_from t n (suc n - n)) l
  unfolding starts_from
  starts_last c l k e = sym (ap (λ (z : List ℕ). put (n + 1) (map (point_start t) z) (set l n c)) (from_end (n + 1) (suc n) (omega arith)) ∙ put-nil (n + 1) (set l n c)) ∙ starts_next n c l (omega arith) k e

module _ (s : List ℕ) (ok : accepted s ≡ true) where
  pub start_low : (p : ℕ) → p ≤ point_total (table_of s) → point_start (table_of s) p ≤ 256 * p
  unfolding point_start
  start_low p h = counters_room s ok p 0 (omega arith)

  pub kinds_room : (n i c size : ℕ) → n ≡ point_total (table_of s) → i ≤ n → c ≤ 256 * i → 256 * point_total (table_of s) ≤ size → c + length (kinds_from (table_of s) i (n - i)) ≤ size
  unfolding kinds_from
  kinds_room n i c size e k h big =
      let cs = concat_of (point_counters (table_of s)) (up_from i (n - i)) in
      omega (arith, counters_room s ok (n - i) i (omega arith), few_points s ok, kinds-length cs)
