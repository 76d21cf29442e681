-- The plan of a point in an array: read back, kept by later writes, and asked.
-- Assumes nothing.
use mathlib.Core.Path.{◌≡◌, refl, sym, ap, ap₂, ◌∙◌, subst}
use mathlib.Core.Bool.{Bool, true, false, ◌&&◌, cond}
use mathlib.Core.List.{List, ◌∷◌, map}
use Prim.Native.Nat.{ℕ, zero, suc, ◌+◌, ◌-◌, ◌*◌, ◌/◌, ◌^◌, ◌≤◌, ◌<◌}
use native.Mathlib.Omega.{arith}
use lib.Dec.{leb, ltb}
use lib.ListN.{length, get_or, take, drop, length-take, length-drop, length-map}
use lib.Seq.{get_or-drop, get_or-take}
use borrow.Author.Tests.{leb-true, le-leb, ltb-true, ltb-false}
use Rattle.model.specs.Lists.{as_bit}
use Rattle.model.specs.Table.{Point, Table}
use Rattle.model.specs.Values.{lowest, highest, in_type}
use Rattle.model.specs.Counters.{no_cover_bin, point_counters, point_at, point_of, meets}
use Rattle.model.specs.Format.{point_record, accepted, table_of, byte, u16}
use Rattle.model.specs.Register.{point_total}
use Rattle.model.specs.Raw.{rows, count_place, record_count, records_place}
use Rattle.model.proofs.Booleans.{and_left, and_right}
use Rattle.model.proofs.Readers.{All}
use Rattle.model.proofs.Lists.{map-all, get_d-row, get_d_map}
use Rattle.model.proofs.Limits.{covers_fewer}
use Rattle.model.proofs.RawExact.{many_points}
use Rattle.model.proofs.Sections.{accepted_decodes}
use Rattle.model.proofs.Selects.{own_covers}
use Rattle.ranges.specs.Types.{Wide, power_of}
use Rattle.arrays.specs.Put.{put}
use Rattle.arrays.proofs.PutLaws.{put_in, put-before}
use Rattle.arrays.specs.Flat.{covers, cover_counts}
use Rattle.values.proofs.PointExact.{point_raw, few_counters}
use Rattle.values.proofs.Ready.{wide}
use Rattle.meets.specs.Pieces.{piece_by, pieces_at, PiecesOf, met_bit, met_bits, has_bit, has_bits}
use Rattle.meets.specs.Met.{PartBelow, Asked}
use Rattle.meets.specs.Plan.{segment, PointPlan, ValuesPlan}
use Rattle.meets.proofs.MetLaws.{has-meets}

-- ---- pieces in an array

-- they are what the words say
pub pieces-same : (n : ℕ) (u w : List ℕ) (x y : ℕ) → ((i : ℕ) → i < 2 * n → get_or u (x + i) 0 ≡ get_or w (y + i) 0) → pieces_at u x n ≡ pieces_at w y n
unfolding rows
pieces-same zero u w x y h = refl
pieces-same (suc n) u w x y h =
    ap₂ ◌∷◌ (ap₂ piece_by at (h 1 (omega arith)))
    (pieces-same n u w (x + 2) (y + 2) λ i k.
    let p : x + 2 + i ≡ x + (2 + i) = omega arith in
    let q : y + (2 + i) ≡ y + 2 + i = omega arith in
    ap (λ (j : ℕ). get_or u j 0) p ∙ h (2 + i) (omega arith) ∙ ap (λ (j : ℕ). get_or w j 0) q)
  where
    at : get_or u x 0 ≡ get_or w y 0
    at =
        let p : x ≡ x + 0 = omega arith in
        let q : y + 0 ≡ y = omega arith in
        ap (λ (j : ℕ). get_or u j 0) p ∙ h 0 (omega arith) ∙ ap (λ (j : ℕ). get_or w j 0) q

-- those of a part of the array
pub part-pieces : (w : List ℕ) (mid to : ℕ) → mid ≤ to → to ≤ length w → pieces_at (segment w mid to) 0 (length (segment w mid to) / 2) ≡ pieces_at w mid ((to - mid) / 2)
part-pieces w mid to h k =
    let long : length (take (to - mid) (drop mid w)) ≡ to - mid = simp (length-take, length-drop) (omega arith) in
    ap (λ (n : ℕ). pieces_at (segment w mid to) 0 (n / 2)) long
    ∙ pieces-same ((to - mid) / 2) (segment w mid to) w 0 mid λ i j.
    let z : 0 + i ≡ i = omega arith in
    let m : i < to - mid = omega arith in
    ap (λ (x : ℕ). get_or (segment w mid to) x 0) z ∙ rw (get_or-take, get_or-drop)

-- ---- a point's type

module _ (s : List ℕ) (ok : accepted s ≡ true) (p : ℕ) (inside : p < point_total (table_of s)) where
  pub point_is : point_at (table_of s) p ≡ point_record s (2 + 11 * p)
  unfolding records_place count_place
  point_is = point_raw s (table_of s) (accepted_decodes s ok) p inside

  pub wide_at : Wide s (2 + 11 * p)
  unfolding records_place count_place
  wide_at = wide s (table_of s) (accepted_decodes s ok) p inside

pub high_is : (s : List ℕ) (point low width power : ℕ) → low ≡ lowest (point_record s point) → width ≡ byte s point → power ≡ power_of width → low + power - 1 ≡ highest (point_record s point)
unfolding power_of
high_is s point low width power el ew ea = ap₂ (λ (x y : ℕ). x + y - 1) el (ea ∙ ap power_of ew)

-- ---- asked

-- what `put_met` asks of a planned point
pub plan-parts : (t : Table) (p : ℕ) (w : List ℕ) (from mid cuts to parts : ℕ) → PointPlan t p w from mid cuts to → parts ≡ length (covers t p) → All (PartBelow parts) (pieces_at (segment w cuts to) 0 (length (segment w cuts to) / 2))
plan-parts t p w from mid cuts to parts o e = subst (All (PartBelow parts)) (sym (part-pieces w cuts to o.order₂ o.order₃)) (subst (λ (m : ℕ). All (PartBelow m) (pieces_at w cuts ((to - cuts) / 2))) (sym e) o.pieces.parts)

pub plan_asked : (t : Table) (p : ℕ) (w : List ℕ) (from mid cuts to low lo hi parts : ℕ) → PointPlan t p w from mid cuts to → low ≡ lowest (point_at t p) → in_type (point_at t p) lo ≡ true → in_type (point_at t p) hi ≡ true
    → parts ≡ length (covers t p) → Asked t p (segment w mid cuts) (segment w cuts to) low lo hi parts
plan_asked t p w from mid cuts to low lo hi parts o el elo ehi ep =
    record {
      free = o.spans;
      pieces = subst (PiecesOf t p) (sym (part-pieces w cuts to o.order₂ o.order₃)) o.pieces;
      lowest = el;
      from = elo;
      to = ehi;
      count = ep;
    }

pub in_type_lem : (t : Table) (p v : ℕ) → in_type (point_at t p) v ≡ true → (lowest (point_at t p) ≤ v) × (v ≤ highest (point_at t p))
in_type_lem t p v e = (leb-true (lowest (point_at t p)) v (and_left (leb (lowest (point_at t p)) v) (leb v (highest (point_at t p))) e), leb-true v (highest (point_at t p)) (and_right (leb (lowest (point_at t p)) v) (leb v (highest (point_at t p))) e))

-- the whole type: whether a part has a value at all
pub has_bits_lem : (t : Table) (p : ℕ) → met_bits t p (lowest (point_at t p)) (highest (point_at t p)) ≡ has_bits t p
unfolding met_bits has_bits covers
has_bits_lem t p =
    map-all (λ c. point_of t c ≡ p) (met_bit t (lowest (point_at t p)) (highest (point_at t p))) (has_bit t)
    (λ c e. sym (ap as_bit (has-meets t c ∙ ap (λ (x : ℕ). meets t c (lowest (point_at t x)) (highest (point_at t x))) e))) (covers t p) (own_covers t p)

pub type-ends : (t : Table) (p low high : ℕ) → low ≡ lowest (point_at t p) → high ≡ highest (point_at t p) → low ≤ high → (in_type (point_at t p) low ≡ true) × (in_type (point_at t p) high ≡ true)
type-ends t p low high el eh h = (
  ap₂ ◌&&◌ (le-leb (lowest (point_at t p)) low (omega arith)) (le-leb low (highest (point_at t p)) (omega arith)),
  ap₂ ◌&&◌ (le-leb (lowest (point_at t p)) high (omega arith)) (le-leb high (highest (point_at t p)) (omega arith)),
)

-- how many parts a point has, by the counts
pub count_at : (t : Table) (counts : List ℕ) (p : ℕ) → p < point_total t → take (point_total t) counts ≡ cover_counts t → get_or counts p 0 ≡ length (covers t p)
unfolding cover_counts
count_at t counts p h e =
    sym (get_or-take (point_total t) counts p 0 h) ∙ ap (λ (l : List ℕ). get_or l p 0) e
    ∙ get_d-row (λ q. length (covers t q)) 0 (point_total t) p 0 h ∙ ap (λ (q : ℕ). length (covers t q)) (let z : 0 + p ≡ p = omega arith in z)

pub low-bound : (q : Point) → lowest q ≤ 2147483648
low-bound q = go q.signed
  where
    go : (b : Bool) → cond b (2147483648 - 2 ^ (q.width - 1)) 2147483648 ≤ 2147483648
    go true = omega arith
    go false = omega arith

-- ---- all points

pub plan-at : (t : Table) (w bounds : List ℕ) (p from mid cuts to : ℕ) → ValuesPlan t w bounds → p < point_total t → from ≡ get_or bounds (3 * p) 0 → mid ≡ get_or bounds (3 * p + 1) 0 → cuts ≡ get_or bounds (3 * p + 2) 0 → to ≡ get_or bounds (3 * p + 3) 0
    → PointPlan t p w from mid cuts to
unfolding ValuesPlan
plan-at t w bounds p from mid cuts to o h ef em er et = rw (ef, em, er, et) (o p h)

module _ (s : List ℕ) (ok : accepted s ≡ true) where
  pub points_read : (n : ℕ) → n ≡ u16 s 0 → n ≡ point_total (table_of s)
  unfolding record_count count_place
  points_read n en = en ∙ sym (many_points s ok)

  pub few_covers : (p : ℕ) → p < point_total (table_of s) → length (covers (table_of s) p) ≤ 256
  unfolding covers
  few_covers p inside = omega (arith, covers_fewer (point_counters (table_of s) p), few_counters s (table_of s) (accepted_decodes s ok) p inside)

-- the bytes of the first n points' parts stand in the array, those of point p from 256 p on
abbrev pub Filled : Table → ℕ → List ℕ → Type 0
Filled t n a = (p k : ℕ) → p < n → k < length (covers t p) → get_or a (256 * p + k) 0 ≡ has_bit t (get_or (covers t p) k no_cover_bin)

pub filled-turn : (t : Table) (n : ℕ) → ((p : ℕ) → p < n + 1 → length (covers t p) ≤ 256) → (a b : List ℕ) → 256 * n + 256 ≤ length a → b ≡ put (256 * n) (has_bits t n) a → Filled t n a → Filled t (n + 1) b
unfolding has_bits
filled-turn t n few a b room e done p k h i = go (ltb p n) refl
  where
    go : (c : Bool) → ltb p n ≡ c → get_or b (256 * p + k) 0 ≡ has_bit t (get_or (covers t p) k no_cover_bin)
    go true y =
        ap (λ (l : List ℕ). get_or l (256 * p + k) 0) e
        ∙ put-before (256 * n) (map (has_bit t) (covers t n)) a (256 * p + k) 0 (omega arith) (omega (arith, few p h, ltb-true p n y)) ∙ done p k (ltb-true p n y) i
    go false y =
        let same : p ≡ n = omega (arith, ltb-false p n y) in
        let inside : k < length (covers t n) = rw same at i in
        let long = length-map (covers t n) (has_bit t) in
        ap₂ (λ (l : List ℕ) (q : ℕ). get_or l (256 * q + k) 0) e same
        ∙ put_in (256 * n) (map (has_bit t) (covers t n)) a k 0 (omega arith) (omega arith)
        ∙ get_d_map (has_bit t) (covers t n) k no_cover_bin 0 inside
        ∙ ap (λ (q : ℕ). has_bit t (get_or (covers t q) k no_cover_bin)) (sym same)
