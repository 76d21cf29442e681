-- The places of all counters: of the points, then of the crosses.
-- Assumes nothing.
use mathlib.Core.Path.{◌≡◌, refl, sym, ap, ap₂, ◌∙◌, subst}
use mathlib.Core.Bool.{true}
use mathlib.Core.List.{List, ◌++◌}
use Prim.Native.Nat.{ℕ, ◌+◌, ◌-◌, ◌*◌, ◌≤◌}
use native.Mathlib.Nat.{zero-add}
use native.Mathlib.Omega.{arith}
use borrow.Rule.Slice.PartMut.{put_mid}
use lib.ListN.{length, get_or, take, drop, length-append}
use lib.Seq.{drop-drop, get_or-drop}
use Rattle.model.specs.Table.{Table}
use Rattle.model.specs.Counters.{counters}
use Rattle.model.specs.Sampling.{Stretches, hits}
use Rattle.model.specs.Format.{accepted, table_of}
use Rattle.model.specs.Register.{point_total, counter_total}
use Rattle.model.proofs.Sections.{acceptance, accepted_decodes}
use Rattle.model.proofs.MeasureBounds.{counters_few}
use Rattle.arrays.specs.Put.{put}
use Rattle.arrays.specs.Flat.{all_point_counters, all_cross_counters, point_start, point_starts, cover_counts}
use Rattle.arrays.proofs.PutLaws.{length-put, put-put}
use Rattle.places.specs.Places.{places_from, hit_places, illegal_places, PlaceRows}
use Rattle.places.proofs.PlaceLaws.{places-append, places-few}
use Rattle.points.proofs.ItemLaws.{start_read}
use Rattle.crosses.specs.Marked.{Marked}
use Rattle.hits.specs.Places.{all_places}
use Rattle.hits.proofs.RowLaws.{tail_back}
use Rattle.lists.specs.Lists.{places_at, starts_at, illegals_at, counts_at, marks_at, lists_need, Planned}
use Rattle.lists.specs.Stages.{Listed}
use Rattle.lists.proofs.Fronts.{lent_all, lent_length}

pub all_counters : (t : Table) → counters t ≡ all_point_counters t ++ all_cross_counters t
unfolding counters all_point_counters all_cross_counters
all_counters t = refl

pub hits-parts : (t : Table) (s : List ℕ) (m : Stretches) → hit_places t s m ≡ places_from (hits t s m) 0 (all_point_counters t) ++ places_from (hits t s m) (length (all_point_counters t)) (all_cross_counters t)
unfolding hit_places
hits-parts t s m =
    ap (places_from (hits t s m) 0) (all_counters t)
    ∙ places-append (hits t s m) 0 (all_point_counters t) (all_cross_counters t)
    ∙ ap (λ (n : ℕ). places_from (hits t s m) 0 (all_point_counters t) ++ places_from (hits t s m) n (all_cross_counters t)) (zero-add (length (all_point_counters t)))

-- ---- parts of the lists that are lent

pub planned-listed : (t : Table) (plan l : List ℕ) → Planned t plan l → Listed t l
planned-listed t plan l x = record { places = x.places; starts = x.starts; illegals = x.illegals; illegal = x.illegal; counts = x.counts }

module _ (t : Table) (l : List ℕ) (ok : Listed t l) (room : lists_need t ≤ length l) (n : ℕ) (en : n ≡ point_total t) where
  pub counts_at_lem : (c : ℕ) → c ≡ get_or l (81 + 514 * n) 0 → 81 + 514 * n + 1 + c ≡ counts_at t
  counts_at_lem c ec =
      let e : 81 + 514 * n ≡ illegals_at (point_total t) = omega arith in
      let z : c ≡ length (illegal_places t) = ec ∙ ap (λ (i : ℕ). get_or l i 0) e ∙ ok.illegals in
      omega arith

  -- from the counts on
  pub counts_part : (c : ℕ) → c ≡ counts_at t → take (point_total t) (take (length l - c) (drop c l)) ≡ cover_counts t
  counts_part c e = ap (take (point_total t)) (lent_all c l (omega arith) ∙ ap (λ (i : ℕ). drop i l) e) ∙ ok.counts

  pub marks_part : (c : ℕ) → c ≡ counts_at t → Marked t (drop (marks_at t) l) → Marked t (drop 16 (take (length l - c) (drop c l)))
  marks_part c e m = subst (Marked t) (sym (ap (drop 16) (lent_all c l (omega arith) ∙ ap (λ (i : ℕ). drop i l) e) ∙ drop-drop 16 (counts_at t) l)) m

  -- from the places on
  part_is : (a : ℕ) → a ≡ 64 + 256 * n → take (length l - a) (drop a l) ≡ drop (places_at (point_total t)) l
  part_is a e = lent_all a l (omega arith) ∙ ap (λ (i : ℕ). drop i l) (let z : a ≡ places_at (point_total t) = omega arith in z)

  pub rows_part : (a : ℕ) → a ≡ 64 + 256 * n → PlaceRows t (take (length l - a) (drop a l))
  rows_part a e = subst (PlaceRows t) (sym (part_is a e)) ok.places

  pub starts_part : (a : ℕ) → a ≡ 64 + 256 * n → take (point_total t + 1) (drop (258 * point_total t) (take (length l - a) (drop a l))) ≡ point_starts t
  starts_part a e = ap (λ (x : List ℕ). take (point_total t + 1) (drop (258 * point_total t) x)) (part_is a e) ∙ ap (take (point_total t + 1)) (drop-drop (258 * point_total t) (places_at (point_total t)) l) ∙ ok.starts

  pub rows_room : (a : ℕ) → a ≡ 64 + 256 * n → 258 * point_total t + 17 ≤ length (take (length l - a) (drop a l))
  rows_room a e = omega (arith, lent_length a l (omega arith))

  -- the first counter of a cross
  pub base_is : (b : ℕ) → b ≡ get_or l (64 + 515 * n) 0 → b ≡ length (all_point_counters t)
  unfolding all_point_counters point_start
  base_is b e =
      let z : 64 + 515 * n ≡ starts_at (point_total t) + point_total t = omega arith in
      e ∙ ap (λ (i : ℕ). get_or l i 0) z ∙ sym (get_or-drop (starts_at (point_total t)) l (point_total t) 0) ∙ start_read t (drop (starts_at (point_total t)) l) ok.starts (point_total t) (omega arith)

-- ---- the points' hits, and then the crosses'

pub counters-many : (t : Table) → counter_total t ≡ length (all_point_counters t) + length (all_cross_counters t)
counters-many t = ap length (all_counters t) ∙ length-append (all_point_counters t) (all_cross_counters t)

module _ (t : Table) (s : List ℕ) (m : Stretches) (h₀ h₁ h₂ : List ℕ) (k c base : ℕ) (room : counter_total t + 256 ≤ length h₀)
    (ek : k ≡ length (all_places t s m)) (e₁ : h₁ ≡ put 0 (all_places t s m) h₀) (eb : base ≡ length (all_point_counters t)) where
  points_few : k ≤ length (all_point_counters t)
  unfolding all_places
  points_few = omega (arith, places-few (hits t s m) 0 (all_point_counters t))

  long : length h₁ ≡ length h₀
  long = ap length e₁ ∙ length-put 0 (all_places t s m) h₀ (omega (arith, points_few, counters-many t))

  pub points_in : k ≤ length h₁
  points_in = omega (arith, long, points_few, counters-many t)

  pub crosses_room : length (all_cross_counters t) ≤ length (take (length h₁ - k) (drop k h₁))
  crosses_room = omega (arith, lent_length k h₁ points_in, long, points_few, counters-many t)

  pub hits_all : c ≡ length (places_from (hits t s m) base (all_cross_counters t)) → length h₂ ≡ length (take (length h₁ - k) (drop k h₁)) → h₂ ≡ put 0 (places_from (hits t s m) base (all_cross_counters t)) (take (length h₁ - k) (drop k h₁))
      → (k + c ≡ length (hit_places t s m)) × (put_mid k (length h₁ - k) h₁ h₂ ≡ put 0 (hit_places t s m) h₀)
  unfolding all_places
  hits_all ec kept e₂ =
      let xs = places_from (hits t s m) 0 (all_point_counters t) in
      let ys = places_from (hits t s m) base (all_cross_counters t) in
      let whole : hit_places t s m ≡ xs ++ ys = hits-parts t s m ∙ ap (λ (b : ℕ). xs ++ places_from (hits t s m) b (all_cross_counters t)) (sym eb) in
      let few = places-few (hits t s m) base (all_cross_counters t) in (
        omega (arith, ap length whole ∙ length-append xs ys),
        tail_back k ys h₁ h₂ (omega (arith, long, points_few, counters-many t)) kept e₂
            ∙ ap₂ (λ (i : ℕ) (z : List ℕ). put i ys z) (ek ∙ sym (zero-add (length xs))) e₁
            ∙ put-put 0 xs ys h₀ (omega (arith, points_few, counters-many t))
            ∙ ap (λ (z : List ℕ). put 0 z h₀) (sym whole),
      )

  pub all_in : c ≡ length (places_from (hits t s m) base (all_cross_counters t)) → k + c ≤ counter_total t
  all_in ec = omega (arith, points_few, places-few (hits t s m) base (all_cross_counters t), counters-many t)

pub counters-small : (b : List ℕ) → accepted b ≡ true → counter_total (table_of b) ≤ 12416
counters-small b ok = let a = acceptance b (table_of b) (accepted_decodes b ok) in counters_few b (table_of b) (length b) a.layout a.limited
