-- The lists as they are written one after another.
-- Assumes nothing.
use mathlib.Core.Path.{◌≡◌, refl, sym, ap, ap₂, ◌∙◌, subst}
use mathlib.Core.Bool.{true}
use mathlib.Core.List.{List, ◌∷◌}
use Prim.Native.Nat.{ℕ, ◌+◌, ◌≤◌, ◌<◌}
use native.Mathlib.Nat.{add-zero}
use native.Mathlib.Omega.{arith}
use lib.ListN.{length, get_or, take, drop, set, length-take, length-set}
use Rattle.model.specs.Table.{Table}
use Rattle.model.specs.Counters.{counters, point_counters}
use Rattle.model.specs.Format.{accepted, table_of}
use Rattle.model.specs.Register.{point_total, counter_total}
use Rattle.model.proofs.RawExact.{few_points}
use Rattle.arrays.specs.Put.{put}
use Rattle.arrays.specs.Flat.{kind_of, kinds_of, point_starts, cover_counts}
use Rattle.arrays.proofs.PutLaws.{part-put, put_in, put-cons, length-put}
use Rattle.arrays.proofs.FlatLaws.{counts_length, kinds-length}
use Rattle.sampling.specs.declared.Index.{Index}
use Rattle.sampling.specs.Index.{Indexed, Labelled}
use Rattle.sampling.proofs.Joins.{length-starts, largest-room}
use Rattle.places.specs.Places.{of_kind, places_from, PlaceRows, illegal_places}
use Rattle.places.proofs.PlaceLaws.{places-map, places-few}
use Rattle.lists.specs.Lists.{places_at, starts_at, illegals_at, counts_at, marks_at, lists_need}
use Rattle.lists.specs.Stages.{Listed}
use Rattle.lists.proofs.Fronts.{front_less, front_get, front_part, put_front}
use Rattle.lists.proofs.RowLaws.{rows_kept}

-- ---- the illegal counters, by the kinds of all

module _ (t : Table) (kinds : List ℕ) (l : Labelled t kinds) where
  pub kinds_room : counter_total t ≤ length kinds
  unfolding Labelled
  kinds_room = omega (arith, ap length l, length-take (counter_total t) kinds, kinds-length (counters t))

  pub illegal_kinds : (n : ℕ) → n ≡ counter_total t → places_from (of_kind 2) 0 (take n kinds) ≡ illegal_places t
  unfolding Labelled kinds_of illegal_places
  illegal_kinds n e = ap (λ (m : ℕ). places_from (of_kind 2) 0 (take m kinds)) e ∙ ap (places_from (of_kind 2) 0) l ∙ places-map (of_kind 2) kind_of 0 (counters t)

  pub illegal_count : (n : ℕ) → n ≡ counter_total t → (r : ℕ) → r ≡ length (places_from (of_kind 2) 0 (take n kinds)) → r ≡ length (illegal_places t)
  illegal_count n e r er = er ∙ ap length (illegal_kinds n e)

-- ---- list after list

module _ (t : Table) (few : (q : ℕ) → q < point_total t → length (point_counters t q) ≤ 256) where
  -- they end before the marks
  pub listed_kept : (l l' : List ℕ) → point_total t ≤ 16 → take (marks_at t) l' ≡ take (marks_at t) l → Listed t l → Listed t l'
  listed_kept l l' h same r =
      let n = point_total t in
      record {
        places = rows_kept t few (places_at n) (marks_at t) l l' (omega arith) same r.places;
        starts = front_part (marks_at t) l l' same (starts_at n) (n + 1) (omega arith) ∙ r.starts;
        illegals = front_get (marks_at t) l l' same (illegals_at n) (omega arith) ∙ r.illegals;
        illegal = front_part (marks_at t) l l' same (illegals_at n + 1) (length (illegal_places t)) (omega arith) ∙ r.illegal;
        counts = front_part (marks_at t) l l' same (counts_at t) n (omega arith) ∙ r.counts;
      }

  module _ (l₁ l₂ l₃ l₄ : List ℕ) (h : point_total t ≤ 16) (room : marks_at t ≤ length l₁)
      (e₂ : l₂ ≡ put (starts_at (point_total t)) (point_starts t) l₁)
      (e₃ : l₃ ≡ put (illegals_at (point_total t)) (length (illegal_places t) ∷ illegal_places t) l₂)
      (e₄ : l₄ ≡ put (counts_at t) (cover_counts t) l₃) where
    long₂ : length l₂ ≡ length l₁
    long₂ = ap length e₂ ∙ length-put (starts_at (point_total t)) (point_starts t) l₁ (omega (arith, length-starts t))

    long₃ : length l₃ ≡ length l₁
    long₃ = ap length e₃ ∙ length-put (illegals_at (point_total t)) (length (illegal_places t) ∷ illegal_places t) l₂ (omega (arith, long₂)) ∙ long₂

    front₂ : take (starts_at (point_total t)) l₂ ≡ take (starts_at (point_total t)) l₁
    front₂ = ap (take (starts_at (point_total t))) e₂ ∙ put_front (starts_at (point_total t)) (point_starts t) l₁ (omega arith)

    front₃ : take (illegals_at (point_total t)) l₃ ≡ take (illegals_at (point_total t)) l₂
    front₃ = ap (take (illegals_at (point_total t))) e₃ ∙ put_front (illegals_at (point_total t)) (length (illegal_places t) ∷ illegal_places t) l₂ (omega (arith, long₂))

    front₄ : take (counts_at t) l₄ ≡ take (counts_at t) l₃
    front₄ = ap (take (counts_at t)) e₄ ∙ put_front (counts_at t) (cover_counts t) l₃ (omega (arith, long₃))

    pub lists-front : take (starts_at (point_total t)) l₄ ≡ take (starts_at (point_total t)) l₁
    lists-front =
        front_less (counts_at t) l₃ l₄ front₄ (starts_at (point_total t)) (omega arith)
        ∙ front_less (illegals_at (point_total t)) l₂ l₃ front₃ (starts_at (point_total t)) (omega arith)
        ∙ front₂

    illegal₃ : take (length (illegal_places t)) (drop (illegals_at (point_total t) + 1) l₃) ≡ illegal_places t
    illegal₃ =
        let i = illegals_at (point_total t) in
        let v = length (illegal_places t) in
        ap (λ (x : List ℕ). take v (drop (i + 1) x)) (e₃ ∙ sym (put-cons i v (illegal_places t) l₂ (omega (arith, long₂))))
        ∙ part-put (i + 1) v (illegal_places t) (set l₂ i v) refl (omega (arith, long₂, length-set l₂ i v))

    pub listed : PlaceRows t (drop (places_at (point_total t)) l₁) → Listed t l₄
    listed rows =
        let n = point_total t in
        let i = illegals_at n in
        record {
          places = rows_kept t few (places_at n) (starts_at n) l₁ l₄ (omega arith) lists-front rows;
          starts =
              front_part (counts_at t) l₃ l₄ front₄ (starts_at n) (n + 1) (omega arith)
              ∙ front_part i l₂ l₃ front₃ (starts_at n) (n + 1) (omega arith)
              ∙ ap (λ (x : List ℕ). take (n + 1) (drop (starts_at n) x)) e₂
              ∙ part-put (starts_at n) (n + 1) (point_starts t) l₁ (length-starts t) (omega arith);
          illegals =
              front_get (counts_at t) l₃ l₄ front₄ i (omega arith)
              ∙ ap₂ (λ (x : List ℕ) (j : ℕ). get_or x j 0) e₃ (sym (add-zero i))
              ∙ put_in i (length (illegal_places t) ∷ illegal_places t) l₂ 0 0 (omega (arith, long₂)) (omega arith);
          illegal = front_part (counts_at t) l₃ l₄ front₄ (i + 1) (length (illegal_places t)) (omega arith) ∙ illegal₃;
          counts =
              ap (λ (x : List ℕ). take n (drop (counts_at t) x)) e₄
              ∙ part-put (counts_at t) n (cover_counts t) l₃ (counts_length t) (omega (arith, long₃));
        }

-- ---- an accepted table

-- how much there is of each
pub record Sizes (s kinds : List ℕ) : Type 0 where
  pub points : point_total (table_of s) ≤ 16
  pub counters : counter_total (table_of s) ≤ 12416
  pub room : counter_total (table_of s) ≤ length kinds
  pub illegals : length (illegal_places (table_of s)) ≤ 12416

pub sizes : (s : List ℕ) → accepted s ≡ true → (kinds : List ℕ) → Labelled (table_of s) kinds → Sizes s kinds
unfolding illegal_places
sizes s ok kinds l =
    let all = (largest-room s ok).1 in
    record { points = few_points s ok; counters = all; room = kinds_room (table_of s) kinds l; illegals = omega (arith, all, places-few (λ c. of_kind 2 (kind_of c)) 0 (counters (table_of s))) }

-- as the index has them
module _ (t : Table) (few : (q : ℕ) → q < point_total t → length (point_counters t q) ≤ 256) (kinds : List ℕ) (lb : Labelled t kinds) (h : point_total t ≤ 16) (x : Index) (ix : Indexed t x) where
  pub lists_made : (c : ℕ) → c ≡ length (illegal_places t) → (l₁ l₂ l₃ l₄ : List ℕ) → lists_need t ≤ length l₁
      → l₂ ≡ put (starts_at x.points) (take (x.points + 1) x.starts) l₁
      → l₃ ≡ put (illegals_at x.points) (length (places_from (of_kind 2) 0 (take x.counters kinds)) ∷ places_from (of_kind 2) 0 (take x.counters kinds)) l₂
      → l₄ ≡ put (starts_at x.points + 18 + c) (take x.points x.counts) l₃
      → {rows : List ℕ} → drop (places_at x.points) l₁ ≡ rows → PlaceRows t rows
      → Listed t l₄ × (take (places_at (point_total t)) l₄ ≡ take (places_at (point_total t)) l₁)
  lists_made c ec l₁ l₂ l₃ l₄ room e₂ e₃ e₄ er rows =
      let n = point_total t in
      let f₂ = e₂ ∙ ap (λ (m : ℕ). put (starts_at m) (take (m + 1) x.starts) l₁) ix.points ∙ ap (λ (y : List ℕ). put (starts_at n) y l₁) ix.starts in
      let f₃ = e₃ ∙ ap₂ (λ (m : ℕ) (y : List ℕ). put (illegals_at m) (length y ∷ y) l₂) ix.points (illegal_kinds t kinds lb x.counters ix.counters) in
      let z : starts_at x.points + 18 + c ≡ counts_at t = omega (arith, ec, ix.points) in
      let f₄ = e₄ ∙ ap₂ (λ (a m : ℕ). put a (take m x.counts) l₃) z ix.points ∙ ap (λ (y : List ℕ). put (counts_at t) y l₃) ix.counts in
      let g = ap (λ (m : ℕ). drop (places_at m) l₁) (sym ix.points) ∙ er in
      let front = lists-front t few l₁ l₂ l₃ l₄ h (omega arith) f₂ f₃ f₄ in
      (listed t few l₁ l₂ l₃ l₄ h (omega arith) f₂ f₃ f₄ (subst (PlaceRows t) (sym g) rows), front_less (starts_at n) l₁ l₄ front (places_at n) (omega arith))
