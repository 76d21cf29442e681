-- The items of a point's counters, and where these begin.
-- Assumes nothing.
use mathlib.Core.Path.{◌≡◌, refl, sym, ap, ◌∙◌}
use mathlib.Core.Bool.{true}
use mathlib.Core.List.{List, ◌++◌}
use Prim.Native.Nat.{ℕ, suc, ◌+◌, ◌-◌, ◌*◌, ◌≤◌, ◌<◌}
use native.Mathlib.Omega.{arith}
use lib.ListN.{length, get_or, take, replicate, length-map}
use lib.Seq.{get_or-take}
use Rattle.model.specs.Lists.{up_from, concat_of}
use Rattle.model.specs.Table.{Table}
use Rattle.model.specs.Counters.{Counter, value_bin, default_bin, illegal_bin, transition, illegal_transition, cross_bin, illegal_cross, product, value_counters, auto_counters, transition_counters, point_counters}
use Rattle.model.specs.Figures.{item_of}
use Rattle.model.specs.Format.{accepted, table_of}
use Rattle.model.specs.Register.{point_total}
use Rattle.model.proofs.Readers.{all_append, all_map}
use Rattle.model.proofs.RawExact.{few_points}
use Rattle.model.proofs.Lists.{get_d-row, map_one}
use Rattle.arrays.specs.Put.{put}
use Rattle.arrays.specs.Flat.{items_of, all_point_counters, point_start, point_starts}
use Rattle.arrays.proofs.PutLaws.{put-nil}
use Rattle.points.proofs.Counted.{ValueOf, TransitionOf, all_values, all_transitions}
use Rattle.points.proofs.AllLaws.{points_turn, points_end, points-all, counters_room}
use Rattle.points.proofs.KindExact.{start_next}

module _ (t : Table) (p : ℕ) where
  value_item : (c : Counter) → ValueOf t p c → item_of t c ≡ p
  unfolding item_of
  value_item (value_bin c) e = e
  value_item (default_bin b) e = e
  value_item (illegal_bin b) e = e
  value_item (transition b) e = absurd e
  value_item (illegal_transition b) e = absurd e
  value_item (cross_bin c i) e = absurd e
  value_item (illegal_cross c i) e = absurd e
  value_item (product c cs) e = absurd e

  transition_item : (c : Counter) → TransitionOf t p c → item_of t c ≡ p
  unfolding item_of
  transition_item (value_bin c) e = absurd e
  transition_item (default_bin b) e = absurd e
  transition_item (illegal_bin b) e = absurd e
  transition_item (transition b) e = e
  transition_item (illegal_transition b) e = e
  transition_item (cross_bin c i) e = absurd e
  transition_item (illegal_cross c i) e = absurd e
  transition_item (product c cs) e = absurd e

  -- every counter of the point has it as its item
  pub point_items : items_of t (point_counters t p) ≡ replicate (length (point_counters t p)) p
  unfolding items_of point_counters
  point_items =
      let mine = value_counters t p 0 t.value_bins ++ auto_counters t p in
      let others = transition_counters p 0 t.transition_bins in
      map_one (λ c. item_of t c ≡ p) (item_of t) p (λ c e. e) (mine ++ others)
      (all_append (λ c. item_of t c ≡ p) mine others
      (all_map (ValueOf t p) (λ c. item_of t c ≡ p) value_item mine (all_values t p))
      (all_map (TransitionOf t p) (λ c. item_of t c ≡ p) transition_item others (all_transitions t p)))

-- where a point's counters begin, and end
module _ (t : Table) (starts : List ℕ) (e : take (point_total t + 1) starts ≡ point_starts t) where
  pub start_read : (i : ℕ) → i ≤ point_total t → get_or starts i 0 ≡ point_start t i
  unfolding point_starts
  start_read i h =
      sym (get_or-take (point_total t + 1) starts i 0 (omega arith)) ∙ ap (λ (x : List ℕ). get_or x i 0) e ∙ get_d-row (point_start t) 0 (suc (point_total t)) i 0 (omega arith)
      ∙ ap (point_start t) (let z : 0 + i ≡ i = omega arith in z)

  pub end_read : (i : ℕ) → i < point_total t → get_or starts (i + 1) 0 ≡ point_start t i + length (point_counters t i)
  end_read i h = start_read (i + 1) (omega arith) ∙ sym (start_next t i (point_start t i + length (point_counters t i)) refl)

-- the points from number i on
unfoldable pub items_from : Table → ℕ → ℕ → List ℕ
items_from t i n = items_of t (concat_of (point_counters t) (up_from i n))

module _ (t : Table) (n : ℕ) where
  pub items_all : n ≡ point_total t → items_from t 0 (n - 0) ≡ items_of t (all_point_counters t)
  unfolding items_from items_of
  items_all e = points-all (item_of t) t n e

  pub items_next : (i m : ℕ) → i < n → m ≡ length (point_counters t i) → items_from t i (n - i) ≡ replicate m i ++ items_from t (i + 1) (n - (i + 1))
  items_next i m h e = items-turn i h ∙ ap (◌++ items_from t (i + 1) (n - (i + 1))) (point_items t i ∙ ap (λ (k : ℕ). replicate k i) (sym e))
    where
      items-turn : (i : ℕ) → i < n → items_from t i (n - i) ≡ items_of t (point_counters t i) ++ items_from t (i + 1) (n - (i + 1))
      items-turn i h = unfold items_from items_of in (points_turn (item_of t) t n i h)

  pub items_none : (i c : ℕ) (l : List ℕ) → n ≤ i → put c (items_from t i (n - i)) l ≡ l
  unfolding items_from items_of
  items_none i c l h = ap (λ (z : List ℕ). put c z l) (points_end (item_of t) t n i h) ∙ put-nil c l

module _ (s : List ℕ) (ok : accepted s ≡ true) where
  pub items_room : (n i c size : ℕ) → n ≡ point_total (table_of s) → i ≤ n → c ≤ 256 * i → 256 * point_total (table_of s) ≤ size → c + length (items_from (table_of s) i (n - i)) ≤ size
  unfolding items_from items_of
  items_room n i c size e k h big =
      let cs = concat_of (point_counters (table_of s)) (up_from i (n - i)) in
      omega (arith, counters_room s ok (n - i) i (omega arith), few_points s ok, length-map cs (item_of (table_of s)))
