-- The cover bins of a point that a sample hits: none where the reading is no value or an excluded one, else the new parts of the point's rows.
-- Assumes nothing.
use mathlib.Core.Path.{◌≡◌, refl, sym, ap, ap₂, ◌∙◌, subst}
use mathlib.Core.Bool.{Bool, true, false, not, ◌&&◌, cond}
use mathlib.Core.List.{List, [], ◌∷◌}
use Prim.Native.Nat.{ℕ, suc, ◌+◌, ◌-◌, ◌^◌, ◌≤◌, ◌<◌}
use native.Mathlib.Omega.{arith}
use lib.Dec.{leb, ltb, eqb}
use lib.ListN.{length, get_or, set}
use borrow.Author.Tests.{le-leb, ltb-true}
use Rattle.model.specs.Lists.{one_of}
use Rattle.model.specs.Table.{Table}
use Rattle.model.specs.Values.{lowest, highest, read_value, in_type}
use Rattle.model.specs.Counters.{CoverBin, no_cover_bin, point_at, point_of, point_counters, excluded_value, distributed, holds}
use Rattle.model.specs.Sampling.{Reading, skipped, unknown, known, value_word, unknown_word, guard_true, reading, is_in, cover_guard, cover_hit}
use Rattle.model.specs.Format.{accepted, table_of}
use Rattle.model.specs.Raw.{records_place}
use Rattle.model.specs.Register.{point_total, in_widths}
use Rattle.model.proofs.Readers.{All, all_map}
use Rattle.model.proofs.Booleans.{and_left}
use Rattle.model.proofs.Limits.{all_from}
use Rattle.model.proofs.Sections.{accepted_decodes}
use Rattle.model.proofs.WellFormed.{WellFormed, well-formed}
use Rattle.model.proofs.TableExact.{point_at_lem, read_low, read_high}
use Rattle.model.proofs.Limits.{covers_fewer}
use Rattle.model.proofs.Selects.{own_covers}
use Rattle.arrays.specs.Put.{put}
use Rattle.arrays.specs.Flat.{covers, reading_code, reading_from}
use Rattle.arrays.specs.declared.reading.Reading as code
use Rattle.arrays.specs.declared.reading.Reading.TheVariants.{Known}
use Rattle.arrays.proofs.FlatLaws.{from_code}
use Rattle.arrays.proofs.PutLaws.{put-nil, put-cons}
use Rattle.spans.specs.Spans.{held_by}
use Rattle.spans.specs.Point.{SpansOf}
use Rattle.parts.specs.Rows.{Row}
use Rattle.parts.specs.Words.{RowFits}
use Rattle.parts.specs.Point.{RowsOf}
use Rattle.values.proofs.PointExact.{few_counters}
use Rattle.values.proofs.Ready.{read-top}
use Rattle.places.specs.Places.{places_from, hit_parts}
use Rattle.places.proofs.PlaceLaws.{places-none, places-few, places-below, ascending-places, one_of-places, ascending-same}
use Rattle.found.specs.Found.{OriginsAt, guard_at, new_parts}
use Rattle.found.proofs.RowLaws.{parts_rise, parts_below}
use Rattle.found.proofs.PartLaws.{new_ascending, new_all, new_one}
use Rattle.found.proofs.GuardLaws.{all_of, guard_exact}

-- ---- readings

known_only : (a b : Bool) (x v : ℕ) → cond a (cond b (known x) unknown) skipped ≡ known v → v ≡ x
known_only true true x v e = let z : v ≡ x = cc in z
known_only true false x v e = absurd (let z : ◌≡◌ {A = ℕ} 0 1 = cc in omega arith)
known_only false b x v e = absurd (let z : ◌≡◌ {A = ℕ} 0 1 = cc in omega arith)

never : (x : Bool) → (x && false) ≡ false
never true = refl
never false = refl

same_tests : (d g : Bool) → (d && (true && g)) ≡ (g && (d && true))
same_tests true true = refl
same_tests true false = refl
same_tests false true = refl
same_tests false false = refl

module _ (s w : List ℕ) (ok : accepted s ≡ true) (widths : in_widths (table_of s) w ≡ true) (p : ℕ) (inside : p < point_total (table_of s)) where
  abbrev T : Table
  T = table_of s

  good : WellFormed (table_of s)
  good = well-formed s (table_of s) (accepted_decodes s ok)

  value_in : value_word w p < 2 ^ (point_at (table_of s) p).width
  unfolding in_widths
  value_in =
      ltb-true (value_word w p) (2 ^ (point_at T p).width)
      (and_left (ltb (value_word w p) (2 ^ (point_at T p).width)) (ltb (unknown_word w p) (2 ^ (point_at T p).width))
      (all_from (λ p. ltb (value_word w p) (2 ^ (point_at T p).width) && ltb (unknown_word w p) (2 ^ (point_at T p).width)) 0 (point_total T) widths p (omega arith) (omega arith)))

  in_type_lem : (v : ℕ) → reading (table_of s) w p ≡ known v → (lowest (point_at (table_of s) p) ≤ v) × (v ≤ highest (point_at (table_of s) p)) × (v < 8589934592)
  unfolding reading
  in_type_lem v e =
      let z = known_only (guard_true w (point_at T p).guard) (eqb (unknown_word w p) 0) (read_value (point_at T p) (value_word w p)) v e in
      (omega (arith, read_low T good p (value_word w p) value_in), omega (arith, read-top (point_at T p) (point_at_lem T good p) (value_word w p) value_in), omega (arith, read_high T good p (value_word w p) value_in))

  own : All (λ c. point_of (table_of s) c ≡ p) (covers (table_of s) p)
  unfolding covers
  own = own_covers (table_of s) p

  few_covers : length (covers (table_of s) p) ≤ 256
  unfolding covers
  few_covers = omega (arith, covers_fewer (point_counters T p), few_counters s T (accepted_decodes s ok) p inside)

  pub few_hits : length (hit_parts (table_of s) w p) ≤ 256
  unfolding hit_parts
  few_hits = omega (arith, few_covers, places-few (cover_hit T w) 0 (covers T p))

  no_hits : ((c : CoverBin) → point_of (table_of s) c ≡ p → cover_hit (table_of s) w c ≡ false) → hit_parts (table_of s) w p ≡ []
  unfolding hit_parts
  no_hits h = places-none (cover_hit T w) 0 (covers T p) (all_map (λ c. point_of T c ≡ p) (λ c. cover_hit T w c ≡ false) h (covers T p) own)

  hit_by : (c : CoverBin) → point_of (table_of s) c ≡ p → (v : ℕ) → reading (table_of s) w p ≡ known v
      → cover_hit (table_of s) w c ≡ (guard_true w (cover_guard (table_of s) c) && (distributed (table_of s) c v && not (excluded_value (table_of s) p v)))
  unfolding cover_hit holds
  hit_by c e v k =
      let g = guard_true w (cover_guard T c) in
      ap (λ (q : ℕ). g && is_in (holds T c) (reading T w q)) e ∙ ap (λ (r : Reading). g && is_in (holds T c) r) k ∙ ap (λ (q : ℕ). g && (distributed T c v && not (excluded_value T q v))) e

  module _ (x : code.Reading) (ec : x ≡ reading_code (reading (table_of s) w p)) where
    -- no value is read
    pub none_read : ((f : ℕ → Bool) → is_in f (reading_from x) ≡ false) → hit_parts (table_of s) w p ≡ []
    unfolding cover_hit
    none_read h =
        no_hits (λ c e.
        ap (λ (q : ℕ). guard_true w (cover_guard T c) && is_in (holds T c) (reading T w q)) e
        ∙ ap (guard_true w (cover_guard T c) &&◌) (ap (is_in (holds T c)) (sym (ap reading_from ec ∙ from_code (reading T w p))) ∙ h (holds T c))
        ∙ never (guard_true w (cover_guard T c)))

    module _ (v : ℕ) (ev : x ≡ Known v) (low : ℕ) (el : low ≡ lowest (point_at (table_of s) p)) where
      is_known : reading (table_of s) w p ≡ known v
      is_known = sym (ap reading_from (sym ev ∙ ec) ∙ from_code (reading T w p))

      pub known-low : v < 8589934592
      known-low = (in_type_lem v is_known).2

      pub low-under : low ≤ v
      low-under = omega (arith, (in_type_lem v is_known).0)

      module _ (ws : List ℕ) (spans : SpansOf (table_of s) p ws) (b : Bool) (eb : b ≡ held_by ws (v - low)) where
        excluded-is : excluded_value (table_of s) p v ≡ b
        excluded-is =
            let k = in_type_lem v is_known in
            let typed : in_type (point_at T p) v ≡ true = ap₂ ◌&&◌ (le-leb (lowest (point_at T p)) v k.0) (le-leb v (highest (point_at T p)) k.1) in
            sym (spans.exact v typed) ∙ ap (λ (x : ℕ). held_by ws (v - x)) (sym el) ∙ sym eb

        -- the value is excluded
        pub none_left : b ≡ true → hit_parts (table_of s) w p ≡ []
        none_left y =
            no_hits (λ c e.
            hit_by c e v is_known ∙ ap (λ (y : Bool). guard_true w (cover_guard T c) && (distributed T c v && not y)) (excluded-is ∙ y)
            ∙ ap (guard_true w (cover_guard T c) &&◌) (never (distributed T c v)) ∙ never (guard_true w (cover_guard T c)))

        module _ (no : b ≡ false) (rs : List Row) (of : RowsOf (table_of s) p rs (length (covers (table_of s) p))) (o : List ℕ) (at : OriginsAt (table_of s) p o) (bins : ℕ) (ebs : bins ≡ records_place s 1) where
          each : (k : ℕ) → k < length (covers (table_of s) p) → one_of k (new_parts (guard_at s w o bins) 0 v rs) ≡ one_of k (hit_parts (table_of s) w p)
          unfolding hit_parts
          each k i =
              let c = get_or (covers T p) k no_cover_bin in
              let z : 0 + k ≡ k = omega arith in
              new_one (guard_at s w o bins) v k 0 0 rs (parts_rise (point_at T p) (length (covers T p)) v 0 rs of.fits of.typed of.rises)
              ∙ ap₂ (λ (x y : Bool). x && (leb 0 k && y)) (of.rule k v i) (guard_exact s w ok p inside o at bins ebs k i)
              ∙ ap (λ (x : Bool). distributed T c v && (x && guard_true w (cover_guard T c))) (le-leb 0 k (omega arith))
              ∙ same_tests (distributed T c v) (guard_true w (cover_guard T c))
              ∙ ap (λ (y : Bool). guard_true w (cover_guard T c) && (distributed T c v && not y)) (sym (excluded-is ∙ no))
              ∙ sym (hit_by c (all_of (λ c. point_of T c ≡ p) no_cover_bin (covers T p) own k i) v is_known)
              ∙ sym (one_of-places (cover_hit T w) no_cover_bin 0 k (covers T p) i)
              ∙ ap (λ (x : ℕ). one_of x (places_from (cover_hit T w) 0 (covers T p))) z

          -- the parts of its rows
          pub parts-hit : new_parts (guard_at s w o bins) 0 v rs ≡ hit_parts (table_of s) w p
          unfolding hit_parts
          parts-hit =
              let m = length (covers T p) in
              let z : 0 + m ≡ m = omega arith in
              ascending-same 0 m (new_parts (guard_at s w o bins) 0 v rs) (places_from (cover_hit T w) 0 (covers T p))
              (new_ascending (guard_at s w o bins) v 0 rs)
              (ascending-places (cover_hit T w) 0 (covers T p))
              (new_all (guard_at s w o bins) v (λ k. k < m) 0 rs (parts_below m v rs of.fits))
              (subst (λ (x : ℕ). All (λ k. k < x) (places_from (cover_hit T w) 0 (covers T p))) z (places-below (cover_hit T w) 0 (covers T p)))
              each

  pub rows_fit : (rs : List Row) → RowsOf (table_of s) p rs (length (covers (table_of s) p)) → All (RowFits 256) rs
  rows_fit rs of =
      all_map (RowFits (length (covers T p))) (RowFits 256) (λ r x. record { before = x.before; share = x.share; room = omega (arith, x.room, few_covers) }) rs of.fits

-- ---- written

pub nothing_hit : (h l : List ℕ) → h ≡ [] → (0 ≡ length h) × (0 ≤ 256) × (l ≡ put 1 h l)
nothing_hit h l e = (sym (ap length e), omega arith, sym (ap (λ (x : List ℕ). put 1 x l) e ∙ put-nil 1 l))

set_front : (n : ℕ) (h l : List ℕ) → 1 ≤ length l → set (put 1 h l) 0 n ≡ put 1 h (set l 0 n)
unfolding put
set_front n h [] k = absurd (omega arith)
set_front n h (x ∷ xs) k = let z : 1 + length h ≡ suc (length h) = omega arith in rw z

pub counted : (n : ℕ) (h l l' : List ℕ) → 257 ≤ length l → n ≡ length h → l' ≡ put 1 h l → set l' 0 n ≡ put 0 (length h ∷ h) l
counted n h l l' k en el =
    let z : 1 ≡ 0 + 1 = omega arith in
    ap (λ (x : List ℕ). set x 0 n) el ∙ set_front n h l (omega arith) ∙ ap (λ (i : ℕ). put i h (set l 0 n)) z ∙ put-cons 0 n h l (omega arith) ∙ ap (λ (x : ℕ). put 0 (x ∷ h) l) en
