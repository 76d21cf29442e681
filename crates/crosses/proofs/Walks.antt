-- The crosses one after the other, and what is written of each.
-- Assumes nothing.
use mathlib.Core.Path.{◌≡◌, refl, sym, ap, ◌∙◌}
use mathlib.Core.Bool.{Bool, true, false}
use mathlib.Core.List.{List, [], ◌++◌, map, map-append}
use Prim.Native.Nat.{ℕ, ◌+◌, ◌-◌, ◌≤◌, ◌<◌}
use native.Mathlib.Omega.{arith}
use native.Mathlib.Numerals.{add-one}
use lib.ListN.{length, length-append, length-map}
use Rattle.model.specs.Lists.{up_from, concat_of, as_bit}
use Rattle.model.specs.Table.{Table}
use Rattle.model.specs.Counters.{Counter, cross_counters}
use Rattle.model.specs.Sampling.{Stretches, hits}
use Rattle.model.specs.Figures.{in_total}
use Rattle.model.proofs.Lists.{one_left}
use Rattle.arrays.specs.Put.{put}
use Rattle.arrays.specs.Flat.{hit_flags, total_flags, all_cross_counters}
use Rattle.arrays.proofs.PutLaws.{put-nil}
use Rattle.arrays.proofs.Written.{put-turn}
use Rattle.crosses.specs.Flags.{flags_of}

abbrev flag_by : Bool → Table → List ℕ → Stretches → Counter → ℕ
flag_by true t w m c = as_bit (in_total t c)
flag_by false t w m c = as_bit (hits t w m c)

flags-map : (total : Bool) (t : Table) (w : List ℕ) (m : Stretches) (cs : List Counter) → flags_of total t w m cs ≡ map (flag_by total t w m) cs
unfolding total_flags hit_flags
flags-map true t w m cs = refl
flags-map false t w m cs = refl

-- ---- all crosses

module _ (t : Table) where
  -- the counters of k crosses from c on
  abbrev pub counters_from : ℕ → ℕ → List Counter
  counters_from c k = concat_of (cross_counters t) (up_from c k)

  pub from_start : (n : ℕ) → n ≡ length t.crosses → counters_from 0 (n - 0) ≡ all_cross_counters t
  unfolding all_cross_counters
  from_start n e = ap (counters_from 0) (let z : n - 0 ≡ length t.crosses = omega arith in z)

  pub from_turn : (n c : ℕ) → c < n → counters_from c (n - c) ≡ cross_counters t c ++ counters_from (c + 1) (n - (c + 1))
  unfolding concat_of up_from
  from_turn n c h = ap (counters_from c) (one_left n c h) ∙ ap (λ (d : ℕ). cross_counters t c ++ counters_from d (n - (c + 1))) (sym (add-one c))

  pub from_end : (n c : ℕ) → n ≤ c → counters_from c (n - c) ≡ []
  unfolding concat_of up_from
  from_end n c h = ap (counters_from c) (let z : n - c ≡ 0 = omega arith in z)

  pub from_length : (n c : ℕ) → c < n → length (counters_from c (n - c)) ≡ length (cross_counters t c) + length (counters_from (c + 1) (n - (c + 1)))
  from_length n c h = ap length (from_turn n c h) ∙ length-append (cross_counters t c) (counters_from (c + 1) (n - (c + 1)))

  module _ (n c at at' : ℕ) (l l' : List ℕ) (h : c < n) (fit : at + length (counters_from c (n - c)) ≤ length l) (e : at' ≡ at + length (cross_counters t c)) where
    pub map-turn : (g : Counter → ℕ) → l' ≡ put at (map g (cross_counters t c)) l → put at' (map g (counters_from (c + 1) (n - (c + 1)))) l' ≡ put at (map g (counters_from c (n - c))) l
    map-turn g w =
        (put-turn at at' (map g (counters_from c (n - c))) (map g (cross_counters t c)) (map g (counters_from (c + 1) (n - (c + 1)))) l l'
        (ap (map g) (from_turn n c h) ∙ map-append g (cross_counters t c) (counters_from (c + 1) (n - (c + 1))))
        (omega (arith, length-map (counters_from c (n - c)) g)) (omega (arith, length-map (cross_counters t c) g)) w).1

    pub flags_turn : (total : Bool) (w : List ℕ) (m : Stretches) → l' ≡ put at (flags_of total t w m (cross_counters t c)) l
        → put at' (flags_of total t w m (counters_from (c + 1) (n - (c + 1)))) l' ≡ put at (flags_of total t w m (counters_from c (n - c))) l
    flags_turn total w m k =
        ap (λ (xs : List ℕ). put at' xs l') (flags-map total t w m (counters_from (c + 1) (n - (c + 1))))
        ∙ map-turn (flag_by total t w m) (k ∙ ap (λ (xs : List ℕ). put at xs l) (flags-map total t w m (cross_counters t c)))
        ∙ sym (ap (λ (xs : List ℕ). put at xs l) (flags-map total t w m (counters_from c (n - c))))

  pub map_end : (n c at : ℕ) (l : List ℕ) (g : Counter → ℕ) → n ≤ c → l ≡ put at (map g (counters_from c (n - c))) l
  map_end n c at l g h = sym (ap (λ (cs : List Counter). put at (map g cs) l) (from_end n c h) ∙ put-nil at l)

  pub flags_end : (n c at : ℕ) (l : List ℕ) (total : Bool) (w : List ℕ) (m : Stretches) → n ≤ c → l ≡ put at (flags_of total t w m (counters_from c (n - c))) l
  flags_end n c at l total w m h = map_end n c at l (flag_by total t w m) h ∙ ap (λ (xs : List ℕ). put at xs l) (sym (flags-map total t w m (counters_from c (n - c))))
