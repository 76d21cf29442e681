-- The flags of a cross's bins and products, from its products' marks. For an accepted table they are the model's (proofs/FlagsExact.antt).
-- Assumes nothing.
use Rattle.std.specs.Prelude.{ℕ, ◌+◌, ◌*◌, ◌/◌, ◌%◌, Bool, true, false, ◌&&◌, ◌||◌, cond, List, [], ◌∷◌, ◌++◌, eqb}
use Rattle.std.specs.Int.Bits.{bit_and}
use Rattle.model.specs.Lists.{pair_up, as_bit, or_all}
use Rattle.model.specs.Table.{Guard, Kind, cover, ignore, illegal, default, Table, excludes}
use Rattle.model.specs.Counters.{CoverBin, Counter, has_value}
use Rattle.model.specs.Sampling.{guard_true, cover_hit, Stretches}
use Rattle.model.specs.Format.{byte, guard_from, CrossBinHead, cross_bin_head}
use Rattle.model.specs.Raw.{rows}
use Rattle.arrays.specs.Flat.{hit_flags, total_flags}

-- ---- which flags: those of a sample, or those of the total

-- the test that a product's parts pass
abbrev pub gate_of : Bool → Table → List ℕ → CoverBin → Bool
gate_of true t w = has_value t
gate_of false t w = cover_hit t w

abbrev pub flags_of : Bool → Table → List ℕ → Stretches → List Counter → List ℕ
flags_of true t w m cs = total_flags t cs
flags_of false t w m cs = hit_flags t w m cs

-- guards do not count in the total
abbrev pub passes : List ℕ → Bool → Guard → Bool
passes w total g = total || guard_true w g

-- ---- a cross's bins

-- n bins from b on, without their expressions
abbrev pub heads_at : List ℕ → ℕ → ℕ → List CrossBinHead
heads_at s b n = rows (cross_bin_head s []) 3 b n

-- bit i: bin i is an ignore or illegal bin
unfoldable pub mask_of : List CrossBinHead → ℕ
mask_of [] = 0
mask_of (h ∷ hs) = mask_of hs * 2 + as_bit (excludes h.kind)

-- a product's mark, if the product is hit and no bin of the mask selects it; those of some products, or-ed
abbrev pub own_mark : ℕ → ℕ → ℕ → ℕ
own_mark mask hit mark = cond (eqb hit 1 && eqb (bit_and mark mask) 0) mark 0

unfoldable pub own_marks : ℕ → List ℕ → List ℕ → ℕ
own_marks mask hits marks = or_all (pair_up (own_mark mask) hits marks)

abbrev pub is_odd : ℕ → Bool
is_odd n = eqb (n % 2) 1

-- one element for a cover bin, one for an illegal bin
abbrev pub label_of : ℕ → ℕ → Kind → List ℕ
label_of a b cover = a ∷ []
label_of a b ignore = []
label_of a b illegal = b ∷ []
label_of a b default = []

-- Bit i of `own` says that a product of cover bin i counts, bit i of `every` that one of illegal bin i does. live: the cross's guard holds.
unfoldable pub bin_flags : List ℕ → Bool → Bool → ℕ → ℕ → List CrossBinHead → List ℕ
bin_flags w total live own every [] = []
bin_flags w total live own every (h ∷ hs) =
    let on = live && passes w total h.guard in
    label_of (as_bit (on && is_odd own)) (as_bit (on && is_odd every)) h.kind ++ bin_flags w total live (own / 2) (every / 2) hs

-- ---- its products

-- hit, and no bin selects it
abbrev pub product_flag : Bool → ℕ → ℕ → ℕ
product_flag live hit mark = as_bit (live && (eqb hit 1 && eqb mark 0))

unfoldable pub product_flags : Bool → List ℕ → List ℕ → List ℕ
product_flags live hits marks = pair_up (product_flag live) hits marks

-- ---- both: the cross's record stands at cp, its bins from bp on

abbrev pub every_mark : Bool → List ℕ → List ℕ → ℕ
every_mark total hits marks = cond total 0 (own_marks 0 hits marks)

unfoldable pub cross_flags : List ℕ → List ℕ → Bool → ℕ → ℕ → List ℕ → List ℕ → List ℕ
cross_flags s w total cp bp hits marks =
    let live = passes w total (guard_from (byte s (cp + 5))) in
    let bins = heads_at s bp (byte s (cp + 12)) in
    bin_flags w total live (own_marks (mask_of bins) hits marks) (every_mark total hits marks) bins ++ product_flags live hits marks
