-- The table as its bytes say it, record after record from known places, with no test. For an accepted table it is the decoded one
-- (`raw-exact` of proofs/RawExact.antt). Nothing else in specs/ cites this file: it is for the contracts of inner code, whose running places
-- are the arguments here.
-- Assumes nothing.
use Rattle.std.specs.Prelude.{ℕ, zero, suc, ◌+◌, ◌*◌, List, [], ◌∷◌, get_or}
use Rattle.std.proofs.Math.Option.{Option, none, some}
use Rattle.model.specs.Lists.{sum_of}
use Rattle.model.specs.Table.{Point, Range, ValueBin, Step, TransitionBin, Select, whole, CrossBin, Cross, Table}
use Rattle.model.specs.Format.{byte, u16, point_record, bin_head, range_record, with_ranges, TransitionHead, transition_head, with_owned, StepHead, step_head, ranges_of_step, cross_head, CrossBinHead, cross_bin_head, CrossParts, tokens_of, cross_points, token_record, expressions, record_sizes}

-- ---- places

-- the byte at which the count of section k + 1 stands
unfoldable pub count_place : List ℕ → ℕ → ℕ
count_place s zero = 0
count_place s (suc k) = count_place s k + 2 + u16 s (count_place s k) * get_or record_sizes k 0

-- how many records section k + 1 has, and where they begin
unfoldable pub record_count : List ℕ → ℕ → ℕ
record_count s k = u16 s (count_place s k)

unfoldable pub records_place : List ℕ → ℕ → ℕ
records_place s k = count_place s k + 2

-- ---- records in a row

-- what n records of `size` bytes say, the first of them at `at`
unfoldable pub rows : {A : Type 0} → (ℕ → A) → ℕ → ℕ → ℕ → List A
rows says size at zero = []
rows says size at (suc n) = says at ∷ rows says size (at + size) n

abbrev pub points_at : List ℕ → ℕ → ℕ → List Point
points_at s at n = rows (point_record s) 11 at n

abbrev pub ranges_at : List ℕ → ℕ → ℕ → List Range
ranges_at s at n = rows (range_record s) 17 at n

-- ---- value bins: n records from b on, their ranges from r on

abbrev pub bin_at : List ℕ → ℕ → ℕ → ValueBin
bin_at s b r = with_ranges (bin_head s b).bin (ranges_at s r (u16 s (b + 6)))

unfoldable pub bins_at : List ℕ → ℕ → ℕ → ℕ → List ValueBin
bins_at s b r zero = []
bins_at s b r (suc n) = bin_at s b r ∷ bins_at s (b + 8) (r + 17 * u16 s (b + 6)) n

-- ---- transition bins: n records from b on, their sequences from q on, the steps from p on, the step ranges from r on

-- the numbers of steps of n sequences, and their sum
abbrev pub lengths_at : List ℕ → ℕ → ℕ → List ℕ
lengths_at s q n = rows (byte s) 1 q n

unfoldable pub step_total : List ℕ → ℕ → ℕ → ℕ
step_total s q n = sum_of (λ k. k) (lengths_at s q n)

-- the bins with the lengths of their sequences
unfoldable pub length_heads_at : List ℕ → ℕ → ℕ → ℕ → List (TransitionHead (List ℕ))
length_heads_at s b q zero = []
length_heads_at s b q (suc n) = with_owned (transition_head s b) (lengths_at s q (byte s (b + 3))) ∷ length_heads_at s (b + 4) (q + byte s (b + 3)) n

-- the steps of n sequences, without ranges
abbrev pub step_heads_at : List ℕ → ℕ → ℕ → List StepHead
step_heads_at s p n = rows (step_head s) 3 p n

unfoldable pub sequence_heads_at : List ℕ → ℕ → ℕ → ℕ → List (List StepHead)
sequence_heads_at s q p zero = []
sequence_heads_at s q p (suc n) = step_heads_at s p (byte s q) ∷ sequence_heads_at s (q + 1) (p + 3 * byte s q) n

-- the bins with the steps of their sequences, without ranges
unfoldable pub transition_heads_at : List ℕ → ℕ → ℕ → ℕ → ℕ → List (TransitionHead (List (List StepHead)))
transition_heads_at s b q p zero = []
transition_heads_at s b q p (suc n) =
    with_owned (transition_head s b) (sequence_heads_at s q p (byte s (b + 3)))
    ∷ transition_heads_at s (b + 4) (q + byte s (b + 3)) (p + 3 * step_total s q (byte s (b + 3))) n

-- how many ranges n steps have
unfoldable pub range_total : List ℕ → ℕ → ℕ → ℕ
range_total s p n = sum_of ranges_of_step (step_heads_at s p n)

abbrev pub step_at : List ℕ → ℕ → ℕ → Step
step_at s p r = record { ranges = ranges_at s r (byte s p); least = byte s (p + 1); most = byte s (p + 2) }

-- n steps
unfoldable pub steps_at : List ℕ → ℕ → ℕ → ℕ → List Step
steps_at s p r zero = []
steps_at s p r (suc n) = step_at s p r ∷ steps_at s (p + 3) (r + 17 * byte s p) n

-- n sequences
unfoldable pub sequences_at : List ℕ → ℕ → ℕ → ℕ → ℕ → List (List Step)
sequences_at s q p r zero = []
sequences_at s q p r (suc n) = steps_at s p r (byte s q) ∷ sequences_at s (q + 1) (p + 3 * byte s q) (r + 17 * range_total s p (byte s q)) n

abbrev pub transition_at : List ℕ → ℕ → ℕ → ℕ → ℕ → TransitionBin
transition_at s b q p r =
    let h = transition_head s b in
    record { point = h.point; kind = h.kind; guard = h.guard; sequences = sequences_at s q p r (byte s (b + 3)) }

unfoldable pub transitions_at : List ℕ → ℕ → ℕ → ℕ → ℕ → ℕ → List TransitionBin
transitions_at s b q p r zero = []
transitions_at s b q p r (suc n) =
    let k = step_total s q (byte s (b + 3)) in
    transition_at s b q p r ∷ transitions_at s (b + 4) (q + byte s (b + 3)) (p + 3 * k) (r + 17 * range_total s p k) n

-- ---- crosses: n records from c on, their bins from b on, the tokens from k on

-- the crosses with their bins, without expressions
abbrev pub cross_bin_heads_at : List ℕ → ℕ → ℕ → ℕ → List CrossBinHead
cross_bin_heads_at s c b n = rows (cross_bin_head s (cross_points s c)) 3 b n

unfoldable pub cross_heads_at : List ℕ → ℕ → ℕ → ℕ → List (CrossParts CrossBinHead)
cross_heads_at s c b zero = []
cross_heads_at s c b (suc n) =
    record { head = cross_head s c; bins = cross_bin_heads_at s c b (byte s (c + 12)) } ∷ cross_heads_at s (c + 13) (b + 3 * byte s (c + 12)) n

-- how many tokens n cross bins have
unfoldable pub token_total : List ℕ → ℕ → ℕ → ℕ
token_total s b n = sum_of tokens_of (rows (cross_bin_head s []) 3 b n)

-- the expression of n tokens
abbrev pub only_of : Option (List Select) → Select
only_of none = whole 0
only_of (some []) = whole 0
only_of (some (e ∷ es)) = e

unfoldable pub select_at : List ℕ → ℕ → ℕ → Select
select_at s k n = only_of (expressions (rows (token_record s) 20 k n))

abbrev pub cross_bin_at : List ℕ → ℕ → ℕ → CrossBin
cross_bin_at s b k =
    let h = cross_bin_head s [] b in
    record { kind = h.kind; guard = h.guard; select = select_at s k (byte s (b + 2)) }

unfoldable pub cross_bins_at : List ℕ → ℕ → ℕ → ℕ → List CrossBin
cross_bins_at s b k zero = []
cross_bins_at s b k (suc n) = cross_bin_at s b k ∷ cross_bins_at s (b + 3) (k + 20 * byte s (b + 2)) n

abbrev pub cross_at : List ℕ → ℕ → ℕ → ℕ → Cross
cross_at s c b k =
    let h = cross_head s c in
    record { points = h.points; guard = h.guard; weight = h.weight; at_least = h.at_least; bins = cross_bins_at s b k (byte s (c + 12)) }

unfoldable pub crosses_at : List ℕ → ℕ → ℕ → ℕ → ℕ → List Cross
crosses_at s c b k zero = []
crosses_at s c b k (suc n) =
    cross_at s c b k ∷ crosses_at s (c + 13) (b + 3 * byte s (c + 12)) (k + 20 * token_total s b (byte s (c + 12))) n

-- ---- the whole table

unfoldable pub raw_table : List ℕ → Table
raw_table s = record {
  points = points_at s (records_place s 0) (record_count s 0);
  value_bins = bins_at s (records_place s 1) (records_place s 2) (record_count s 1);
  transition_bins = transitions_at s (records_place s 3) (records_place s 4) (records_place s 5) (records_place s 6) (record_count s 3);
  crosses = crosses_at s (records_place s 7) (records_place s 8) (records_place s 9) (record_count s 7);
}
