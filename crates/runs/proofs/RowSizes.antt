-- How many words the rows of a table's sequences have.
-- Assumes nothing.
use mathlib.Core.Path.{◌≡◌, refl, ap}
use mathlib.Core.Bool.{true}
use mathlib.Core.List.{List, [], ◌∷◌}
use Prim.Native.Nat.{ℕ, ◌+◌, ◌*◌, ◌≤◌}
use native.Mathlib.Omega.{arith}
use lib.ListN.{length, length-append}
use Rattle.model.specs.Lists.{sum_of, concat_of}
use Rattle.model.specs.Table.{Step, TransitionBin, Table}
use Rattle.model.specs.Format.{u16, accepted, table_of}
use Rattle.model.specs.Raw.{count_place, record_count}
use Rattle.model.proofs.Access.{points_access, bins_access, ranges_access}
use Rattle.model.proofs.RawExact.{next_place_lem}
use Rattle.model.proofs.AccessTransitions.{ranges_in, bin_ranges_in, steps_in, transitions_access, sequences_access, steps_access, step_ranges_access}
use Rattle.runs.specs.Rows.{sequence_row, bin_row, sequence_rows}
use Rattle.runs.proofs.RowLaws.{length-row}
use Rattle.runs.proofs.Ready.{laid}

pub length-rows : (sss : List (List Step)) → length (concat_of sequence_row sss) ≡ 3 * length sss + 2 * sum_of length sss + 4 * sum_of ranges_in sss
unfolding concat_of sum_of
length-rows [] = refl
length-rows (ss ∷ sss) = omega (arith, length-append (sequence_row ss) (concat_of sequence_row sss), length-row ss, length-rows sss)

length-bin : (b : TransitionBin) → length (bin_row b) ≡ 2 + 3 * length b.sequences + 2 * steps_in b + 4 * bin_ranges_in b
unfolding bin_row steps_in bin_ranges_in
length-bin b = omega (arith, length-rows b.sequences)

length-bins : (bs : List TransitionBin) → length (concat_of bin_row bs) ≡ 2 * length bs + 3 * sum_of (λ b. length b.sequences) bs + 2 * sum_of steps_in bs + 4 * sum_of bin_ranges_in bs
unfolding concat_of sum_of
length-bins [] = refl
length-bins (b ∷ bs) = omega (arith, length-append (bin_row b) (concat_of bin_row bs), length-bin b, length-bins bs)

-- two words a bin, three a sequence, two a step, four a range
pub rows-length : (t : Table) → length (sequence_rows t)
    ≡ 2 * length t.transition_bins + 3 * sum_of (λ b. length b.sequences) t.transition_bins + 2 * sum_of steps_in t.transition_bins + 4 * sum_of bin_ranges_in t.transition_bins
unfolding sequence_rows
rows-length t = length-bins t.transition_bins

pub rows_few : (s : List ℕ) → accepted s ≡ true → length (sequence_rows (table_of s)) ≤ 2880
rows_few s e =
    let t = table_of s in
    let l = laid s e in
    omega (arith, rows-length t, (transitions_access s t (length s) l).0.high, (sequences_access s t (length s) l).0.high, (steps_access s t (length s) l).0.high, (step_ranges_access s t (length s) l).0.high)

-- by the counts of the table's sections
pub rows-counted : (s : List ℕ) → accepted s ≡ true → length (sequence_rows (table_of s)) ≡ 2 * record_count s 3 + 3 * record_count s 4 + 2 * record_count s 5 + 4 * record_count s 6
unfolding record_count
rows-counted s e =
    let t = table_of s in
    let l = laid s e in
    let points = points_access s t (length s) l in
    let bins = bins_access s t (length s) l in
    let ranges = ranges_access s t (length s) l in
    let transitions = transitions_access s t (length s) l in
    let sequences = sequences_access s t (length s) l in
    let steps = steps_access s t (length s) l in
    let start : count_place s 0 ≡ 0 = unfold count_place in refl in
    let first : l.next₂ ≡ count_place s 1 = omega (arith, points.0.said, points.0.begins, points.1, ap (u16 s) start, start, next_place_lem s 0 11 refl) in
    let second : l.next₃ ≡ count_place s 2 = omega (arith, bins.0.said, bins.0.begins, bins.1, ap (u16 s) first, first, next_place_lem s 1 8 refl) in
    let third : l.next₄ ≡ count_place s 3 = omega (arith, ranges.0.said, ranges.0.begins, ranges.1, ap (u16 s) second, second, next_place_lem s 2 17 refl) in
    let fourth : l.next₅ ≡ count_place s 4 = omega (arith, transitions.0.said, transitions.0.begins, transitions.1, ap (u16 s) third, third, next_place_lem s 3 4 refl) in
    let fifth : l.next₆ ≡ count_place s 5 = omega (arith, sequences.0.said, sequences.0.begins, sequences.1, ap (u16 s) fourth, fourth, next_place_lem s 4 1 refl) in
    let sixth : l.next₇ ≡ count_place s 6 = omega (arith, steps.0.said, steps.0.begins, steps.1, ap (u16 s) fifth, fifth, next_place_lem s 5 3 refl) in
    omega (arith, rows-length t, transitions.0.said, ap (u16 s) third, sequences.0.said, ap (u16 s) fourth, steps.0.said, ap (u16 s) fifth, (step_ranges_access s t (length s) l).0.said, ap (u16 s) sixth)
