-- Document 01's marked readings, as one table and one claim: register and reference both come to the expected counts and total.
-- Assumes nothing.
use Rattle.std.specs.Prelude.{ℕ, ◌+◌, Bool, true, false, ◌&&◌, List, [], ◌∷◌, ◌++◌, map, T, eqb, replicate}
use Rattle.model.specs.Lists.{all, any, bits_from, concat_of, count, first_failed, keep, one_of, or_all, pair_up, sum_of, up_from}
use Rattle.model.specs.Values.{distinct_values, in_bin, in_ranges, listed_values, portion, values}
use Rattle.model.specs.Counters.{counters, cover_bins, cross_bin_counters, cross_counters, cross_parts, distributed, excluded_value, has_auto, has_value, holds, listed_value, meets, point_counters, product_of, products, selects, transition_counters, tuples, value_counters, within_limits}
use Rattle.model.specs.Sampling.{block_sizes, cover_hit, excluded_match, guard_true, hits, matched_lengths, next_steps, product_hit, reading}
use Rattle.model.specs.Figures.{covered, figure_of, group_figure, group_of, in_total, item_figure, item_of, total}
use Rattle.model.specs.Format.{◌>>=◌, accepted, all_different, bin_rules, cover_bin_of, decode, each, expressions, pattern_tests, range_rules, read_bin_heads, read_bin_ranges, read_bin_section, read_bin_steps, read_cross, read_cross_bin, read_cross_bin_section, read_cross_bins, read_cross_section, read_crosses, read_point, read_point_section, read_range, read_range_section, read_record, read_select, read_selects, read_sequence, read_sequence_section, read_sequences, read_step, read_step_range_section, read_step_ranges, read_step_section, read_steps, read_table, read_token, read_token_section, read_transition, read_transition_bins, read_transition_ranges, read_transition_section, table_of, tested, times, token_rules, u16, u32, u64, value_tests}
use Rattle.model.specs.Register.{Call, accept, all_lengths, bin_lengths, call, call_tests, consistent, counts_of, illegal_total, in_widths, measure, next_runs, on_table, report_words, reset, restarted, runs_of, sample, sampled_report, sampled_words, sequences, start, stop, unknowns_of, words_needed}
use Rattle.model.specs.Reference.{counter_value, counter_values, history, matches, new_reference, reference_after, reference_after_calls, reference_response, reference_step, reference_tests, reference_words, register_after, run_word, run_words, samples_in, trace_stretches, unknown_count, unknown_counts}
use Rattle.model.specs.Build.{bin_of, empty, guarded_of, le, pattern_of, point_of, span_of, step_of, transition_of}

-- ---- tables of one point: unsigned, 8 bits, guard bit 0

-- its value bins and their ranges, each as a number of records and their bytes
of_values : ℕ → List ℕ → ℕ → List ℕ → List ℕ
of_values n bins m ranges = le 2 1 ++ point_of 8 0 1 64 ++ le 2 n ++ bins ++ le 2 m ++ ranges ++ empty 7

-- its transition bins, their sequences, the steps and the step ranges
of_transitions : ℕ → List ℕ → ℕ → List ℕ → ℕ → List ℕ → List ℕ → List ℕ
of_transitions n bins m sequences k steps ranges = le 2 1 ++ point_of 8 0 1 64 ++ empty 2 ++ le 2 n ++ bins ++ le 2 m ++ sequences ++ le 2 k ++ steps ++ le 2 k ++ ranges ++ empty 3

only : ℕ → List ℕ
only v = span_of v v

-- ---- samples of that point

read : ℕ → Call
read v = sample (1 ∷ 0 ∷ 0 ∷ 0 ∷ v ∷ 0 ∷ []) []

-- with these value bits, and bit 0 unknown
unread : ℕ → Call
unread v = sample (1 ∷ 0 ∷ 0 ∷ 0 ∷ v ∷ 1 ∷ []) []

-- with the guard false
missed : ℕ → Call
missed v = sample (0 ∷ 0 ∷ 0 ∷ 0 ∷ v ∷ 0 ∷ []) []

readings : List ℕ → List Call
readings vs = map read vs

-- ---- the cases

pub record Case : Type 0 where
  pub bytes : List ℕ
  pub calls : List Call
  -- each counter after a reset and the calls, and the total of point 0
  pub counts : List ℕ
  pub total : ℕ

ten_in3 : List ℕ
ten_in3 = of_values 1 (bin_of 0 0 2 3 1) 1 (span_of 1 10)

ten_twice_in4 : List ℕ
ten_twice_in4 = of_values 1 (bin_of 0 0 2 4 4) 4 (span_of 1 10 ++ only 1 ++ only 4 ++ only 7)

two_in3 : List ℕ
two_in3 = of_values 1 (bin_of 0 0 2 3 1) 1 (span_of 1 2)

-- 11?? over the low four bits, the others 0
pattern_bin : List ℕ
pattern_bin = of_values 1 (bin_of 0 0 0 0 1) 1 (pattern_of 12 252)

ignoring : List ℕ
ignoring = of_values 3 (bin_of 0 0 0 0 2 ++ bin_of 0 0 0 0 2 ++ bin_of 0 1 0 0 2) 6 (only 1 ++ only 2 ++ only 3 ++ only 4 ++ only 1 ++ only 2)

up123 : List ℕ
up123 = of_transitions 1 (transition_of 0 1) 1 (le 1 3) 3 (step_of 1 1 ++ step_of 1 1 ++ step_of 1 1) (only 10 ++ only 20 ++ only 30)

up12 : List ℕ
up12 = of_transitions 1 (transition_of 0 1) 1 (le 1 2) 2 (step_of 1 1 ++ step_of 1 1) (only 10 ++ only 20)

threes : List ℕ
threes = of_transitions 1 (transition_of 0 1) 1 (le 1 1) 1 (step_of 2 3) (only 3)

threes_ignored : List ℕ
threes_ignored = of_transitions 2 (transition_of 0 1 ++ transition_of 1 1) 2 (le 1 1 ++ le 1 2) 3 (step_of 2 3 ++ step_of 1 1 ++ step_of 1 1) (only 3 ++ only 3 ++ only 3)

case : List ℕ → List Call → List ℕ → ℕ → Case
case bytes cs ns n = record { bytes = bytes; calls = cs; counts = ns; total = n }

pub cases : List Case
cases =
    -- 1:10 in 3 bins: 1-3, 4-6, 7-10
    case ten_in3 (readings (1 ∷ 2 ∷ 3 ∷ [])) (3 ∷ 0 ∷ 0 ∷ []) 3
    ∷ case ten_in3 (readings (4 ∷ 5 ∷ 6 ∷ [])) (0 ∷ 3 ∷ 0 ∷ []) 3
    ∷ case ten_in3 (readings (7 ∷ 8 ∷ 9 ∷ 10 ∷ [])) (0 ∷ 0 ∷ 4 ∷ []) 3
    -- 1:10, 1, 4, 7 in 4: 1-3, 4-6, 7-9, and 10 with 1, 4, 7
    ∷ case ten_twice_in4 (readings (1 ∷ [])) (1 ∷ 0 ∷ 0 ∷ 1 ∷ []) 4
    ∷ case ten_twice_in4 (readings (4 ∷ [])) (0 ∷ 1 ∷ 0 ∷ 1 ∷ []) 4
    ∷ case ten_twice_in4 (readings (7 ∷ [])) (0 ∷ 0 ∷ 1 ∷ 1 ∷ []) 4
    ∷ case ten_twice_in4 (readings (10 ∷ [])) (0 ∷ 0 ∷ 0 ∷ 1 ∷ []) 4
    ∷ case ten_twice_in4 (readings (2 ∷ 3 ∷ [])) (2 ∷ 0 ∷ 0 ∷ 0 ∷ []) 4
    ∷ case ten_twice_in4 (readings (5 ∷ 6 ∷ [])) (0 ∷ 2 ∷ 0 ∷ 0 ∷ []) 4
    ∷ case ten_twice_in4 (readings (8 ∷ 9 ∷ [])) (0 ∷ 0 ∷ 2 ∷ 0 ∷ []) 4
    -- 2 values in 3 bins: the third is empty
    ∷ case two_in3 (readings (0 ∷ 1 ∷ 2 ∷ 3 ∷ [])) (1 ∷ 1 ∷ 0 ∷ []) 2
    -- 10=>20=>30
    ∷ case up123 (readings (10 ∷ 20 ∷ 10 ∷ 20 ∷ 30 ∷ [])) (1 ∷ []) 1
    ∷ case up123 (readings (10 ∷ 20 ∷ 20 ∷ 30 ∷ [])) (0 ∷ []) 1
    -- 3[*2:3]; with 3=>3 ignored
    ∷ case threes (readings (3 ∷ 3 ∷ 3 ∷ [])) (2 ∷ []) 1
    ∷ case threes_ignored (readings (3 ∷ 3 ∷ 3 ∷ [])) (1 ∷ []) 1
    -- 10=>20, with an unknown reading whose value bits are 10, a false guard, a restart between
    ∷ case up12 (read 10 ∷ unread 10 ∷ read 20 ∷ []) (0 ∷ []) 1
    ∷ case up12 (read 10 ∷ missed 0 ∷ read 20 ∷ []) (1 ∷ []) 1
    ∷ case up12 (read 10 ∷ stop ∷ start ∷ read 20 ∷ []) (0 ∷ []) 1
    -- 11?? holds 12 to 15 and not 11
    ∷ case pattern_bin (readings (12 ∷ 13 ∷ 14 ∷ 15 ∷ [])) (4 ∷ []) 1
    ∷ case pattern_bin (readings (11 ∷ [])) (0 ∷ []) 1
    -- bins {1,2} and {3,4}, ignoring 1 and 2
    ∷ case ignoring (readings (1 ∷ 2 ∷ 3 ∷ 4 ∷ [])) (0 ∷ 2 ∷ []) 1
    ∷ []

-- ---- the test

same : List ℕ → List ℕ → Bool
same [] [] = true
same [] (y ∷ ys) = false
same (x ∷ xs) [] = false
same (x ∷ xs) (y ∷ ys) = eqb x y && same xs ys

-- A reset and the calls on a register of the measured length, with one word beyond: the counts are the expected ones, all words are the reference's,
-- and so is the total.
pub passes : Case → Bool
passes c =
    let t = table_of c.bytes in
    let w = register_after c.bytes (replicate ((measure c.bytes).words + 1) 7) (reset ∷ c.calls) in
    let ref = reference_after_calls t new_reference c.calls in
    accepted c.bytes && same (counts_of t w) c.counts && same w (reference_words t ref ++ 7 ∷ []) && eqb (total t 0 (counters t)) c.total

pub cases_hold : T (all passes cases)
unfolding ten_in3 ten_twice_in4 two_in3 pattern_bin ignoring up123 up12 threes threes_ignored case cases same passes of_values of_transitions only read unread missed readings pattern_of le empty point_of guarded_of bin_of span_of transition_of step_of register_after up_from any all keep count sum_of concat_of one_of pair_up or_all bits_from first_failed values in_ranges distinct_values listed_values portion in_bin excluded_value listed_value distributed holds meets has_value has_auto value_counters transition_counters point_counters cover_bins tuples cross_parts products product_of cross_bin_counters cross_counters counters selects within_limits guard_true reading block_sizes next_steps matched_lengths excluded_match cover_hit product_hit hits in_total item_of total covered figure_of group_of item_figure group_figure tested ◌>>=◌ times each read_record read_point read_bin_heads read_range read_bin_ranges read_transition read_sequence read_sequences read_step read_steps read_bin_steps read_step_ranges read_transition_ranges all_different read_cross read_cross_bin read_cross_bins read_token expressions read_select read_selects u16 u32 u64 value_tests pattern_tests range_rules bin_rules cover_bin_of token_rules read_point_section read_bin_section read_range_section read_transition_section read_sequence_section read_step_section read_step_range_section read_cross_section read_cross_bin_section read_token_section read_transition_bins read_crosses read_table decode sequences words_needed illegal_total counts_of unknowns_of runs_of next_runs bin_lengths all_lengths sampled_words report_words sampled_report consistent in_widths call_tests restarted accept on_table call measure samples_in history matches trace_stretches run_word run_words counter_value unknown_count counter_values unknown_counts reference_words reference_tests reference_after reference_response reference_step reference_after_calls accepted table_of
cases_hold = tt
