-- Document 01's readings that are not marked, on the table's bytes; a bin of each kind and form; faults and their places; and some bins at 32 bits.
-- Assumes nothing.
use Rattle.std.specs.Prelude.{ℕ, ◌+◌, ◌≡◌, refl, true, false, List, [], ◌∷◌, ◌++◌, pos, replicate}
use Rattle.std.proofs.Math.Option.{none, some}
use Rattle.std.specs.Float.{fin}
use Rattle.std.specs.Float.Ieee.{round, size, span as spread, climb, units, odd}
use Rattle.std.specs.Int.Count.{count_trailing_zeros}
use Rattle.model.specs.Table.{cover, ignore, single, per_value, span, pattern, Table}
use Rattle.model.specs.Lists.{up_from, any, all, keep, count, sum_of, concat_of, one_of, pair_up, or_all, bits_from, first_failed}
use Rattle.model.specs.Values.{bias, values, in_ranges, distinct_values, listed_values, portion, in_bin}
use Rattle.model.specs.Counters.{listed, excluded_value, listed_value, distributed, holds, meets, has_value, has_auto, value_counters, transition_counters, point_counters, cover_bins, tuples, cross_parts, products, product_of, cross_bin_counters, cross_counters, counters, selects, within_limits}
use Rattle.model.specs.Ranges.{range_count, pattern_from, next_in, ascending, cover_ranges, ranges_of, excluded_ranges, holds_in, candidates, meets_in, has_value_in}
use Rattle.model.specs.Sampling.{guard_true, reading, block_sizes, next_steps, matched_lengths, excluded_match, cover_hit, product_hit, hits}
use Rattle.model.specs.Figures.{in_total, item_of, total, covered, figure_of, group_of, item_figure, group_figure}
use Rattle.model.specs.Format.{tested, ◌>>=◌, times, each, read_record, read_point, read_bin_heads, read_range, read_bin_ranges, read_transition, read_sequence, read_sequences, read_step, read_steps, read_bin_steps, read_step_ranges, read_transition_ranges, all_different, read_cross, read_cross_bin, read_cross_bins, read_token, expressions, read_select, read_selects, u16, u32, u64, value_tests, pattern_tests, range_rules, bin_rules, cover_bin_of, token_rules, read_point_section, read_bin_section, read_range_section, read_transition_section, read_sequence_section, read_step_section, read_step_range_section, read_cross_section, read_cross_bin_section, read_token_section, read_transition_bins, read_crosses, read_table, decode, section_from}
use Rattle.model.specs.Reference.{register_after}
use Rattle.model.specs.Build.{le, empty, point_of, signed_of, guarded_of, bin_of, span_of, below0, transition_of, step_of, cross_of, cross_bin_of, token_of}
use Rattle.model.specs.Register.{Call, reset, start, stop, sample, ask_counter, ask_item, ask_group, percent, millionths, sequences, words_needed, illegal_total, counts_of, unknowns_of, runs_of, next_runs, bin_lengths, all_lengths, sampled_words, report_words, sampled_report, consistent, in_widths, call_tests, restarted, accept, on_table, call, Measure, measure, section}

-- ---- tables

-- a point with no guard; a bin of form 0
point : ℕ → ℕ → ℕ → List ℕ
point width weight auto_max = point_of width 255 weight auto_max

bin : ℕ → ℕ → ℕ → List ℕ
bin p kind ranges = bin_of p kind 0 0 ranges

-- document 01's whole table
thirty_one : List ℕ
thirty_one = le 2 1 ++ point 1 1 64 ++ empty 9

-- 1 of 2 at weight 1, 1 of 3 at weight 2
two_weights : List ℕ
two_weights = le 2 2 ++ point 1 1 64 ++ point 2 2 3 ++ empty 9

-- P: 0-3, 4-7. Q: 0, 1-7. Cross bin: P's first and not Q meeting 0..0.
crossed : List ℕ
crossed =
    le 2 2 ++ point 3 1 64 ++ point 3 1 64
    ++ le 2 4 ++ bin 0 0 1 ++ bin 0 0 1 ++ bin 1 0 1 ++ bin 1 0 1
    ++ le 2 4 ++ span_of 0 3 ++ span_of 4 7 ++ span_of 0 0 ++ span_of 1 7
    ++ empty 4
    ++ le 2 1 ++ cross_of 1
    ++ le 2 1 ++ cross_bin_of 0 4
    ++ le 2 4 ++ token_of 4 0 0 0 0 ++ token_of 1 0 0 0 0 ++ token_of 3 0 0 0 0 ++ token_of 2 1 0 0 0

-- a sequence of two steps, most 16 and the given most
steps_up_to : ℕ → List ℕ
steps_up_to most =
    le 2 1 ++ point 3 1 64 ++ empty 2
    ++ le 2 1 ++ transition_of 0 1
    ++ le 2 1 ++ le 1 2
    ++ le 2 2 ++ step_of 2 16 ++ step_of 2 most
    ++ le 2 2 ++ span_of 3 3 ++ span_of 3 3
    ++ empty 3

-- 64 × 64 products
many_products : List ℕ
many_products =
    le 2 2 ++ point 6 1 64 ++ point 6 1 64 ++ empty 6
    ++ le 2 1 ++ cross_of 0
    ++ empty 2

-- two default bins at one point
two_defaults : List ℕ
two_defaults = le 2 1 ++ point 1 1 64 ++ le 2 2 ++ bin 0 3 0 ++ bin 0 3 0 ++ empty 8

-- 0 to 3 in two auto bins, ignoring 0 and 1
dealt_first : List ℕ
dealt_first = le 2 1 ++ point 2 1 2 ++ le 2 1 ++ bin 0 1 1 ++ le 2 1 ++ span_of 0 1 ++ empty 7

-- a signed point of 8 bits: bins −128, −10 and 0 to 127
signed_bins : List ℕ
signed_bins =
    le 2 1 ++ signed_of 8
    ++ le 2 3 ++ bin 0 0 1 ++ bin 0 0 1 ++ bin 0 0 1
    ++ le 2 3 ++ span_of (below0 128) (below0 128) ++ span_of (below0 10) (below0 10) ++ span_of 0 127
    ++ empty 7

-- a cover bin 0 to 3, an illegal bin 2
illegal_bin : List ℕ
illegal_bin = le 2 1 ++ point 3 1 64 ++ le 2 2 ++ bin 0 0 1 ++ bin 0 2 1 ++ le 2 2 ++ span_of 0 3 ++ span_of 2 2 ++ empty 7

-- a cover bin 1, an ignore bin 2, a default bin
default_bin : List ℕ
default_bin = le 2 1 ++ point 3 1 64 ++ le 2 3 ++ bin 0 0 1 ++ bin 0 1 1 ++ bin 0 3 0 ++ le 2 2 ++ span_of 1 1 ++ span_of 2 2 ++ empty 7

-- one bin per value of 6, 2 to 3 and 3: bins 2, 3 and 6
per_value_bins : List ℕ
per_value_bins = le 2 1 ++ point 3 1 64 ++ le 2 1 ++ bin_of 0 0 1 0 3 ++ le 2 3 ++ span_of 6 6 ++ span_of 2 3 ++ span_of 3 3 ++ empty 7

-- a bin 1 with guard bit 5, a bin 1 with none
guarded_bin : List ℕ
guarded_bin = le 2 1 ++ point 3 1 64 ++ le 2 2 ++ guarded_of 5 0 0 0 0 1 ++ bin 0 0 1 ++ le 2 2 ++ span_of 1 1 ++ span_of 1 1 ++ empty 7

-- a bin with one span
one_span : ℕ → ℕ → List ℕ
one_span a b = le 2 1 ++ point 3 1 64 ++ le 2 1 ++ bin 0 0 1 ++ le 2 1 ++ span_of a b ++ empty 7

-- 32 bits: a pattern bin, and an ignore bin from 0 to the given value. The pattern's values are 2863311520, .522, .528 and .530.
wide_pattern : ℕ → Table
wide_pattern top = record {
  points = record { width = 32; signed = false; guard = none; weight = 1; at_least = 1; auto_max = 64 } ∷ [];
  value_bins =
      record { point = 0; kind = cover; form = single; guard = none; ranges = pattern 0xAAAAAAA0 0xFFFFFFF5 ∷ [] }
      ∷ record { point = 0; kind = ignore; form = single; guard = none; ranges = span bias (bias + top) ∷ [] }
      ∷ [];
  transition_bins = [];
  crosses = [];
}

-- ---- calls

after : List ℕ → List ℕ → List Call → List ℕ
after = register_after

-- a sample of one point, and of two
read : ℕ → ℕ → Call
read v unknowns = sample (0 ∷ 0 ∷ 0 ∷ 0 ∷ v ∷ unknowns ∷ []) []

-- with guard bits, and unknown ones
guarded : ℕ → ℕ → ℕ → Call
guarded bits unknowns v = sample (bits ∷ 0 ∷ unknowns ∷ 0 ∷ v ∷ 0 ∷ []) []

-- with a report of two words before
reported : ℕ → Call
reported v = sample (0 ∷ 0 ∷ 0 ∷ 0 ∷ v ∷ 0 ∷ []) (7 ∷ 7 ∷ [])

pair : ℕ → ℕ → Call
pair v w = sample (0 ∷ 0 ∷ 0 ∷ 0 ∷ v ∷ 0 ∷ w ∷ 0 ∷ []) []

refusal : ℕ → ℕ → Measure
refusal number place = record { number = number; words = 0; illegals = 0; place = place }

-- ---- what comes of them

record Worked : Type 0 where
  whole_table : measure thirty_one ≡ record { number = 0; words = 5; illegals = 0; place = 0 }
  whole_register : after thirty_one (7 ∷ 7 ∷ 7 ∷ 7 ∷ 7 ∷ 7 ∷ []) (reset ∷ read 1 0 ∷ read 1 0 ∷ read 0 1 ∷ []) ≡ 1 ∷ 3 ∷ 0 ∷ 2 ∷ 1 ∷ 7 ∷ []
  -- 25 × 2: 50 percent
  whole_figure : (call thirty_one (1 ∷ 3 ∷ 0 ∷ 2 ∷ 1 ∷ []) (ask_item 0)).response.answer ≡ percent (some (fin false 25 (pos 1)))
  group : (call two_weights (1 ∷ 1 ∷ 1 ∷ 0 ∷ 1 ∷ 0 ∷ 0 ∷ 0 ∷ 0 ∷ []) ask_group).response.answer ≡ millionths (some 38_888_888)
  cross_words : after crossed (replicate 13 0) (reset ∷ pair 0 0 ∷ pair 3 7 ∷ pair 4 0 ∷ pair 7 7 ∷ []) ≡ 1 ∷ 4 ∷ 2 ∷ 2 ∷ 2 ∷ 2 ∷ 1 ∷ 1 ∷ 0 ∷ 1 ∷ 1 ∷ 0 ∷ 0 ∷ []
  -- 1 of 4: 25 percent
  cross_figure : (call crossed (1 ∷ 1 ∷ 1 ∷ 0 ∷ 0 ∷ 1 ∷ 1 ∷ 0 ∷ 0 ∷ 0 ∷ 0 ∷ 0 ∷ 0 ∷ []) (ask_item 2)).response.answer ≡ percent (some (fin false 25 (pos 0)))
  -- values are dealt to the bins before ignored ones leave: 2 and 3 are both the second bin's
  dealt : after dealt_first (replicate 5 0) (reset ∷ read 2 0 ∷ read 3 0 ∷ read 0 0 ∷ []) ≡ 1 ∷ 3 ∷ 0 ∷ 2 ∷ 0 ∷ []
  dealt_figure : (call dealt_first (1 ∷ 3 ∷ 0 ∷ 2 ∷ 0 ∷ []) (ask_item 0)).response.answer ≡ percent (some (fin false 25 (pos 2)))
  -- F6 hex is −10, 80 hex is −128
  signed_ten : after signed_bins (replicate 6 0) (reset ∷ read 0xF6 0 ∷ []) ≡ 1 ∷ 1 ∷ 0 ∷ 1 ∷ 0 ∷ 0 ∷ []
  signed_lowest : after signed_bins (replicate 6 0) (reset ∷ read 0x80 0 ∷ []) ≡ 1 ∷ 1 ∷ 1 ∷ 0 ∷ 0 ∷ 0 ∷ []
  signed_highest : after signed_bins (replicate 6 0) (reset ∷ read 0x7F 0 ∷ read 0 0 ∷ []) ≡ 1 ∷ 2 ∷ 0 ∷ 0 ∷ 2 ∷ 0 ∷ []
  -- an illegal value is its own bin's and no other's, and the report's word for that bin is 1; words beyond stay
  illegal_words : after illegal_bin (replicate 5 0) (reset ∷ reported 1 ∷ reported 5 ∷ reported 2 ∷ []) ≡ 1 ∷ 3 ∷ 1 ∷ 1 ∷ 0 ∷ []
  illegal_report : (call illegal_bin (1 ∷ 0 ∷ 0 ∷ 0 ∷ 0 ∷ []) (reported 2)).response.report ≡ 1 ∷ 7 ∷ []
  legal_report : (call illegal_bin (1 ∷ 0 ∷ 0 ∷ 0 ∷ 0 ∷ []) (reported 1)).response.report ≡ 0 ∷ 7 ∷ []
  no_report : (call illegal_bin (1 ∷ 0 ∷ 0 ∷ 0 ∷ 0 ∷ []) (read 2 0)).response.number ≡ 11
  -- a default bin has what no bin lists, an ignore bin neither: 3, and not 1, 2 or an unknown reading
  default_words : after default_bin (replicate 5 0) (reset ∷ read 1 0 ∷ read 2 0 ∷ read 3 0 ∷ read 3 1 ∷ []) ≡ 1 ∷ 4 ∷ 1 ∷ 1 ∷ 1 ∷ []
  per_value_words : after per_value_bins (replicate 6 0) (reset ∷ read 3 0 ∷ read 6 0 ∷ read 3 0 ∷ read 4 0 ∷ []) ≡ 1 ∷ 4 ∷ 0 ∷ 2 ∷ 1 ∷ 0 ∷ []
  -- a bin's guard: false, true, unknown
  guard_is_false : after guarded_bin (replicate 5 0) (reset ∷ guarded 0 0 1 ∷ []) ≡ 1 ∷ 1 ∷ 0 ∷ 1 ∷ 0 ∷ []
  guard_is_true : after guarded_bin (replicate 5 0) (reset ∷ guarded 32 0 1 ∷ []) ≡ 1 ∷ 1 ∷ 1 ∷ 1 ∷ 0 ∷ []
  guard_is_unknown : after guarded_bin (replicate 5 0) (reset ∷ guarded 32 32 1 ∷ []) ≡ 1 ∷ 1 ∷ 0 ∷ 1 ∷ 0 ∷ []
  most32 : (measure (steps_up_to 16)).number ≡ 0
  last_sample : (call thirty_one (1 ∷ 4_294_967_294 ∷ 0 ∷ 0 ∷ 0 ∷ []) (read 0 0)).words ≡ 1 ∷ 4_294_967_295 ∷ 1 ∷ 0 ∷ 0 ∷ []
  no_more_samples : (call thirty_one (1 ∷ 4_294_967_295 ∷ 0 ∷ 0 ∷ 0 ∷ []) (read 0 0)).response.number ≡ 9
  refused_keeps : (call thirty_one (1 ∷ 4_294_967_295 ∷ 3 ∷ 2 ∷ 1 ∷ []) (read 0 0)).words ≡ 1 ∷ 4_294_967_295 ∷ 3 ∷ 2 ∷ 1 ∷ []
  short_register : (call thirty_one (1 ∷ 0 ∷ 0 ∷ 0 ∷ []) start).response.number ≡ 7
  bad_flag : (call thirty_one (2 ∷ 0 ∷ 0 ∷ 0 ∷ 0 ∷ []) stop).response.number ≡ 8
  bad_count : (call thirty_one (1 ∷ 0 ∷ 1 ∷ 0 ∷ 0 ∷ []) (sample [] [])).response.number ≡ 8
  bad_unknown : (call thirty_one (1 ∷ 0 ∷ 0 ∷ 0 ∷ 1 ∷ []) (ask_counter 9)).response.number ≡ 8
  reset_anyway : (call thirty_one (2 ∷ 0 ∷ 0 ∷ 0 ∷ 1 ∷ []) reset).words ≡ 1 ∷ 0 ∷ 0 ∷ 0 ∷ 0 ∷ []
  stopped_first : (call thirty_one (0 ∷ 4_294_967_295 ∷ 0 ∷ 0 ∷ 0 ∷ []) (read 0 0)).response.number ≡ 10
  section_one : section thirty_one 1 ≡ point 1 1 64
  section_none : section thirty_one 11 ≡ []
  -- faults and their places
  too_long_table : measure (replicate 65_537 0) ≡ refusal 1 0
  no_bytes : measure [] ≡ refusal 2 0
  cut_record : measure (le 2 1 ++ 1 ∷ 0 ∷ []) ≡ refusal 2 2
  no_points : measure (le 2 0 ++ empty 9) ≡ refusal 3 0
  no_ranges : measure (le 2 1 ++ point 3 1 64 ++ le 2 1 ++ bin 0 0 0 ++ empty 8) ≡ refusal 3 21
  bad_width : measure (le 2 1 ++ point 33 1 64 ++ empty 9) ≡ refusal 15 2
  ignore_guard : measure (le 2 1 ++ point 3 1 64 ++ le 2 1 ++ guarded_of 5 0 1 0 0 1 ++ le 2 1 ++ span_of 1 1 ++ empty 7) ≡ refusal 15 20
  first_too_wide : measure (one_span 8 8) ≡ refusal 16 26
  too_wide : measure (one_span 0 8) ≡ refusal 16 34
  backwards : measure (one_span 3 2) ≡ refusal 16 34
  unused_number : measure (le 2 1 ++ point 1 1 64 ++ le 2 1 ++ bin_of 0 3 0 1 0 ++ empty 8) ≡ refusal 17 18
  second_default : measure two_defaults ≡ refusal 4 23
  sums_over : measure (steps_up_to 17) ≡ refusal 4 31
  after10 : measure (thirty_one ++ 0 ∷ []) ≡ refusal 5 31
  over_limits : measure many_products ≡ refusal 6 55
  -- 32 bits, by `Ranges`
  wide_span : range_count (record { width = 32; signed = false; guard = none; weight = 1; at_least = 1; auto_max = 64 }) per_value (span bias (bias + 0xFFFF_FFFF) ∷ []) ≡ 257
  one_left : has_value_in (wide_pattern 0xAAAA_AAA9) (listed 0 0) ≡ true
  none_left : has_value_in (wide_pattern 0xAAAA_AAAA) (listed 0 0) ≡ false

worked : Worked
unfolding le empty point_of signed_of guarded_of bin_of span_of below0 transition_of step_of cross_of cross_bin_of token_of point bin thirty_one two_weights crossed steps_up_to many_products two_defaults dealt_first signed_bins illegal_bin default_bin per_value_bins guarded_bin one_span wide_pattern after register_after read guarded reported pair refusal up_from any all keep count sum_of concat_of one_of pair_up or_all bits_from first_failed values in_ranges distinct_values listed_values portion in_bin excluded_value listed_value distributed holds meets has_value has_auto value_counters transition_counters point_counters cover_bins tuples cross_parts products product_of cross_bin_counters cross_counters counters selects within_limits pattern_from next_in ascending cover_ranges ranges_of excluded_ranges holds_in candidates meets_in has_value_in guard_true reading block_sizes next_steps matched_lengths excluded_match cover_hit product_hit hits in_total item_of total covered figure_of group_of item_figure group_figure tested ◌>>=◌ times each read_record read_point read_bin_heads read_range read_bin_ranges read_transition read_sequence read_sequences read_step read_steps read_bin_steps read_step_ranges read_transition_ranges all_different read_cross read_cross_bin read_cross_bins read_token expressions read_select read_selects u16 u32 u64 value_tests pattern_tests range_rules bin_rules cover_bin_of token_rules read_point_section read_bin_section read_range_section read_transition_section read_sequence_section read_step_section read_step_range_section read_cross_section read_cross_bin_section read_token_section read_transition_bins read_crosses read_table decode section_from sequences words_needed illegal_total counts_of unknowns_of runs_of next_runs bin_lengths all_lengths sampled_words report_words sampled_report consistent in_widths call_tests restarted accept on_table call measure section round size spread climb units odd count_trailing_zeros
worked = record {
  whole_table = refl;
  whole_register = refl;
  whole_figure = refl;
  group = refl;
  cross_words = refl;
  cross_figure = refl;
  dealt = refl;
  dealt_figure = refl;
  signed_ten = refl;
  signed_lowest = refl;
  signed_highest = refl;
  illegal_words = refl;
  illegal_report = refl;
  legal_report = refl;
  no_report = refl;
  default_words = refl;
  per_value_words = refl;
  guard_is_false = refl;
  guard_is_true = refl;
  guard_is_unknown = refl;
  most32 = refl;
  last_sample = refl;
  no_more_samples = refl;
  refused_keeps = refl;
  short_register = refl;
  bad_flag = refl;
  bad_count = refl;
  bad_unknown = refl;
  reset_anyway = refl;
  stopped_first = refl;
  section_one = refl;
  section_none = refl;
  too_long_table = refl;
  no_bytes = refl;
  cut_record = refl;
  no_points = refl;
  no_ranges = refl;
  bad_width = refl;
  ignore_guard = refl;
  first_too_wide = refl;
  too_wide = refl;
  backwards = refl;
  unused_number = refl;
  second_default = refl;
  sums_over = refl;
  after10 = refl;
  over_limits = refl;
  wide_span = refl;
  one_left = refl;
  none_left = refl;
}
