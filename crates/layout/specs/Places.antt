-- The places and counts of the ten sections, as the model's table by places has them.
-- Assumes nothing.
use Rattle.std.specs.Prelude.{ℕ, ◌+◌, ◌≤◌, ◌<◌, ◌≡◌, List}
use Rattle.model.specs.Format.{u16}
use Rattle.model.specs.Raw.{record_count, records_place}
use Rattle.layout.specs.declared.Section.{Section}
use Rattle.layout.specs.declared.Layout.{Layout}
use Rattle.layout.specs.declared.BinSections.{BinSections}

-- the section whose count stands at `place`
abbrev pub section_from : List ℕ → ℕ → Section
section_from s place = record { at = place + 2; count = u16 s place }

-- section k + 1
abbrev pub section_of : List ℕ → ℕ → Section
section_of s k = record { at = records_place s k; count = record_count s k }

pub record Near (s : List ℕ) (place : ℕ) (r : Section) : Type 0 where
  pub is : r ≡ section_from s place
  pub at : r.at ≤ place + 2
  pub few : r.count ≤ 65535

unfoldable pub layout_of : List ℕ → Layout
layout_of s = record {
  points = records_place s 0;
  point_count = record_count s 0;
  bins = records_place s 1;
  bin_count = record_count s 1;
  ranges = records_place s 2;
  range_count = record_count s 2;
  transitions = records_place s 3;
  transition_count = record_count s 3;
  sequences = records_place s 4;
  sequence_count = record_count s 4;
  steps = records_place s 5;
  step_count = record_count s 5;
  step_ranges = records_place s 6;
  step_range_count = record_count s 6;
  crosses = records_place s 7;
  cross_count = record_count s 7;
  cross_bins = records_place s 8;
  cross_bin_count = record_count s 8;
  tokens = records_place s 9;
  token_count = record_count s 9;
}

-- of these, the value bins and their ranges
abbrev pub bin_sections_of : List ℕ → BinSections
bin_sections_of s = record {
  bins = (layout_of s).bins;
  bin_count = (layout_of s).bin_count;
  ranges = (layout_of s).ranges;
  range_count = (layout_of s).range_count;
}

-- and the transition bins
abbrev pub transition_section_of : List ℕ → Section
transition_section_of s = record { at = (layout_of s).transitions; count = (layout_of s).transition_count }

-- every place is below 2^24, every count below 2^16
pub record Small (l : Layout) : Type 0 where
  pub points : l.points < 16777216
  pub point_count : l.point_count < 65536
  pub bins : l.bins < 16777216
  pub bin_count : l.bin_count < 65536
  pub ranges : l.ranges < 16777216
  pub range_count : l.range_count < 65536
  pub transitions : l.transitions < 16777216
  pub transition_count : l.transition_count < 65536
  pub sequences : l.sequences < 16777216
  pub sequence_count : l.sequence_count < 65536
  pub steps : l.steps < 16777216
  pub step_count : l.step_count < 65536
  pub step_ranges : l.step_ranges < 16777216
  pub step_range_count : l.step_range_count < 65536
  pub crosses : l.crosses < 16777216
  pub cross_count : l.cross_count < 65536
  pub cross_bins : l.cross_bins < 16777216
  pub cross_bin_count : l.cross_bin_count < 65536
  pub tokens : l.tokens < 16777216
  pub token_count : l.token_count < 65536

pub record SmallBins (l : BinSections) : Type 0 where
  pub bins : l.bins < 16777216
  pub bin_count : l.bin_count < 65536
  pub ranges : l.ranges < 16777216
  pub range_count : l.range_count < 65536
