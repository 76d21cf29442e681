-- small laws, and readers
pub mod Booleans
pub mod Fields
pub mod Readers
pub mod Lists
pub mod Searches
-- the table's bytes: where the sections stand, and what a table that was read is
pub mod Sections
pub mod WellFormed
-- demand 3
pub mod Reversal
pub mod RunBits
pub mod Runs
pub mod Matching
pub mod Demand3
-- the bins by ranges agree with the bins by values
pub mod NextValue
pub mod Slices
pub mod Exact
pub mod TableExact
pub mod Limits
-- demand 2's bound
pub mod Group
-- records by offset
pub mod Access
pub mod AccessTransitions
pub mod AccessCrosses
pub mod Selects
pub mod Prefix
-- the raw table by places
pub mod RawLaws
pub mod RawValues
pub mod RawTransitions
pub mod RawCrosses
pub mod RawExact
-- what measuring counts
pub mod Measure
pub mod MeasureBounds
