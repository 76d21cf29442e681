-- a step's words are the model's
pub mod NextSteps
-- so are those of a shape and the admitted steps
pub mod Shapes
-- what a turn of each loop does
pub mod Turns
-- for a loop over all sequences: what one sequence does to the register's run words
pub mod Sequences
-- the same over the places of the table's bytes
pub mod Places
