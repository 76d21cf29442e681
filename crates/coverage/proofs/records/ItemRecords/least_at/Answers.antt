-- `coverage::records::ItemRecords::least_at` meets its contract. Assumes nothing.
use borrow.Author.Tests.{lt-ltb, le-ltb}
use Rattle.coverage.specs.Items.{least_at}
use Rattle.coverage.proofs.records.ItemRecords.least_at.Goals as goal

pub returns-then-i-self : goal.returns-then-i-self
unfolding least_at
returns-then-i-self c = rw (lt-ltb _ _ c.if-i-self.true) c.read4.ensures

pub returns-then-k-self : goal.returns-then-k-self
unfolding least_at
returns-then-k-self c = rw (le-ltb _ _ c.if-i-self.false, lt-ltb _ _ c.if-k-self.true) c.read4-then-k-self.ensures

pub returns : goal.returns
unfolding least_at
returns c = rw (le-ltb _ _ c.if-i-self.false, le-ltb _ _ c.if-k-self.false)
