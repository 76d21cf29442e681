-- What bins of a kind add.
-- Assumes nothing.
use Prim.Native.Nat.{◌≤◌}
use native.Mathlib.Omega.{arith}
use Rattle.model.specs.Table.{Kind, cover, ignore, illegal, default}
use Rattle.model.specs.Ranges.{covers_of, counters_of}
use Rattle.limits.specs.Bins.{bars_of}

-- each adds one at most

pub single-few : (k : Kind) → counters_of k 0 ≤ 1
single-few cover = omega arith
single-few ignore = omega arith
single-few illegal = omega arith
single-few default = omega arith

pub bar-few : (k : Kind) → bars_of k ≤ 1
bar-few cover = omega arith
bar-few ignore = omega arith
bar-few illegal = omega arith
bar-few default = omega arith

pub cover-few : (k : Kind) → covers_of k 1 ≤ 1
cover-few cover = omega arith
cover-few ignore = omega arith
cover-few illegal = omega arith
cover-few default = omega arith
