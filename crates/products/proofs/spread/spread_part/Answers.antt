use native.Mathlib.Omega.{arith}
use Rattle.products.specs.Shapes.{sizes_of}
use Rattle.products.proofs.Sizes.{turn_some, turn_fits}
use Rattle.products.proofs.Rows.{part_says, none_said}
use Rattle.products.proofs.spread.spread_part.Goals as goal

pub returns-then-n-eq0 : goal.returns-then-n-eq0
returns-then-n-eq0 c = none_said _ _ _ (omega arith)

pub spread-requires : goal.spread-requires
spread-requires c =
    let a = c.args in
    let inner = c.inner_of-inner in
    let size = c.parts_at-size in
    let some = turn_some (sizes_of a.s) a.s.total a.q inner.result size.result inner.ensures size.ensures.0 c.requires.2.all (omega arith) in
    let fits = turn_fits (sizes_of a.s) a.s.total a.q inner.result size.result inner.ensures size.ensures.0 c.requires.2.all (omega arith) in
    (omega (arith, fits), omega arith, size.ensures.1)

pub overflow_mul-size : goal.overflow_mul-size
overflow_mul-size c =
    let a = c.args in
    let inner = c.inner_of-inner in
    let size = c.parts_at-size in
    let some = turn_some (sizes_of a.s) a.s.total a.q inner.result size.result inner.ensures size.ensures.0 c.requires.2.all (omega arith) in
    let fits = turn_fits (sizes_of a.s) a.s.total a.q inner.result size.result inner.ensures size.ensures.0 c.requires.2.all (omega arith) in
    omega (arith, fits)

pub go_round-requires : goal.go_round-requires
go_round-requires c =
    let a = c.args in
    let inner = c.inner_of-inner in
    let size = c.parts_at-size in
    let some = turn_some (sizes_of a.s) a.s.total a.q inner.result size.result inner.ensures size.ensures.0 c.requires.2.all (omega arith) in
    let fits = turn_fits (sizes_of a.s) a.s.total a.q inner.result size.result inner.ensures size.ensures.0 c.requires.2.all (omega arith) in
    (some, fits, omega (arith, c.spread.auto.out))

pub returns : goal.returns
returns c =
    let a = c.args in
    let inner = c.inner_of-inner in
    let size = c.parts_at-size in
    let some = turn_some (sizes_of a.s) a.s.total a.q inner.result size.result inner.ensures size.ensures.0 c.requires.2.all (omega arith) in
    let fits = turn_fits (sizes_of a.s) a.s.total a.q inner.result size.result inner.ensures size.ensures.0 c.requires.2.all (omega arith) in
    part_says a.leaves.now (sizes_of a.s) a.row a.q inner.result size.result a.s.total inner.ensures size.ensures.0 some _ _ c.spread.ensures c.go_round.ensures
