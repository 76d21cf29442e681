use Rattle.std.proofs.Common.{◌-◌, ◌+◌, ◌*◌, sym, ◌∙◌, arith}
use Rattle.sample_log.proofs.BlockLaws.{size-turn, block_turn, block_enough, block_short, block_full, block_other}
use Rattle.sample_log.proofs.samples.block_of.Goals as goal

pub loop-count-preserved : goal.loop-count-preserved
loop-count-preserved c =
    let a = c.args in
    let l = c.loop-count in
    let one = 20 + 8 * a.points in
    let turn = block_turn one a.illegals a.bytes.now l.count l.words l.size (omega arith) (omega arith) (omega arith) (sym c.read4.ensures ∙ c.if-read4-ne0.false) in
    (omega arith, omega arith, omega arith, omega arith, omega arith, size-turn l.count l.size one l.invariant.5, turn ∙ l.invariant.6)

pub returns-after-loop-count-clause-count_value : goal.returns-after-loop-count-clause-count_value
returns-after-loop-count-clause-count_value c =
    let a = c.args in
    let l = c.loop-count in
    let none = block_enough (20 + 8 * a.points) a.illegals a.bytes.now (256 - l.count) (12416 - l.words) l.size (omega arith) in
    (omega (arith, none, l.invariant.6), l.invariant.5)

pub returns-then-bytes-size-clause-count_value : goal.returns-then-bytes-size-clause-count_value
returns-then-bytes-size-clause-count_value c =
    let a = c.args in
    let l = c.loop-count in
    let none = block_short (20 + 8 * a.points) a.illegals a.bytes.now (256 - l.count) (12416 - l.words) l.size (omega arith) in
    (omega (arith, none, l.invariant.6), l.invariant.5)

pub returns-then-words-illegals-clause-count_value : goal.returns-then-words-illegals-clause-count_value
returns-then-words-illegals-clause-count_value c =
    let a = c.args in
    let l = c.loop-count in
    let none = block_full (20 + 8 * a.points) a.illegals a.bytes.now (256 - l.count) (12416 - l.words) l.size (omega arith) (omega arith) in
    (omega (arith, none, l.invariant.6), l.invariant.5)

pub returns-then-read4-ne0-clause-count_value : goal.returns-then-read4-ne0-clause-count_value
returns-then-read4-ne0-clause-count_value c =
    let a = c.args in
    let l = c.loop-count in
    let none = block_other (20 + 8 * a.points) a.illegals a.bytes.now (256 - l.count) (12416 - l.words) l.size (omega arith) (omega arith) (λ e. c.if-read4-ne0.true (c.read4.ensures ∙ e)) in
    (omega (arith, none, l.invariant.6), l.invariant.5)
