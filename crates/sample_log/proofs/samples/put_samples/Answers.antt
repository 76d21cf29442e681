use Rattle.std.proofs.Common.{◌+◌, ◌*◌, refl, sym, ◌∙◌, arith}
use Rattle.sample_log.proofs.SampleLaws.{samples_start, samples_turn, samples_end}
use Rattle.sample_log.proofs.samples.put_samples.Goals as goal

pub loop-i-init : goal.loop-i-init
loop-i-init c =
    let a = c.args in
    let e = samples_start a.points a.count a.bytes.now a.words.now in
    (omega arith, omega arith, omega arith, refl, e.0, e.1)

pub loop-i-preserved : goal.loop-i-preserved
loop-i-preserved c =
    let a = c.args in
    let l = c.loop-i in
    let w = c.put_words-at in
    let e = samples_turn a.points a.count a.bytes.now l.i l.from l.at (4 + 2 * a.points) _ _ l.words _ (omega arith) refl refl w.ensures.0 (omega arith) w.ensures.1 in
    (omega arith, omega arith, omega arith, omega arith, omega (arith, e.0), e.1 ∙ l.invariant.5)

pub returns : goal.returns
returns c =
    let a = c.args in
    let l = c.loop-i in
    let e = samples_end a.points a.count a.bytes.now l.i l.from l.at l.words (omega arith) in
    (omega (arith, e.0), omega arith, sym e.1 ∙ l.invariant.5)
