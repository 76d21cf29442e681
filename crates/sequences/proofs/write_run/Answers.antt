-- `sequences::write_run` meets its contract. Assumes nothing.
use lib.ListN.{length}
use Rattle.sequences.proofs.NextSteps.{run_stored}
use Rattle.sequences.proofs.Shapes.{words_length, none_stored}
use Rattle.sequences.proofs.write_run.Goals as goal

pub returns-then-admitted-eq0 : goal.returns-then-admitted-eq0
returns-then-admitted-eq0 c = λ ss r e d.
    let a = c.args in
    let cleared = c.fill in
    none_stored ss r a.admitted a.words.now cleared.new.self
    (words_length a.shape.now ss (length a.words.now) e c.requires.words_len)
    d
    c.if-admitted-eq0.true
    (cleared.ensures.after (λ y e. e))

pub returns : goal.returns
returns c = λ ss r e d.
    let a = c.args in
    let loaded = c.load-run in
    let next = c.next in
    let stored = c.store in
    run_stored ss r a.words.now loaded.result.words next.result.words _ stored.new.words
    (words_length a.shape.now ss (length a.words.now) e c.requires.words_len)
    loaded.ensures
    (next.ensures ss r e d)
    stored.ensures
