use Rattle.std.proofs.Common.{rules}
use Rattle.check_values.proofs.RangeLaws.{verdict-bin-at, spans-at}
use mathlib.Core.Path.{refl}
use Rattle.check_values.proofs.value_ranges.bin_ranges.Goals as goal

pub returns-then-sound_spans : goal.returns-then-sound_spans
returns-then-sound_spans c = spans-at _ _ _ _ _ _ _ _ _ c.requires.3.known c.inside.ensures c.whole2-n.ensures c.sound_spans.ensures c.if-sound_spans.true refl

pub returns : goal.returns
returns c = rw (verdict-bin-at _ _ _ _ _ c.requires.3.known, c.ranges_of.ensures, c.whole2-n.ensures, c.inside-form.ensures, ← c.inside-2.ensures, c.inside.ensures) (search rules)
