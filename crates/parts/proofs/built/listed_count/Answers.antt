use mathlib.Core.Path.{refl, sym, ◌∙◌}
use Prim.Native.Nat.{◌+◌}
use Rattle.model.specs.Format.{byte, u16}
use Rattle.model.specs.Raw.{ranges_at}
use Rattle.parts.proofs.OwnLaws.{count_single, count_fixed}
use Rattle.parts.proofs.built.listed_count.Goals as goal

pub returns-then-form-eq0 : goal.returns-then-form-eq0
returns-then-form-eq0 c =
    let a = c.args in
    let s = a.t.now in
    count_single a.b.low (byte s (a.b.at + 2)) (u16 s (a.b.at + 3)) c.byte-form.result _ (ranges_at s a.b.ranges (u16 s (a.b.at + 6))) c.byte-form.ensures refl c.if-form-eq0.true

pub returns-else-form-eq0 : goal.returns-else-form-eq0
returns-else-form-eq0 c =
    let a = c.args in
    let s = a.t.now in
    count_fixed a.b.low (byte s (a.b.at + 2)) (u16 s (a.b.at + 3)) c.byte-form.result c.read2.result (ranges_at s a.b.ranges (u16 s (a.b.at + 6))) c.byte-form.ensures c.read2.ensures c.if-form-eq0.false (λ e. c.requires.1 (sym c.byte-form.ensures ∙ e))
