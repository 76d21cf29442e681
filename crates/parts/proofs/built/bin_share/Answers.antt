use native.Mathlib.Omega.{arith}
use mathlib.Core.Path.{◌≡◌, refl, ap, ◌∙◌}
use Prim.Native.Nat.{ℕ, ◌+◌}
use Rattle.model.specs.Format.{byte, u16}
use Rattle.model.specs.Ranges.{sizes}
use Rattle.model.specs.Raw.{ranges_at}
use Rattle.parts.proofs.OwnLaws.{share_one, share_number, share_fixed}
use Rattle.parts.proofs.built.bin_share.Goals as goal

pub returns-then-form-lt2 : goal.returns-then-form-lt2
returns-then-form-lt2 c =
    let a = c.args in
    let s = a.t.now in
    share_one a.b.low (byte s (a.b.at + 2)) (u16 s (a.b.at + 3)) c.byte-form.result _ (ranges_at s a.b.ranges (u16 s (a.b.at + 6))) c.byte-form.ensures refl c.if-form-lt2.true

pub sizes_at-all-requires : goal.sizes_at-all-requires
sizes_at-all-requires c =
    let a = c.args in
    let s = a.t.now in
    let e : sizes (ranges_at s a.b.ranges c.read2-n.result) ≡ sizes (ranges_at s a.b.ranges (u16 s (a.b.at + 6))) = ap (λ (n : ℕ). sizes (ranges_at s a.b.ranges n)) c.read2-n.ensures in
    (omega arith, omega arith, omega (arith, e, c.requires.2.light))

pub share_of-requires : goal.share_of-requires
share_of-requires c =
    let a = c.args in
    let s = a.t.now in
    share_number a.b.low (byte s (a.b.at + 2)) (u16 s (a.b.at + 3)) c.byte-form.result c.read2.result (ranges_at s a.b.ranges (u16 s (a.b.at + 6))) c.byte-form.ensures c.read2.ensures (λ h. omega (arith, c.if-form-lt2.false)) c.requires.2.deals

pub returns : goal.returns
returns c =
    let a = c.args in
    let s = a.t.now in
    share_fixed a.b.low (byte s (a.b.at + 2)) (u16 s (a.b.at + 3)) c.byte-form.result c.read2.result (ranges_at s a.b.ranges (u16 s (a.b.at + 6))) c.byte-form.ensures c.read2.ensures _ _ (λ h. omega (arith, c.if-form-lt2.false)) (c.sizes_at-all.ensures ∙ ap (λ (n : ℕ). sizes (ranges_at s a.b.ranges n)) c.read2-n.ensures) c.share_of.ensures.0
