use Prim.Native.Nat.{◌+◌, ◌*◌}
use mathlib.Core.Path.{◌≡◌, ap, ◌∙◌}
use mathlib.Core.Bool.{true, ◌||◌}
use native.Mathlib.Omega.{arith}
use lib.Dec.{eqb}
use Rattle.std.proofs.Common.{ℕ, Ok}
use Rattle.model.specs.Format.{byte}
use Rattle.words.proofs.Laws.{records, handed, record_whole, tests_stop, tests_on}
use Rattle.check_values.specs.Places.{read_bin}
use Rattle.check_values.proofs.BinLaws.{first_plain}
use Rattle.check_values.proofs.bins.bin_fault.Goals as goal

pub returns-in_err-end : goal.returns-in_err-end
unfolding read_bin
returns-in_err-end c = handed _ _ c.from_residual.ensures ∙ search (records, c.in_err-end.ensures.value)

pub returns-in_err-bin_rules : goal.returns-in_err-bin_rules
unfolding read_bin
returns-in_err-bin_rules c =
    let a = c.args in
    let k = byte a.t.now (a.base + 8 * a.i + 1) in
    let plain : (eqb k 0 || eqb k 2) ≡ true = rw c.bin_at-bin.ensures at c.if-bin.true in
    handed _ _ c.from_residual-in_err-bin_rules.ensures
    ∙ record_whole _ _ _ _ _ _ (omega (arith, c.in_ok-end.ensures.inside.0, c.in_ok-end.ensures.inside.1))
    (tests_stop _ _ _ (rw (first_plain a.t.now a.base a.i plain) (rw c.bin_at-bin.ensures at c.in_err-bin_rules.ensures)))

pub returns-then-bin : goal.returns-then-bin
unfolding read_bin
returns-then-bin c =
    let a = c.args in
    let k = byte a.t.now (a.base + 8 * a.i + 1) in
    let plain : (eqb k 0 || eqb k 2) ≡ true = rw c.bin_at-bin.ensures at c.if-bin.true in
    record_whole _ _ _ _ _ _ (omega (arith, c.in_ok-end.ensures.inside.0, c.in_ok-end.ensures.inside.1))
    (tests_on _ _ _ (rw (first_plain a.t.now a.base a.i plain) (rw c.bin_at-bin.ensures at c.in_ok-bin_rules.ensures)) (ap (λ (end : ℕ). Ok end) c.in_ok-end.ensures.inside.0))

pub returns-in_err-bin_rules-2 : goal.returns-in_err-bin_rules-2
unfolding read_bin
returns-in_err-bin_rules-2 c =
    handed _ _ c.from_residual-in_err-bin_rules-2.ensures
    ∙ record_whole _ _ _ _ _ _ (omega (arith, c.in_ok-end.ensures.inside.0, c.in_ok-end.ensures.inside.1))
    (tests_stop _ _ _ (rw (c.first_default-first.ensures, c.bin_at-bin.ensures) at c.in_err-bin_rules-2.ensures))

pub returns : goal.returns
unfolding read_bin
returns c =
    record_whole _ _ _ _ _ _ (omega (arith, c.in_ok-end.ensures.inside.0, c.in_ok-end.ensures.inside.1))
    (tests_on _ _ _ (rw (c.first_default-first.ensures, c.bin_at-bin.ensures) at c.in_ok-bin_rules-2.ensures) (ap (λ (end : ℕ). Ok end) c.in_ok-end.ensures.inside.0))
