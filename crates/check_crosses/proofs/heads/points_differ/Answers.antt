use Rattle.std.proofs.Common.{ℕ, sym, rules, ◌+◌, ◌∙◌}
use Rattle.model.specs.Format.{byte}
use Rattle.check_crosses.proofs.CrossLaws.{in-stop, in-on, in-done, different-stop, different-on, different-done}
use Rattle.check_crosses.proofs.heads.points_differ.Goals as goal

pub returns-then-inside : goal.returns-then-inside
returns-then-inside c =
    let f = λ (k : ℕ). byte c.args.t.now (c.args.at + 1 + k) in
    let e = in-stop f (f c.loop-i.i) _ _ _ c.loop-j.invariant c.loop-j-test.true (sym c.inside.ensures ∙ c.if-inside.true ∙ c.inside-in-loop-j.ensures) in
    different-stop f _ _ _ c.loop-i.invariant.2 c.loop-i-test.true e

pub loop-j-preserved : goal.loop-j-preserved
loop-j-preserved c =
    let f = λ (k : ℕ). byte c.args.t.now (c.args.at + 1 + k) in
    in-on f (f c.loop-i.i) _ _ _ c.loop-j.invariant c.loop-j-test.true (λ e. c.if-inside.false (c.inside.ensures ∙ e ∙ sym c.inside-in-loop-j.ensures))

pub loop-i-preserved : goal.loop-i-preserved
loop-i-preserved c =
    let f = λ (k : ℕ). byte c.args.t.now (c.args.at + 1 + k) in
    (search rules, search rules, different-on f _ _ _ c.loop-i.invariant.2 c.loop-i-test.true (in-done f (f c.loop-i.i) _ _ _ c.loop-j.invariant c.loop-j-test.false))

pub returns : goal.returns
returns c = different-done (λ (k : ℕ). byte c.args.t.now (c.args.at + 1 + k)) _ _ _ c.loop-i.invariant.2 c.loop-i-test.false
