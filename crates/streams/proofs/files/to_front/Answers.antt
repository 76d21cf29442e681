use Rattle.std.proofs.Common.{◌+◌, ◌-◌, take, drop, length-drop, length-take-le, sym, ap, ◌∙◌, ◌++◌, arith}
use Rattle.arrays.specs.Put.{put}
use Rattle.streams.proofs.files.to_front.Goals as goal

pub returns-clause-buf_after : goal.returns-clause-buf_after
unfolding put
returns-clause-buf_after c =
    let l = c.args.buf.now in
    let n = c.args.to - c.args.from in
    let size = length-take-le n (drop c.args.from l) (omega (arith, length-drop c.args.from l)) in
    c.copy_within.ensures.after ∙ ap (λ k. take n (drop c.args.from l) ++ drop (0 + k) l) (sym size)
