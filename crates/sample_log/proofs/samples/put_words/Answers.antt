use Rattle.std.proofs.Common.{◌≡◌, ℕ, ◌+◌, ◌-◌, ◌*◌, ◌<◌, List, length, length-set, set, sym, ◌∙◌, arith}
use Rattle.model.specs.Format.{u32}
use Rattle.model.specs.Raw.{rows}
use Rattle.model.proofs.RawLaws.{rows_turn, rows_end}
use Rattle.arrays.specs.Put.{put}
use Rattle.arrays.proofs.PutLaws.{put-nil, put-cons}
use Rattle.sample_log.proofs.samples.put_words.Goals as goal

step : (s : List ℕ) (at from n i v : ℕ) (l : List ℕ) → v ≡ u32 s (from + 4 * i) → i < n → at + i < length l → put (at + (i + 1)) (rows (u32 s) 4 (from + 4 * (i + 1)) (n - (i + 1))) (set l (at + i) v) ≡ put (at + i) (rows (u32 s) 4 (from + 4 * i) (n - i)) l
step s at from n i v l d h k =
    let e : at + (i + 1) ≡ at + i + 1 = omega arith in
    rw (rows_turn (u32 s) 4 from n i h, e, ← d) (put-cons (at + i) v (rows (u32 s) 4 (from + 4 * (i + 1)) (n - (i + 1))) l k)

pub loop-i-preserved : goal.loop-i-preserved
loop-i-preserved c =
    let l = c.loop-i in
    let a = c.args in
    (omega arith, simp length-set l.invariant.1, step a.bytes.now a.at a.from a.n l.i c.read4.result l.words c.read4.ensures (omega arith) (omega arith) ∙ l.invariant.2)

pub returns : goal.returns
returns c =
    let l = c.loop-i in
    let a = c.args in
    (omega arith, sym (put-nil (a.at + l.i) l.words) ∙ (rw (rows_end (u32 a.bytes.now) 4 (a.from + 4 * l.i) a.n l.i (omega arith)) at l.invariant.2))
