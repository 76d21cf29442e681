use mathlib.Core.Path.{◌≡◌, refl, ap, sym, ◌∙◌}
use Prim.Native.Nat.{◌+◌, ◌*◌, ◌<◌}
use native.Mathlib.Omega.{arith}
use borrow.Author.Rules.{rules}
use lib.ListN.{length, drop, get_or}
use Rattle.model.specs.Sampling.{longer}
use Rattle.sequences.specs.Shapes.{words_of}
use Rattle.sequences.proofs.Shapes.{run-shape}
use Rattle.sequences.proofs.Turns.{mosts_turn, shape_turn, shape-end}
use Rattle.sequences.proofs.Run.next.Goals as goal
use Rattle.sequences.proofs.Run.next.Goals.{After-old-1, In-loop-s}

long : (c : After-old-1) → length c.args.self.words ≡ 32
long c = search rules

-- a step has two numbers
two : (c : In-loop-s) → 2 * c.loop-s.s + 1 < length c.args.shape.now
two c = let e = c.requires.even in omega arith

-- the mosts that are left: this step's, and the rest
turn : (c : In-loop-s) →
    let shape = c.args.shape.now in
    let s = c.loop-s.s in
    words_of (drop (2 * s) shape) ≡ get_or shape (2 * s + 1) 0 + words_of (drop (2 * s + 2) shape)
turn c = mosts_turn c.args.shape.now (2 * c.loop-s.s) (two c)

pub loop-s-init : goal.loop-s-init
loop-s-init c = (refl, omega arith, refl)

pub bounds-shape-s-in-loop-s : goal.bounds-shape-s-in-loop-s
bounds-shape-s-in-loop-s c = two (goal.at.bounds-shape-s-in-loop-s c).In-loop-s

pub step_words-requires : goal.step_words-requires
step_words-requires c =
    let n = long (goal.at.step_words-requires c).After-old-1 in
    omega (arith, turn (goal.at.step_words-requires c).In-loop-s)

pub complete-enter-requires : goal.complete-enter-requires
complete-enter-requires c =
    let n = long (goal.at.complete-enter-requires c).After-old-1 in
    omega (arith, turn (goal.at.complete-enter-requires c).In-loop-s)

pub overflow_add-at : goal.overflow_add-at
overflow_add-at c = omega (arith, turn (goal.at.overflow_add-at c).In-loop-s)

pub loop-s-preserved : goal.loop-s-preserved
loop-s-preserved c =
    let l = c.loop-s in
    let a = c.args in
    let n = long (goal.at.loop-s-preserved c).After-old-1 in
    let w = c.step_words in
    let t = turn (goal.at.loop-s-preserved c).In-loop-s in
    let e : 2 * (l.s + 1) ≡ 2 * l.s + 2 = omega arith in (
      w.auto.words ∙ l.invariant.0,
      rw e (omega arith),
      rw e (shape_turn a.shape.now (2 * l.s) l.at l.left l.enter (longer c.complete-enter.result) a.self.words l.words w.new.words
          (two (goal.at.loop-s-preserved c).In-loop-s) (omega arith) (omega arith) w.ensures (ap longer c.complete-enter.ensures)
          ∙ l.invariant.2),
    )

pub returns : goal.returns
returns c =
    let l = c.loop-s in
    let a = c.args in
    let v = c.requires.even in
    λ ss r e d.
    sym (shape-end a.shape.now (2 * l.s) l.at l.left l.enter (drop l.at a.self.words) l.words (omega arith))
    ∙ l.invariant.2
    ∙ run-shape a.shape.now a.admitted ss r a.self.words c.requires (long (goal.at.returns c).After-old-1) e d
