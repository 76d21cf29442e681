-- `sequences::load` meets its contract. Assumes nothing.
use mathlib.Core.Path.{ap, ◌∙◌}
use mathlib.Core.List.{List, ◌++◌}
use Prim.Native.Nat.{ℕ}
use lib.ListN.{length, drop, replicate}
use Rattle.model.proofs.Lists.{drop-replicate}
use Rattle.sequences.proofs.load.Goals as goal

pub returns : goal.returns
returns c =
    let xs = c.args.words.now in
    ap (λ (l : List ℕ). l ++ drop (length xs) (replicate 32 0)) c.copy_from_slice.ensures.after ∙ ap (λ (l : List ℕ). xs ++ l) (drop-replicate (length xs) 32 0)
