-- The measure is the number of tokens left. Assumes nothing.
use Rattle.products.proofs.expressions.+eval_all.Given as goal

abbrev pub decreases-eval_all : goal.decreases-eval_all
decreases-eval_all l = l.left
