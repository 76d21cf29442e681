use native.Mathlib.Omega.{arith}
use Rattle.layout.proofs.PlaceLaws.{product_small}
use borrow.Author.Rules.{rules}
use Rattle.layout.proofs.next.Goals as goal

pub overflow_mul-before : goal.overflow_mul-before
overflow_mul-before c = omega (arith, product_small c.args.before.count c.args.size (search rules) (search rules))

pub overflow_add-before : goal.overflow_add-before
overflow_add-before c = omega (arith, product_small c.args.before.count c.args.size (search rules) (search rules))

pub section_at-requires : goal.section_at-requires
section_at-requires c = omega (arith, product_small c.args.before.count c.args.size (search rules) (search rules))
