use Rattle.std.proofs.Common.{[], refl, ◌∙◌}
use Rattle.model.specs.Format.{tokens_of, cross_bin_head}
use Rattle.words.proofs.ByteSums.{byte-sum_from}
use Rattle.check_crosses.proofs.bins.owned_tokens.Goals as goal

pub returns : goal.returns
returns c = c.sum_bytes.ensures.0 ∙ byte-sum_from c.args.t.now tokens_of (cross_bin_head c.args.t.now []) 3 2 (λ at. refl) c.args.bins.at c.args.bins.count
