use Rattle.std.proofs.Common.{refl, ◌∙◌}
use Rattle.model.specs.Format.{cross_bins_owned, cross_head}
use Rattle.words.proofs.ByteSums.{byte-sum_from}
use Rattle.check_crosses.proofs.bins.owned_bins.Goals as goal

pub returns : goal.returns
returns c = (c.sum_bytes.ensures.0 ∙ byte-sum_from c.args.t.now cross_bins_owned (cross_head c.args.t.now) 13 12 (λ at. refl) c.args.crosses.at c.args.crosses.count, c.sum_bytes.ensures.1)
