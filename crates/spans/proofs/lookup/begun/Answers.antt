use lib.Dec.{leb}
use borrow.Author.Rules.{rules}
use Rattle.std.proofs.lemmas.List.Sorted.{IsPartitionPoint-from_clause}
use Rattle.spans.specs.Spans.{low_end}
use Rattle.spans.proofs.LookLaws.{parted, begun-at}
use Rattle.spans.proofs.lookup.begun.Goals as goal

pub returns : goal.returns
returns c =
    let a = c.args in
    let p = c.partition_point in
    begun-at a.spans.now c.requires a.x p.result p.ensures.bound
    (IsPartitionPoint-from_clause (λ w. leb (low_end w) a.x) _ _ p.ensures.partitioned (parted a.spans.now c.requires a.x) (λ b r q k. search rules))
