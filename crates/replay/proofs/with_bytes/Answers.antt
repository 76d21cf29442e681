use Rattle.refusals.proofs.CallLaws.{table-known, known-accepted}
use Rattle.replay.proofs.with_bytes.Goals as goal

pub with_table-requires : goal.with_table-requires
with_table-requires c =
    let e = c.in-Ok.ensures in
    (known-accepted _ (table-known _ _ e.value).0, e.few)
