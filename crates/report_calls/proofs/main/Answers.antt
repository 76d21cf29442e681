use Rattle.refusals.proofs.CallLaws.{table-known, known-accepted}
use Rattle.report_calls.proofs.main.Goals as goal

pub failed-requires : goal.failed-requires
failed-requires c = known-accepted _ (table-known _ _ c.in-Ok.ensures.value).0
