use Rattle.table.proofs.MeasureLaws.{measured-sound, measured-fault}
use mathlib.Core.Path.{◌∙◌}
use Rattle.fluviquen.proofs.fluviquen_measure.Goals as goal

pub returns-in-Ok : goal.returns-in-Ok
returns-in-Ok c =
    let e = measured-sound _ _ c.in-Ok.ensures in
    record { value = e.0; words_after = e.1; illegal_places_after = e.2; place_after = e.3 }

pub returns-in-Err : goal.returns-in-Err
returns-in-Err c =
    let e = measured-fault _ _ c.in-Err.ensures in
    record { value = c.from.ensures ∙ e.0; words_after = e.1; illegal_places_after = e.2; place_after = e.3 }
