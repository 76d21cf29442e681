use Rattle.layout.proofs.PlaceLaws.{bins_laid}
use Rattle.layout.proofs.bin_sections.Goals as goal

pub returns : goal.returns
returns c =
    let f = c.first_sections-f.ensures in
    let placed = bins_laid f.points f.bins f.ranges in
    record { value = placed.0; small_bins = placed.1 }
