use Rattle.layout.proofs.PlaceLaws.{transitions_laid}
use Rattle.layout.proofs.transition_section.Goals as goal

pub returns : goal.returns
returns c =
    let f = c.first_sections.ensures in
    let laid = transitions_laid f.points f.bins f.ranges c.next.ensures in
    record { value = laid.0; at_bound = laid.1 }
