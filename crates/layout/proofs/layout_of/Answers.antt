use Rattle.layout.proofs.PlaceLaws.{laid}
use Rattle.layout.proofs.layout_of.Goals as goal

pub returns : goal.returns
returns c =
    let f = c.first_sections-f.ensures in
    let placed = laid f.points f.bins f.ranges c.next-transitions.ensures c.next-sequences.ensures c.next-steps.ensures c.next-step_ranges.ensures c.next-crosses.ensures c.next-cross_bins.ensures c.next-tokens.ensures in
    record { value = placed.0; small = placed.1 }
