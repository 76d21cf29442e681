use mathlib.Core.Path.{ap}
use Rattle.layout.specs.declared.Layout.{Layout}
use Rattle.layout.specs.Places.{layout_of}
use Rattle.coverage.proofs.items.records_of.Goals as goal

pub returns : goal.returns
unfolding layout_of
returns c =
    let e = c.layout_of-l.ensures.value in
    record {
      points = ap (λ (l : Layout). l.points) e;
      point_count = ap (λ (l : Layout). l.point_count) e;
      crosses = ap (λ (l : Layout). l.crosses) e;
      cross_count = ap (λ (l : Layout). l.cross_count) e;
    }
