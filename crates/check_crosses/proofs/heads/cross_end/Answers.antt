use mathlib.Core.Path.{refl}
use Rattle.words.proofs.Laws.{passing, passed}
use Rattle.check_crosses.specs.Crosses.{cross_end}
use Rattle.check_crosses.proofs.heads.cross_end.Goals as goal

pub returns-then-guarded-reached : goal.returns-then-guarded-reached
unfolding cross_end passing
returns-then-guarded-reached c = passed _ _ _ _ refl c.if-guarded-reached.true (rw (c.guard_ok-guarded.ensures, c.inside.ensures, c.read4-reached.ensures, c.inside-few.ensures, c.points_differ-different.ensures))
