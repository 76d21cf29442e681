use Rattle.words.proofs.guards.bin_guard_ok.Goals as goal

pub returns : goal.returns
returns c = rw c.guard_ok.ensures
