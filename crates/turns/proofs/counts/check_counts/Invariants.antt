use Rattle.std.proofs.Common.{◌≡◌, drop}
use Rattle.turns.specs.Faults.{counts_check}
use Rattle.turns.proofs.counts.check_counts.Given as goal

abbrev pub invariant-loop-edit : goal.invariant-loop-edit
invariant-loop-edit l = counts_check (drop l.edit-index l.edits) ≡ counts_check l.edits
