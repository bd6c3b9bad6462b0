use Rattle.std.proofs.Common.{◌≡◌, ◌+◌, ◌^◌, ◌<◌, drop}
use Rattle.turns.specs.Faults.{losses}
use Rattle.turns.proofs.counts.losses.Given as goal

abbrev pub invariant-loop-edit : goal.invariant-loop-edit
invariant-loop-edit l = (l.sum + losses (drop l.edit-index l.edits) ≡ losses l.edits) × (l.sum < 2 ^ 64)
