use Rattle.std.proofs.Common.{◌≡◌, drop}
use Rattle.turns.specs.Faults.{rooms_check}
use Rattle.turns.proofs.room.check_rooms.Given as goal

abbrev pub invariant-loop-edit : goal.invariant-loop-edit
invariant-loop-edit l = rooms_check l.now_long l.room (drop l.edit-index l.edits) ≡ rooms_check l.initial.now_long l.room l.edits
