use Rattle.std.proofs.Common.{◌≡◌, ◌+◌, take}
use Rattle.piece_table.specs.Pieces.{total}
use Rattle.piece_table.proofs.pieces.walk.Given as goal

abbrev pub invariant-loop-i : goal.invariant-loop-i
invariant-loop-i l = total (take (l.from + l.i) l.pieces) + l.offset ≡ total (take l.from l.pieces) + l.left
