use Rattle.std.proofs.Common.{◌≡◌, ◌≤◌, ◌++◌, take, vec_items, vec_capacity}
use Rattle.piece_table.specs.Pieces.{spelled}
use Rattle.piece_table.proofs.spelling.Spelling.append_to.Given as goal

abbrev pub invariant-loop-q : goal.invariant-loop-q
invariant-loop-q l = (vec_items l.to ≡ vec_items l.initial.to ++ spelled l.self-inside.memory.now (take l.q-index l.self-inside.pieces.now)) × (vec_capacity l.initial.to ≤ vec_capacity l.to)
