use Rattle.std.proofs.Common.{◌≡◌, ◌+◌, ◌<◌, ◌≤◌, take}
use Rattle.store.specs.Edits.{copied}
use Rattle.piece_table.specs.Pieces.{spelled, total}
use Rattle.piece_table.proofs.spelling.Spelling.copy_out.Given as goal

-- The first `done` bytes are there; while more are wanted, the next is `skip` bytes ahead.
abbrev pub invariant-loop-q : goal.invariant-loop-q
invariant-loop-q l = (l.done ≤ l.n) × (l.area ≡ copied (spelled l.self-inside.memory.now l.self-inside.pieces.now) l.p l.done l.initial.area) × (l.done < l.n → total (take l.q-index l.self-inside.pieces.now) + l.skip ≡ l.p + l.done)
