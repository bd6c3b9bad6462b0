-- What a piece table stands for: its text and its capacity. Assumes nothing.
use Rattle.std.specs.Prelude.{ℕ, List, vec_items}
use Rattle.piece_table.specs.Pieces.{spelled}
use Rattle.piece_table.specs.declared.table.PieceTable.{PieceTable}

abbrev pub table_text : PieceTable → List ℕ
table_text t = spelled (vec_items t.live) (vec_items t.pieces.list)

-- Each half of the memory can hold the whole text.
abbrev pub table_room : PieceTable → ℕ
table_room t = t.room
