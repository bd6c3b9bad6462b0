-- The text and the capacity of a gap buffer. Assumes nothing.
use Rattle.std.specs.Prelude.{ℕ, List, vec_items, vec_len}
use Rattle.gap_buffer.specs.Gaps.{gapped}
use Rattle.gap_buffer.specs.declared.buffer.GapBuffer.{GapBuffer}

abbrev pub gap_text : GapBuffer → List ℕ
gap_text g = gapped (vec_items g.memory) g.gap_start g.gap_end

abbrev pub gap_room : GapBuffer → ℕ
gap_room g = vec_len g.memory
