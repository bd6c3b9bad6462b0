-- How long a text is that has a gap in its memory. It stands here because the store's law that a text is
-- within its capacity rests on it.
use Rattle.std.specs.Prelude.{◌≡◌, ℕ, ◌+◌, ◌-◌, ◌≤◌, List, length}
use Rattle.std.proofs.Common.{arith, length-append, length-take, length-drop}
use Rattle.gap_buffer.specs.Gaps.{gapped}

pub length_gapped : (m : List ℕ) (a b : ℕ) → a ≤ length m → length (gapped m a b) ≡ a + (length m - b)
length_gapped m a b h = simp (length-append, length-take, length-drop) (omega arith)
