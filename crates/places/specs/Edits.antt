-- An edit, as a length sees it. Assumes nothing.
use Rattle.std.specs.Prelude.{ℕ, ◌+◌, ◌-◌}
use Rattle.places.specs.declared.edit.Edit.{Edit}
use Rattle.places.specs.declared.edit.Edit.TheVariants.{Insertion, Deletion}

-- How many bytes a text gains by an edit.
abbrev pub growth : Edit → ℕ
growth (Insertion p n) = n
growth (Deletion p n) = 0

-- How many it loses.
abbrev pub loss : Edit → ℕ
loss (Insertion p n) = 0
loss (Deletion p n) = n

-- How long a text is after an edit.
abbrev pub len_after : Edit → ℕ → ℕ
len_after (Insertion p n) len = len + n
len_after (Deletion p n) len = len - n

-- The call's place, and how far from the front the edit reaches: an insertion touches its place
-- alone, a deletion all of its range.
abbrev pub place_of : Edit → ℕ
place_of (Insertion p n) = p
place_of (Deletion p n) = p

abbrev pub reach : Edit → ℕ
reach (Insertion p n) = p
reach (Deletion p n) = p + n
