-- What every undo list keeps true of the plain list that it holds. Assumes nothing.
use Rattle.std.specs.Prelude.{◌≡◌, ℕ, ◌<◌, ◌≤◌, true, [], length, None, slice_index_or}
use Rattle.places.specs.Near.{near}
use Rattle.undo_list.specs.Groups.{Held, PutIn, Took, Groups, joined, entries_in, bytes_in, groups_in}
use Rattle.undo_list.specs.Spell.{nothing}

-- An entry is of 1 to 4,096 bytes, and notes no marker farther off than that.
abbrev pub Fits : Held → Type 0
Fits (PutIn p n) = (1 ≤ n) × (n ≤ 4096)
Fits (Took p bytes distances) = (1 ≤ length bytes) × (length bytes ≤ 4096) × ((k : ℕ) → k < 16 → near (length bytes) (slice_index_or distances k None) ≡ true)

-- No closed group is empty, every entry fits, and no limit is passed.
pub record WellKept (g : Groups) : Type 0 where
  pub filled : (j : ℕ) → j < length g.closed → 0 < length (slice_index_or g.closed j [])
  pub fit : (i : ℕ) → i < entries_in g → Fits (slice_index_or (joined g.closed g.opened) i nothing)
  pub entries : entries_in g ≤ 512
  pub bytes : bytes_in g ≤ 16384
  pub groups : groups_in g ≤ 256
