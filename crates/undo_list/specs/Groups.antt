-- The undo list as a plain list of what was done. Assumes nothing.
use Rattle.std.specs.Prelude.{◌≡◌, ℕ, ◌+◌, Bool, cond, List, [], ◌∷◌, ◌++◌, reverse, length, drop, Option, nat_lt, slice_index_or}

-- An insertion has place and count; a deletion has place, kept bytes and, by marker, its note.
pub data Held : Type 0 where
  PutIn : ℕ → ℕ → Held
  Took : ℕ → List ℕ → List (Option ℕ) → Held

-- The closed groups, oldest first, and the open one; in each the newest entry stands first.
pub record Groups : Type 0 where
  pub closed : List (List Held)
  pub opened : List Held

abbrev pub no_groups : Groups
no_groups = record { closed = []; opened = [] }

-- Whether a group is open.
abbrev pub has_open : Groups → Bool
has_open g = nat_lt 0 (length g.opened)

-- All entries, oldest first.
abbrev pub joined : List (List Held) → List Held → List Held
joined [] hs = reverse hs
joined (g ∷ gs) hs = reverse g ++ joined gs hs

abbrev pub kept_by : Held → ℕ
kept_by (PutIn p n) = 0
kept_by (Took p bytes distances) = length bytes

abbrev pub bytes_of : List Held → ℕ
bytes_of [] = 0
bytes_of (h ∷ hs) = kept_by h + bytes_of hs

-- The counts: entries, kept bytes, and groups with the open one.
unfoldable pub entries_in : Groups → ℕ
entries_in g = length (joined g.closed g.opened)

unfoldable pub bytes_in : Groups → ℕ
bytes_in g = bytes_of (joined g.closed g.opened)

abbrev pub groups_in : Groups → ℕ
groups_in g = length g.closed + cond (has_open g) 1 0

-- The entries of group j, newest first. The open group comes after the closed ones.
unfoldable pub group_at : Groups → ℕ → List Held
group_at g j = slice_index_or (g.closed ++ g.opened ∷ []) j []

-- One more entry, which opens a group where none is open.
abbrev pub recorded : Held → Groups → Groups
recorded h g = record { closed = g.closed; opened = h ∷ g.opened }

-- The open group closed, if there is one.
abbrev pub shut : Groups → Groups
shut g = record { closed = g.closed ++ g.opened ∷ []; opened = [] }

abbrev pub after_close : Groups → Groups
after_close g = cond (has_open g) (shut g) g

-- The k oldest closed groups dropped.
abbrev pub trimmed : ℕ → Groups → Groups
trimmed k g = record { closed = drop k g.closed; opened = g.opened }

-- The newest n entries of the open group dropped.
abbrev pub cut : ℕ → Groups → Groups
cut n g = record { closed = g.closed; opened = drop n g.opened }

-- Nothing is held.
pub record Empty (g : Groups) : Type 0 where
  pub groups : g ≡ no_groups
  pub entries : entries_in g ≡ 0
  pub bytes : bytes_in g ≡ 0
