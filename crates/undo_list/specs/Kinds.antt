-- What the kind of an entry says: its note of each marker, and how many bytes it keeps. Assumes nothing.
use Rattle.std.specs.Prelude.{ℕ, None, Option, slice_index_or}
use Rattle.undo_list.specs.declared.kind.Kind.{Kind}
use Rattle.undo_list.specs.declared.kind.Kind.TheVariants.{Insertion, Deletion}

-- An insertion notes no marker.
abbrev pub note : Kind → ℕ → Option ℕ
note Insertion k = None
note (Deletion distances) k = slice_index_or distances k None

-- A deletion keeps the bytes that it took out, an insertion keeps none.
abbrev pub kept_of : Kind → ℕ → ℕ
kept_of Insertion n = 0
kept_of (Deletion distances) n = n
