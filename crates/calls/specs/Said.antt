-- A call by what it says: of bytes, the bytes themselves and not the memory that holds them. Every
-- call of the rules has its form here; those that no list can hold yet have no call behind them.
-- Assumes nothing.
use Rattle.std.specs.Prelude.{ℕ, List, vec_items}
use Rattle.calls.specs.declared.call.Call.{Call}
use Rattle.calls.specs.declared.call.Call.TheVariants.{Insert, Delete, Set, Boundary, Trim, Protect, Unprotect, Narrow, Widen, Length, Capacity, ByteAt, Copy, Marker, Window, Spans, Entries, Groups}

pub data Said : Type 0 where
  insert : ℕ → List ℕ → Said
  delete : ℕ → ℕ → Said
  set_marker : ℕ → ℕ → Said
  boundary : Said
  undo : Said
  redo : Said
  region_undo : ℕ → ℕ → ℕ → Said
  trim : ℕ → Said
  protect : ℕ → ℕ → Said
  unprotect : ℕ → ℕ → Said
  narrow : ℕ → ℕ → Said
  widen : Said
  open_change : Said
  accept : Said
  cancel : Said
  length_asked : Said
  capacity_asked : Said
  byte_asked : ℕ → Said
  copy : ℕ → ℕ → Said
  marker_asked : ℕ → Said
  window_asked : Said
  spans_asked : Said
  entries_asked : Said
  groups_asked : Said

abbrev pub said_by : Call → Said
said_by (Insert p bs) = insert p (vec_items bs)
said_by (Delete p n) = delete p n
said_by (Set m p) = set_marker m p
said_by Boundary = boundary
said_by (Trim k) = trim k
said_by (Protect s e) = protect s e
said_by (Unprotect s e) = unprotect s e
said_by (Narrow s e) = narrow s e
said_by Widen = widen
said_by Length = length_asked
said_by Capacity = capacity_asked
said_by (ByteAt p) = byte_asked p
said_by (Copy p n) = copy p n
said_by (Marker m) = marker_asked m
said_by Window = window_asked
said_by Spans = spans_asked
said_by Entries = entries_asked
said_by Groups = groups_asked
