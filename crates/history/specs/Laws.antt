-- What every list of calls keeps, from the making on. Assumes nothing.
use Rattle.std.specs.Prelude.{◌≡◌, ℕ, ◌≤◌, Bool, true, false, List, [], ◌∷◌, map, length}
use Rattle.places.specs.declared.edit.Edit.{Edit}
use Rattle.places.specs.declared.edit.Edit.TheVariants.{Insertion, Deletion}
use Rattle.places.specs.DryRun.{EachFits}
use Rattle.calls.specs.declared.call.Call.{Call}
use Rattle.calls.specs.Replies.{Reply, done, number, byte, bytes, window, place, undone, token, refusal}
use Rattle.calls.specs.Said.{Said, said_by, insert, delete, set_marker, boundary, undo, redo, region_undo, trim, protect, unprotect, narrow, widen, open_change, accept, cancel, length_asked, capacity_asked, byte_asked, copy, marker_asked, window_asked, spans_asked, entries_asked, groups_asked}
use Rattle.session.specs.Region.{region_walk}
use Rattle.session.specs.Undo.{inverse_of, undo_group, redo_group}
use Rattle.session.specs.World.{World, new_world}
use Rattle.history.specs.Runs.{world_after}
use Rattle.history.specs.Steps.{reply}

abbrev pub is_accepted : Reply → Bool
is_accepted done = true
is_accepted (number n) = true
is_accepted (byte b) = true
is_accepted (bytes bs) = true
is_accepted (window b a) = true
is_accepted (place c) = true
is_accepted (undone n g) = true
is_accepted token = true
is_accepted (refusal f) = false

-- The edits that a call makes where it is accepted, in their order.
abbrev pub edits_by : World → Said → List Edit
edits_by w (insert p bs) = Insertion p (length bs) ∷ []
edits_by w (delete p n) = Deletion p n ∷ []
edits_by w (set_marker m p) = []
edits_by w boundary = []
edits_by w undo = map inverse_of (undo_group w)
edits_by w redo = map inverse_of (redo_group w)
edits_by w (region_undo s e g) = map inverse_of (region_walk w s e g).chosen
edits_by w (trim k) = []
edits_by w (protect s e) = []
edits_by w (unprotect s e) = []
edits_by w (narrow s e) = []
edits_by w widen = []
edits_by w open_change = []
edits_by w accept = []
edits_by w cancel = map inverse_of w.groups.opened
edits_by w length_asked = []
edits_by w capacity_asked = []
edits_by w (byte_asked p) = []
edits_by w (copy p n) = []
edits_by w (marker_asked m) = []
edits_by w window_asked = []
edits_by w spans_asked = []
edits_by w entries_asked = []
edits_by w groups_asked = []

-- The markers, spans and window are those of a text of this length, which the capacity has room for.
pub record Coherent (w : World) : Type 0 where
  pub long : w.places.len ≡ length w.text
  pub within : length w.text ≤ w.room
  pub limit : w.room ≤ 32768

-- After every list of calls from the making on: the record of places has the text's length, the text is
-- no longer than the capacity, and every edit of every further call that is accepted fits at its turn.
pub record Kept (w : World) : Type 0 where
  pub coherent : Coherent w
  pub fits : (call : Call) → is_accepted (reply w (said_by call)) ≡ true → EachFits w.places (edits_by w (said_by call))

abbrev pub RunsKeep : Type 0
RunsKeep = (text : List ℕ) (room : ℕ) (calls : List Call) → length text ≤ room → room ≤ 32768 → Kept (world_after (new_world text room) (map said_by calls))
