-- A list of edits that are put to each check before the text is touched, each edit at its turn: the
-- length, the spans and the counts are those that the edits before it leave. Assumes nothing.
use Rattle.std.specs.Prelude.{ℕ, ◌+◌, List, [], ◌∷◌, length, Some, None, Ok, Err, Option, Result}
use Rattle.places.specs.declared.edit.Check.TheVariants.{Place, Window, Spans}
use Rattle.places.specs.declared.edit.Edit.{Edit}
use Rattle.places.specs.declared.edit.Edit.TheVariants.{Insertion, Deletion}
use Rattle.places.specs.declared.edit.Origin.TheVariants.{Undo}
use Rattle.places.specs.Refusals.{Fault}
use Rattle.places.specs.declared.faults.Refusal.{Refusal}
use Rattle.places.specs.DryRun.{edit_check, sight, put_to_all}
use Rattle.places.specs.Edits.{growth, loss, len_after}
use Rattle.store.specs.Refusals.{fault_at}
use Rattle.undo_list.specs.Limits.{count_check, group_check}
use Rattle.undo_list.specs.Groups.{Groups}
use Rattle.places.specs.Model.{Model}
use Rattle.turns.specs.Checks.{or_else, room_check}

-- The fault of a check at a place.
abbrev pub fault_of : Option Refusal → ℕ → Option Fault
fault_of None p = None
fault_of (Some why) p = Some (fault_at why p)

-- The first of two faults.
abbrev pub first_fault : Option Fault → Option Fault → Option Fault
first_fault None next = next
first_fault (Some f) next = Some f

-- The same fault at another place.
abbrev pub fault_moved : ℕ → Option Fault → Option Fault
fault_moved p None = None
fault_moved p (Some f) = Some (fault_at f.refusal p)

abbrev pub fault_in : Result (Unit {0}) Fault → Option Fault
fault_in (Ok u) = None
fault_in (Err f) = Some f

-- Count, to all the edits.
abbrev pub counts_check : List Edit → Option Refusal
counts_check [] = None
counts_check (e ∷ es) = or_else (count_check (growth e + loss e)) (counts_check es)

-- Capacity, to all the edits: no text in between is longer.
abbrev pub rooms_check : ℕ → ℕ → List Edit → Option Refusal
rooms_check len room [] = None
rooms_check len room (Insertion p n ∷ es) = or_else (room_check len room n) (rooms_check (len + n) room es)
rooms_check len room (Deletion p n ∷ es) = rooms_check (len_after (Deletion p n) len) room es

-- How many bytes the deletions among them keep.
abbrev pub losses : List Edit → ℕ
losses [] = 0
losses (e ∷ es) = loss e + losses es

-- Count to all, place to all, window to all, spans to all, capacity to all, then the undo list, which
-- takes them as a group of its own. A fault of the window or of a span has the place of the first edit
-- refused, any other has 0.
unfoldable pub edits_fault : Model → ℕ → Groups → List Edit → Option Fault
edits_fault m room g es =
    first_fault (fault_of (counts_check es) 0)
    (first_fault (fault_moved 0 (fault_in (put_to_all (edit_check Place) (sight Place m) es)))
    (first_fault (fault_in (put_to_all (edit_check Window) (sight Window m) es))
    (first_fault (fault_in (put_to_all (edit_check (Spans Undo)) (sight (Spans Undo) m) es))
    (first_fault (fault_of (rooms_check m.len room es) 0)
    (fault_of (group_check g (length es) (losses es)) 0)))))

-- A call that has a fault leaves the world as it was.
abbrev pub unless_fault : {A : Type 0} → Option Fault → A → A → A
unless_fault None new old = new
unless_fault (Some f) new old = old
