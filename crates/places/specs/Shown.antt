-- How a refusal and a fault are written. Assumes nothing.
use Rattle.std.specs.Prelude.{ℕ, List, codes}
use Rattle.store.specs.Shown.{shown_fault}
use Rattle.places.specs.Refusals.{number, layer, Fault}
use Rattle.places.specs.declared.faults.Refusal.{Refusal}
use Rattle.places.specs.declared.faults.Refusal.TheVariants.{State, Argument, Count, Place, Area, Presence, SpanTable, Window, Spans, Capacity, UndoList}

-- The name of the check in the table of refusals.
abbrev pub check_name : Refusal → List ℕ
check_name State = codes "state"
check_name Argument = codes "argument"
check_name Count = codes "count"
check_name Place = codes "place"
check_name Area = codes "area"
check_name Presence = codes "presence"
check_name SpanTable = codes "span table"
check_name Window = codes "window"
check_name Spans = codes "spans"
check_name Capacity = codes "capacity"
check_name UndoList = codes "undo list"

-- As "8 (window), layer 2, place 99".
abbrev pub fault_form : Fault → List ℕ
fault_form f = shown_fault number layer check_name f
