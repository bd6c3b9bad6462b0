-- What the loops over edits answer on the way. Assumes nothing.
use Rattle.std.specs.Prelude.{◌≡◌, ℕ, ◌^◌, cond, List, ◌∷◌, length, Some, None, Ok, Err, Option, Result, nat_lt}
use Rattle.places.specs.declared.edit.Edit.{Edit}
use Rattle.places.specs.Refusals.{Fault}
use Rattle.store.specs.Edits.{answer}
use Rattle.store.specs.Refusals.{fault_at}
use Rattle.undo_list.specs.Groups.{Groups}
use Rattle.undo_list.specs.Limits.{group_check}
use Rattle.turns.specs.Faults.{fault_of, losses, rooms_check}

-- A fault, if there is one, as an answer.
abbrev pub verdict : Option Fault → Result (Unit {0}) Fault
verdict None = Ok tt
verdict (Some f) = Err f

-- The edit has room, and the others then have the length after it; or it has none.
abbrev pub Roomed : ℕ → ℕ → Edit → Result ℕ Fault → Type 0
Roomed len room e (Ok after) = (es : List Edit) → rooms_check len room (e ∷ es) ≡ rooms_check after room es
Roomed len room e (Err f) = (es : List Edit) → Err f ≡ answer (rooms_check len room (e ∷ es)) 0

-- The sum of what the edits take out, where the machine can hold it.
abbrev pub summed : List Edit → Option ℕ
summed es = cond (nat_lt (losses es) (2 ^ 64)) (Some (losses es)) None

-- The undo list takes the edits as a group of their own.
unfoldable pub list_fault : Groups → List Edit → Option Fault
list_fault g es = fault_of (group_check g (length es) (losses es)) 0
