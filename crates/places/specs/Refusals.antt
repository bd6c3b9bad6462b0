-- The number and the layer of each refusal, the type of the fault of a refused call, and how a store's refusals
-- and faults become the session's. Assumes nothing.
use Rattle.std.specs.Prelude.{ℕ, Some, None, Ok, Err, Option, Result}
use Rattle.store.specs.declared.faults.Fault as faults
use Rattle.store.specs.declared.faults.Refusal as store-refusals
use Rattle.store.specs.declared.faults.Refusal.TheVariants as store-refusal
use Rattle.store.specs.Refusals.{fault_at}
use Rattle.places.specs.declared.faults.Refusal.{Refusal}
use Rattle.places.specs.declared.faults.Refusal.TheVariants.{State, Argument, Count, Place, Area, Presence, SpanTable, Window, Spans, Capacity, UndoList}

abbrev pub number : Refusal → ℕ
number State = 1
number Argument = 2
number Count = 3
number Place = 4
number Area = 5
number Presence = 6
number SpanTable = 7
number Window = 8
number Spans = 9
number Capacity = 10
number UndoList = 11

-- Layer 1 is the store, layer 2 the session.
abbrev pub layer : Refusal → ℕ
layer State = 2
layer Argument = 2
layer Count = 1
layer Place = 1
layer Area = 1
layer Presence = 2
layer SpanTable = 2
layer Window = 2
layer Spans = 2
layer Capacity = 1
layer UndoList = 2

-- A refused call of a session.
abbrev pub Fault : Type 0
Fault = faults.Fault Refusal

-- A store's refusal is the session's of the same name.
abbrev pub lifted : store-refusals.Refusal → Refusal
lifted store-refusal.Count = Count
lifted store-refusal.Place = Place
lifted store-refusal.Area = Area
lifted store-refusal.Capacity = Capacity

abbrev pub lifted_fault : faults.Fault store-refusals.Refusal → Fault
lifted_fault f = fault_at (lifted f.refusal) f.place

-- The answer of a call: what was asked for, or the fault at the call's place.
abbrev pub outcome : {A : Type 0} → Option Refusal → ℕ → A → Result A Fault
outcome None p value = Ok value
outcome (Some why) p value = Err (fault_at why p)
