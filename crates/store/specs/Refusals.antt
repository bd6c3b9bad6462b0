-- The number and the layer of each refusal of a store, and the fault that a refused call answers.
-- Assumes nothing.
use Rattle.std.specs.Prelude.{ℕ}
use Rattle.store.specs.declared.faults.Fault.{Fault}
use Rattle.store.specs.declared.faults.Refusal.{Refusal}
use Rattle.store.specs.declared.faults.Refusal.TheVariants.{Count, Place, Area, Capacity}

abbrev pub number : Refusal → ℕ
number Count = 3
number Place = 4
number Area = 5
number Capacity = 10

-- Layer 1 is the store.
abbrev pub layer : Refusal → ℕ
layer Count = 1
layer Place = 1
layer Area = 1
layer Capacity = 1

-- The fault of a call that a check refuses, whatever layer the check is of.
abbrev pub fault_at : {R : Type 0} → R → ℕ → Fault R
fault_at why p = record { refusal = why; place = p }
