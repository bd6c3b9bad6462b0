-- How a refusal and a fault are written. Assumes nothing.
use Rattle.std.specs.Prelude.{ℕ, List, ◌++◌, codes, decimal}
use Rattle.store.specs.declared.faults.Fault.{Fault}
use Rattle.store.specs.declared.faults.Refusal.{Refusal}
use Rattle.store.specs.Refusals.{number, layer}
use Rattle.store.specs.declared.faults.Refusal.TheVariants.{Count, Place, Area, Capacity}

-- The name of the check in the table of refusals.
abbrev pub check_name : Refusal → List ℕ
check_name Count = codes "count"
check_name Place = codes "place"
check_name Area = codes "area"
check_name Capacity = codes "capacity"

-- As "4 (place), layer 1, place 99", from the number, the layer and the name of each check.
abbrev pub shown_fault : {R : Type 0} → (R → ℕ) → (R → ℕ) → (R → List ℕ) → Fault R → List ℕ
shown_fault number layer name f =
    decimal (number f.refusal) ++ (codes " (" ++ (name f.refusal ++ (codes "), layer " ++ (decimal (layer f.refusal) ++ (codes ", place " ++ decimal f.place)))))

-- The fault of a store.
abbrev pub fault_form : Fault Refusal → List ℕ
fault_form f = shown_fault number layer check_name f
