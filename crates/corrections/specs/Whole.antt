-- Putting a whole text behind another. Assumes nothing.
use Rattle.std.specs.Prelude.{ℕ, ◌+◌, cond, Some, None, Option, nat_lt}
use Rattle.store.specs.declared.faults.Refusal.{Refusal}
use Rattle.store.specs.declared.faults.Refusal.TheVariants.{Capacity}

-- n bytes behind a text of a given length: refused only where they pass the capacity.
abbrev pub append_check : ℕ → ℕ → ℕ → Option Refusal
append_check len room n = cond (nat_lt room (len + n)) (Some Capacity) None
