-- Checks, one after the other. Assumes nothing.
use Rattle.std.specs.Prelude.{ℕ, ◌+◌, cond, Some, None, Option, nat_lt}
use Rattle.places.specs.declared.faults.Refusal.{Refusal}
use Rattle.places.specs.declared.faults.Refusal.TheVariants.{Capacity}

-- The first of two checks to fail answers.
abbrev pub or_else : Option Refusal → Option Refusal → Option Refusal
or_else None next = next
or_else (Some why) next = Some why

-- Capacity: n bytes more do not make the text longer than it.
abbrev pub room_check : ℕ → ℕ → ℕ → Option Refusal
room_check len room n = cond (nat_lt room (len + n)) (Some Capacity) None
