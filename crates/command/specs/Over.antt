-- A text corrected over a new store of a given capacity, whatever its make. Assumes nothing.
use Rattle.std.specs.Prelude.{◌≡◌, ℕ, ◌<◌, ◌≤◌, List, map, length, vec_items}
use Rattle.store.specs.Refusals.{fault_at}
use Rattle.store.specs.declared.faults.Refusal.TheVariants.{Capacity}
use Rattle.corrections.specs.declared.calls.Call.{Call}
use Rattle.corrections.specs.declared.correct.Corrected.{Corrected}
use Rattle.corrections.specs.declared.correct.Trouble.{Trouble}
use Rattle.corrections.specs.declared.correct.Trouble.TheVariants.{TooLong, NoMemory}
use Rattle.corrections.specs.Replies.{reply_of}
use Rattle.corrections.specs.Runs.{replies, text_after}

pub record CorrectsOver (room : ℕ) (start : List ℕ) (calls : List Call) (v : Corrected) : Type 0 where
  pub fits : length start ≤ room
  pub said : map reply_of (vec_items v.answers) ≡ replies start room calls
  pub read : vec_items v.text ≡ text_after start room calls

-- Only a text that is too long, or want of memory, keeps a text from being corrected.
abbrev pub TroubledOver : Trouble → ℕ → List ℕ → Type 0
TroubledOver (TooLong f) room start = (room < length start) × (f ≡ fault_at Capacity 0)
TroubledOver NoMemory room start = Unit {0}
