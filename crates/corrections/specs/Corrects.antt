-- A text corrected by a list of calls. Assumes nothing.
use Rattle.std.specs.Prelude.{◌≡◌, ℕ, ◌+◌, ◌<◌, ◌≤◌, List, ◌++◌, map, length, vec_items}
use Rattle.store.specs.Refusals.{fault_at}
use Rattle.store.specs.declared.faults.Refusal.TheVariants.{Capacity}
use Rattle.corrections.specs.declared.calls.Call.{Call}
use Rattle.corrections.specs.declared.correct.Corrected.{Corrected}
use Rattle.corrections.specs.declared.correct.Trouble.{Trouble}
use Rattle.corrections.specs.declared.correct.Trouble.TheVariants.{TooLong, NoMemory}
use Rattle.corrections.specs.Replies.{reply_of}
use Rattle.corrections.specs.Runs.{Stopped, replies, text_after}

-- The store held t, the bytes to start from fitted behind it, every call was answered in its turn,
-- and the text that was read out, and that the store holds now, is the one after the calls.
pub record Corrects (t : List ℕ) (room : ℕ) (start : List ℕ) (calls : List Call) (v : Corrected) (u : List ℕ) : Type 0 where
  pub fits : length t + length start ≤ room
  pub said : map reply_of (vec_items v.answers) ≡ replies (t ++ start) room calls
  pub read : vec_items v.text ≡ text_after (t ++ start) room calls
  pub left : u ≡ text_after (t ++ start) room calls

-- A text too long to start from changes nothing. Where memory is wanting, some first calls were
-- done, and no other.
abbrev pub Troubled : Trouble → List ℕ → ℕ → List ℕ → List Call → List ℕ → Type 0
Troubled (TooLong f) t room start calls u = (room < length t + length start) × (f ≡ fault_at Capacity (length t)) × (u ≡ t)
Troubled NoMemory t room start calls u = Stopped (t ++ start) room calls u
