-- An answer by what it says: of bytes, the bytes themselves and not the memory that holds them.
-- Assumes nothing.
use Rattle.std.specs.Prelude.{ℕ, List, Ok, Err, vec_items, Option, Result}
use Rattle.places.specs.Refusals.{Fault}
use Rattle.calls.specs.declared.answer.Answer.{Answer}
use Rattle.calls.specs.declared.answer.Answer.TheVariants.{Done, Number, Byte, Bytes, Window, Refused}

-- An undo or redo answers a place, a region undo the entries undone and their groups, and an opening
-- a token.
pub data Reply : Type 0 where
  done : Reply
  number : ℕ → Reply
  byte : Option ℕ → Reply
  bytes : List ℕ → Reply
  window : ℕ → ℕ → Reply
  place : ℕ → Reply
  undone : ℕ → ℕ → Reply
  token : Reply
  refusal : Fault → Reply

abbrev pub reply_of : Answer → Reply
reply_of Done = done
reply_of (Number n) = number n
reply_of (Byte b) = byte b
reply_of (Bytes v) = bytes (vec_items v)
reply_of (Window b a) = window b a
reply_of (Refused f) = refusal f

-- A refused call says its fault, and an accepted one what it has to say.
abbrev pub said : Result (Unit {0}) Fault → Reply → Reply
said (Ok u) r = r
said (Err f) r = refusal f

abbrev pub said_number : Result ℕ Fault → Reply
said_number (Ok n) = number n
said_number (Err f) = refusal f
