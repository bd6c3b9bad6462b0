-- What each call answers and leaves, over a text and a capacity. Assumes nothing.
use Rattle.std.specs.Prelude.{ℕ, List, length, take, drop, Ok, Err, vec_items, Option, Result}
use Rattle.store.specs.declared.faults.Fault.{Fault}
use Rattle.store.specs.declared.faults.Refusal.{Refusal}
use Rattle.store.specs.Edits.{answer, insert_check, delete_check, copy_check, byte_at, after_insert, after_delete}
use Rattle.corrections.specs.declared.calls.Answer.{Answer}
use Rattle.corrections.specs.declared.calls.Answer.TheVariants.{Done, Number, Byte, Bytes, Refused}
use Rattle.corrections.specs.declared.calls.Call.{Call}
use Rattle.corrections.specs.declared.calls.Call.TheVariants.{Insert, Delete, Length, Capacity, ByteAt, Copy}

-- An answer by what it says: of bytes, the bytes themselves and not the memory that holds them.
pub data Reply : Type 0 where
  done : Reply
  number : ℕ → Reply
  byte : Option ℕ → Reply
  bytes : List ℕ → Reply
  refusal : Fault Refusal → Reply

abbrev pub reply_of : Answer → Reply
reply_of Done = done
reply_of (Number n) = number n
reply_of (Byte b) = byte b
reply_of (Bytes v) = bytes (vec_items v)
reply_of (Refused f) = refusal f

-- A refused call says its fault, and an accepted one what it has to say.
abbrev pub outcome : Result (Unit {0}) (Fault Refusal) → Reply → Reply
outcome (Ok u) said = said
outcome (Err f) said = refusal f

-- The area of a copy has 32,768 bytes.
abbrev pub copy_reply : List ℕ → ℕ → ℕ → Reply
copy_reply t p n = outcome (answer (copy_check (length t) p n 32768) p) (bytes (take n (drop p t)))

abbrev pub call_reply : List ℕ → ℕ → Call → Reply
call_reply t room (Insert p bs) = outcome (answer (insert_check (length t) room p (length (vec_items bs))) p) done
call_reply t room (Delete p n) = outcome (answer (delete_check (length t) p n) p) done
call_reply t room Length = number (length t)
call_reply t room Capacity = number room
call_reply t room (ByteAt p) = byte (byte_at t p)
call_reply t room (Copy p n) = copy_reply t p n

abbrev pub call_text : List ℕ → ℕ → Call → List ℕ
call_text t room (Insert p bs) = after_insert t room p (vec_items bs)
call_text t room (Delete p n) = after_delete t p n
call_text t room Length = t
call_text t room Capacity = t
call_text t room (ByteAt p) = t
call_text t room (Copy p n) = t
