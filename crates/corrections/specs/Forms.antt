-- The plain form of a call and of an answer. Assumes nothing.
use Rattle.std.specs.Prelude.{ℕ, List, ◌++◌, Some, None, vec_items, codes, decimal}
use Rattle.line_parts.specs.Quotes.{quoted}
use Rattle.store.specs.Shown.{fault_form}
use Rattle.corrections.specs.declared.calls.Answer.{Answer}
use Rattle.corrections.specs.declared.calls.Answer.TheVariants.{Done, Number, Byte, Bytes, Refused}
use Rattle.corrections.specs.declared.calls.Call.{Call}
use Rattle.corrections.specs.declared.calls.Call.TheVariants.{Insert, Delete, Length, Capacity, ByteAt, Copy}

abbrev pub call_form : Call → List ℕ
call_form (Insert p bs) = codes "insert " ++ (decimal p ++ (codes " " ++ quoted (vec_items bs)))
call_form (Delete p n) = codes "delete " ++ (decimal p ++ (codes " " ++ decimal n))
call_form Length = codes "length"
call_form Capacity = codes "capacity"
call_form (ByteAt p) = codes "byte " ++ decimal p
call_form (Copy p n) = codes "copy " ++ (decimal p ++ (codes " " ++ decimal n))

abbrev pub answer_form : Answer → List ℕ
answer_form Done = codes "done"
answer_form (Number n) = decimal n
answer_form (Byte None) = codes "no byte"
answer_form (Byte (Some b)) = codes "byte " ++ decimal b
answer_form (Bytes bs) = codes "bytes " ++ quoted (vec_items bs)
answer_form (Refused f) = codes "refused " ++ fault_form f
