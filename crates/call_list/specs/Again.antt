-- The law of the format: a call in its plain form, read as a line, is that call again. Assumes nothing.
use Rattle.std.specs.Prelude.{◌≡◌, ◌^◌, ◌<◌, vec_items}
use Rattle.corrections.specs.declared.calls.Call.{Call}
use Rattle.corrections.specs.declared.calls.Call.TheVariants.{Insert, Delete, Length, Capacity, ByteAt, Copy}
use Rattle.line_parts.specs.Quotes.{Bytes}
use Rattle.corrections.specs.Forms.{call_form}
use Rattle.call_list.specs.Lines.{call_line, reads, said_by}

-- The numbers of a call have 64 bits, and its bytes 8, as the machine's do.
abbrev pub Sized : Call → Type 0
Sized (Insert p bs) = (p < 2 ^ 64) × Bytes (vec_items bs)
Sized (Delete p n) = (p < 2 ^ 64) × (n < 2 ^ 64)
Sized Length = Unit {0}
Sized Capacity = Unit {0}
Sized (ByteAt p) = p < 2 ^ 64
Sized (Copy p n) = (p < 2 ^ 64) × (n < 2 ^ 64)

abbrev pub PlainFormsReadBack : Type 0
PlainFormsReadBack = (c : Call) → Sized c → call_line (call_form c) ≡ reads (said_by c)
