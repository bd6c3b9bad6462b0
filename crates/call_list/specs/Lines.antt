-- Reading a line, and a list of lines. Assumes nothing.
use Rattle.std.specs.Prelude.{◌≡◌, ℕ, cond, List, [], ◌∷◌, drop, Some, None, Ok, Err, vec_items, codes, Option, Result, ◌==◌}
use Rattle.std.specs.Str.{bytes_eq}
use Rattle.corrections.specs.declared.calls.Call.{Call}
use Rattle.corrections.specs.declared.calls.Call.TheVariants.{Insert, Delete, Length, Capacity, ByteAt, Copy}
use Rattle.call_list.specs.declared.expected.Argument.{Argument}
use Rattle.call_list.specs.declared.expected.Argument.TheVariants.{Place, Count}
use Rattle.call_list.specs.declared.expected.Expected.{Expected}
use Rattle.call_list.specs.declared.expected.Expected.TheVariants as wanted
use Rattle.call_list.specs.declared.expected.Misread.{Misread}
use Rattle.call_list.specs.declared.names.Name.{Name}
use Rattle.call_list.specs.declared.names.Name.TheVariants as name
use Rattle.line_parts.specs.Blanks.{past_blanks, first_word, behind_word}
use Rattle.call_list.specs.Misreads.{Misreads, wanted_in_quotes}
use Rattle.line_parts.specs.Numbers.{read_number}
use Rattle.line_parts.specs.Unquotes.{Unquoted, closed, malformed, read_quoted}

-- A call by what it says: of bytes, the bytes themselves and not the memory that holds them.
pub data Said : Type 0 where
  insert : ℕ → List ℕ → Said
  delete : ℕ → ℕ → Said
  length_asked : Said
  capacity_asked : Said
  byte_asked : ℕ → Said
  copy : ℕ → ℕ → Said

abbrev pub said_by : Call → Said
said_by (Insert p bs) = insert p (vec_items bs)
said_by (Delete p n) = delete p n
said_by Length = length_asked
said_by Capacity = capacity_asked
said_by (ByteAt p) = byte_asked p
said_by (Copy p n) = copy p n

-- A line that is read, or what was expected in it.
pub data Line : Type 0 where
  reads : Said → Line
  expects : Expected → Line

abbrev pub given_number : Option ℕ → Argument → (ℕ → Line) → Line
given_number None of k = expects (wanted.Number of)
given_number (Some n) of k = k n

-- A number is the next word; what stands behind it is read on.
abbrev pub with_number : Argument → List ℕ → (ℕ → List ℕ → Line) → Line
with_number of l k = given_number (read_number (first_word (past_blanks l))) of (λ n. k n (behind_word (past_blanks l)))

abbrev pub given_bytes : Unquoted → List ℕ → (List ℕ → List ℕ → Line) → Line
given_bytes (closed bs n) rest k = k bs (drop n rest)
given_bytes (malformed e) rest k = expects (wanted_in_quotes e)

abbrev pub opened : List ℕ → (List ℕ → List ℕ → Line) → Line
opened [] k = expects wanted.Bytes
opened (b ∷ rest) k = cond (b == 34) (given_bytes (read_quoted rest) rest k) (expects wanted.Bytes)

-- Bytes in double quotes come next; what stands behind them is read on.
abbrev pub with_bytes : List ℕ → (List ℕ → List ℕ → Line) → Line
with_bytes l k = opened (past_blanks l) k

abbrev pub ended : List ℕ → Said → Line
ended [] s = reads s
ended (b ∷ bs) s = expects wanted.End

-- Nothing but blanks stands behind a call.
abbrev pub at_end : List ℕ → Said → Line
at_end l s = ended (past_blanks l) s

abbrev pub insert_line : List ℕ → Line
insert_line l = with_number Place l (λ p m. with_bytes m (λ bs n. at_end n (insert p bs)))

-- A place and a count make the call.
abbrev pub with_place_and_count : List ℕ → (ℕ → ℕ → Said) → Line
with_place_and_count l make = with_number Place l (λ p m. with_number Count m (λ n o. at_end o (make p n)))

abbrev pub delete_line : List ℕ → Line
delete_line l = with_place_and_count l delete

abbrev pub copy_line : List ℕ → Line
copy_line l = with_place_and_count l copy

abbrev pub byte_line : List ℕ → Line
byte_line l = with_number Place l (λ p m. at_end m (byte_asked p))

-- The first word names the call.
abbrev pub name_of : List ℕ → Option Name
name_of w =
    cond (bytes_eq w (codes "insert")) (Some name.Insert)
    (cond (bytes_eq w (codes "delete")) (Some name.Delete)
    (cond (bytes_eq w (codes "length")) (Some name.Length)
    (cond (bytes_eq w (codes "capacity")) (Some name.Capacity)
    (cond (bytes_eq w (codes "byte")) (Some name.Byte)
    (cond (bytes_eq w (codes "copy")) (Some name.Copy) None)))))

-- A word was read as the name of a call, or is none.
abbrev pub Names : Result Name Expected → List ℕ → Type 0
Names (Ok n) w = name_of w ≡ Some n
Names (Err e) w = (name_of w ≡ None) × (e ≡ wanted.Call)

abbrev pub named_line : Option Name → List ℕ → Line
named_line None rest = expects wanted.Call
named_line (Some name.Insert) rest = insert_line rest
named_line (Some name.Delete) rest = delete_line rest
named_line (Some name.Length) rest = at_end rest length_asked
named_line (Some name.Capacity) rest = at_end rest capacity_asked
named_line (Some name.Byte) rest = byte_line rest
named_line (Some name.Copy) rest = copy_line rest

abbrev pub call_line : List ℕ → Line
call_line l = named_line (name_of (first_word (past_blanks l))) (behind_word (past_blanks l))

-- What a part of a line was read as, or what was expected in it; nothing is said where memory is
-- wanting.
abbrev pub Reads : Result Call Expected → Line → Type 0
Reads (Ok c) l = l ≡ reads (said_by c)
Reads (Err e) l = l ≡ expects e

abbrev pub ReadsIn : Result Call Misread → Line → Type 0
ReadsIn (Ok c) l = l ≡ reads (said_by c)
ReadsIn (Err e) l = Misreads e (λ x. l ≡ expects x)
