-- Why a part of a line was not read. Assumes nothing.
use Rattle.std.specs.Prelude.{ℕ}
use Rattle.line_parts.specs.declared.misquoted.InQuotes.{InQuotes}
use Rattle.line_parts.specs.declared.misquoted.InQuotes.TheVariants as quotes
use Rattle.line_parts.specs.declared.misquoted.Misquoted.{Misquoted}
use Rattle.line_parts.specs.declared.misquoted.Misquoted.TheVariants as misquoted
use Rattle.call_list.specs.declared.expected.Expected.{Expected}
use Rattle.call_list.specs.declared.expected.Expected.TheVariants.{PlainByte, ClosingQuote}
use Rattle.call_list.specs.declared.expected.Unread.{Unread}
use Rattle.call_list.specs.declared.expected.Unread.TheVariants as unread
use Rattle.call_list.specs.declared.expected.Misread.{Misread}
use Rattle.call_list.specs.declared.expected.Misread.TheVariants.{Malformed, NoMemory}

-- What is said of the part that was expected; nothing where memory is wanting.
abbrev pub Misreads : Misread → (Expected → Type 0) → Type 0
Misreads (Malformed e) P = P e
Misreads NoMemory P = Unit {0}

-- What a line should have had between its quotes.
abbrev pub wanted_in_quotes : InQuotes → Expected
wanted_in_quotes quotes.PlainByte = PlainByte
wanted_in_quotes quotes.ClosingQuote = ClosingQuote

-- The same of bytes in double quotes.
abbrev pub misread_by : Misquoted → Misread
misread_by (misquoted.Malformed e) = Malformed (wanted_in_quotes e)
misread_by misquoted.NoMemory = NoMemory

-- The same of a list, at a line.
abbrev pub unread_at : Misread → ℕ → Unread
unread_at (Malformed e) n = unread.Malformed n e
unread_at NoMemory n = unread.NoMemory
