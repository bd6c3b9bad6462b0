-- What a text of ASCII bytes holds. Assumes nothing.
use Rattle.std.specs.Prelude.{ℕ, List, take}
use Rattle.line_parts.specs.declared.ascii_text.AsciiText.{AsciiText}

abbrev pub text_of : AsciiText → List ℕ
text_of t = take t.len t.bytes
