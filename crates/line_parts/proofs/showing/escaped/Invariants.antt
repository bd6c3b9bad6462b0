use Rattle.std.proofs.Common.{◌≡◌, ◌≤◌, ◌*◌, length, take}
use Rattle.line_parts.specs.AsciiTexts.{text_of}
use Rattle.line_parts.specs.Quotes.{escaped}
use Rattle.line_parts.proofs.showing.escaped.Given as goal

abbrev pub invariant-loop-b : goal.invariant-loop-b
invariant-loop-b l = (text_of l.text ≡ escaped (take l.b-index l.fn.part)) × (length (text_of l.text) ≤ 4 * l.b-index)
