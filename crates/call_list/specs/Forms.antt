-- The lines of output. Assumes nothing.
use Rattle.std.specs.Prelude.{ℕ, List, ◌++◌, codes, decimal}
use Rattle.corrections.specs.declared.calls.Answer.{Answer}
use Rattle.corrections.specs.declared.calls.Call.{Call}
use Rattle.corrections.specs.Forms.{answer_form, call_form}
use Rattle.line_parts.specs.Quotes.{quoted}

-- The line of a call: its line's number in the list, the call, an arrow and the answer.
abbrev pub line_form : ℕ → Call → Answer → List ℕ
line_form n c a = decimal n ++ (codes " " ++ (call_form c ++ (codes " -> " ++ answer_form a)))

abbrev pub text_form : List ℕ → List ℕ
text_form t = codes "text " ++ quoted t
