-- What a part of a line was not read as, by what the line was read as up to it.
use Rattle.std.proofs.Common.{◌≡◌, ◌∙◌}
use Rattle.call_list.specs.declared.expected.Misread.{Misread}
use Rattle.call_list.specs.declared.expected.Misread.TheVariants.{Malformed, NoMemory}
use Rattle.call_list.specs.Lines.{Line, expects}
use Rattle.call_list.specs.Misreads.{Misreads}

pub misread_before : (e : Misread) (l m : Line) → l ≡ m → Misreads e (λ x. m ≡ expects x) → Misreads e (λ x. l ≡ expects x)
misread_before (Malformed x) l m before here = before ∙ here
misread_before NoMemory l m before here = tt
