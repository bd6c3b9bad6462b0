use Rattle.std.proofs.Common.{◌≡◌, drop, vec_items}
use Rattle.line_parts.specs.declared.quoting.Quoting.TheVariants.{Plain}
use Rattle.line_parts.specs.Unquotes.{behind, unquoted}
use Rattle.line_parts.proofs.quoting.unquote.Given as goal

abbrev pub invariant-loop-i : goal.invariant-loop-i
invariant-loop-i l = unquoted Plain l.rest ≡ behind (vec_items l.bytes) l.i (unquoted l.state (drop l.i l.rest))
