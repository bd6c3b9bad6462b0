use Rattle.std.proofs.Common.{◌++◌, codes, rules}
use Rattle.std.proofs.Output.{has_written_append, has_written_of_eq}
use Rattle.std.specs.Slice.Iter.{chunks_rest}
use Rattle.line_parts.specs.Quotes.{escaped}
use Rattle.line_parts.proofs.Unquoted.{quoted_first, quoted_more, quoted_last}
use Rattle.line_parts.proofs.showing.QuotedDisplay.fmt.Goals as goal

pub loop-part-init : goal.loop-part-init
loop-part-init g c = (search rules, λ plain. (codes "\"", search rules, quoted_first c.args.self.now.0.now (chunks_rest c.into_iter-part-iterator.result) (search rules)))

pub loop-part-preserved : goal.loop-part-preserved
loop-part-preserved g c = (
  search rules,
  λ plain.
      let so_far = c.loop-part.invariant.1 plain in
      (so_far.0 ++ escaped c.in-Some.part.now, has_written_append _ _ _ _ _ _ so_far.1 (search rules), quoted_more so_far.0 c.in-Some.part.now (chunks_rest c.loop-part.part-iterator) (chunks_rest c.next.new.self) _ (search rules) so_far.2),
)

pub returns-clause-writes : goal.returns-clause-writes
returns-clause-writes g c plain ok =
    let so_far = c.loop-part.invariant.1 plain in
    has_written_of_eq _ _ _ _ _ (quoted_last so_far.0 (chunks_rest c.loop-part.part-iterator) _ (search rules) so_far.2) (has_written_append _ _ _ _ _ _ so_far.1 (search rules))
