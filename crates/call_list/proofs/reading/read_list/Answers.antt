use Rattle.std.proofs.Common.{◌+◌, eqb, ap, ◌∙◌, rules}
use Rattle.std.specs.Iterator.Adapters.{enumerate_count, enumerate_source}
use Rattle.std.specs.Slice.Iter.{split_done, split_rest}
use Rattle.std.proofs.lemmas.List.Sorted.{answers_always}
use Rattle.std.proofs.lemmas.Result.{err_from_is_err_and}
use Rattle.call_list.specs.Lists.{held}
use Rattle.call_list.proofs.Listing.{less_to_come, next_line, stops_here, to_come}
use Rattle.call_list.proofs.reading.read_list.Goals as goal

pub loop-index-preserved : goal.loop-index-preserved
loop-index-preserved c =
    let n = enumerate_count c.loop-index.index-iterator in
    let done = split_done (enumerate_source c.next.new.self) in
    let more = split_rest (enumerate_source c.next.new.self) in
    let steps = c.in-Some.ensures.steps in
    let first = steps.0.2 (λ b. eqb b 10) (answers_always _ _ _ (λ f a r g k. search rules)) in
    let line = next_line n _ done _ c.in-Some.line.now more steps.0.0 steps.0.1 first.1 in
    let added = rw steps.1 at (c.in_ok-add_line.ensures (to_come (n + 1) done more)) in (
      rw steps.2 (c.loop-index.invariant.0 ∙ ap (held c.loop-index.read) line ∙ added),
      rw steps.2 (less_to_come n _ _ done _ c.in-Some.line.now more steps.0.0 steps.0.1 c.loop-index.invariant.1),
    )

pub returns-in_err-add_line : goal.returns-in_err-add_line
returns-in_err-add_line c =
    let n = enumerate_count c.loop-index.index-iterator in
    let done = split_done (enumerate_source c.next.new.self) in
    let more = split_rest (enumerate_source c.next.new.self) in
    let steps = c.in-Some.ensures.steps in
    let first = steps.0.2 (λ b. eqb b 10) (answers_always _ _ _ (λ f a r g k. search rules)) in
    let line = next_line n _ done _ c.in-Some.line.now more steps.0.0 steps.0.1 first.1 in
    let added = rw steps.1 at c.in_err-add_line.ensures in
    let p = err_from_is_err_and c.from_residual.result c.from_residual.ensures.1 in
    rw (p.1, p.2) (stops_here _ c.loop-index.read c.add_line.new.self (n + 1) c.in-Some.line.now c.args.list.now (to_come (n + 1) done more) (c.loop-index.invariant.0 ∙ ap (held c.loop-index.read) line) added)
