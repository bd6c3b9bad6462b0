use Rattle.std.proofs.Common.{◌≡◌, not, take, filter}
use Rattle.places.specs.Slots.{spans_of}
use Rattle.places.specs.Spans.{inside}
use Rattle.places.proofs.spans.Spans.without_inside.Given as goal

abbrev pub invariant-loop-span : goal.invariant-loop-span
invariant-loop-span l = spans_of l.others ≡ filter (λ span. not (inside l.s l.e span)) (take l.span-index l.span-items)
