use Rattle.std.proofs.Common.{arith, length-take}
use Rattle.std.proofs.lemmas.List.Sums.{length-filter, count_by-le-length}
use Rattle.places.proofs.spans.Spans.without_inside.Goals as goal

pub push-requires : goal.push-requires
push-requires c = record { free = rw c.loop-span.invariant (simp length-filter (grind (arith, count_by-le-length, length-take))) }
