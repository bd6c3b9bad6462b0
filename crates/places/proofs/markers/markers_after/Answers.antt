use Rattle.std.proofs.Common.{get_or, arith, rules}
use Rattle.std.proofs.lemmas.List.FromFn.{fill_by_all}
use Rattle.places.specs.Markers.{marker_after, markers_after}
use Rattle.places.proofs.markers.markers_after.Goals as goal

pub returns : goal.returns
unfolding markers_after
returns c = fill_by_all (λ i. marker_after c.args.edit i (get_or c.args.markers i 0)) c.of_each.result 16 0 (omega arith) (λ k h. let e = c.of_each.ensures k 0 h in search rules)
