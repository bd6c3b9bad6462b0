use Rattle.std.proofs.Common.{min, get_or, arith, rules}
use Rattle.std.proofs.lemmas.List.FromFn.{fill_by_all}
use Rattle.places.specs.Markers.{markers_within}
use Rattle.places.proofs.markers.markers_within.Goals as goal

pub returns : goal.returns
unfolding markers_within
returns c = fill_by_all (λ i. min (get_or c.args.markers i 0) c.args.len) c.of_each.result 16 0 (omega arith) (λ k h. let e = c.of_each.ensures k 0 h in search rules)
