use Rattle.std.proofs.Common.{◌≡◌, ℕ, ◌<◌, length, get_or}
use Rattle.places.proofs.markers.of_each.Given as goal

abbrev pub invariant-loop-number : goal.invariant-loop-number
invariant-loop-number g l = (length l.made ≡ 16) × ((k : ℕ) (d : g.row.T.Denot) → k < l.number → goal.F-post g l.of k (get_or l.m-items k 0) (get_or l.made k d))
