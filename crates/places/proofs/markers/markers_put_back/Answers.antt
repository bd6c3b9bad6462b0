use Rattle.std.proofs.Common.{get_or, None, arith, rules}
use Rattle.std.proofs.lemmas.List.FromFn.{fill_by_all}
use Rattle.places.specs.Markers.{put_back, markers_put_back}
use Rattle.places.proofs.markers.markers_put_back.Goals as goal

pub returns : goal.returns
unfolding markers_put_back
returns c =
    let notes = c.args.notes in
    fill_by_all (λ i. put_back c.args.p notes.count i (get_or notes.distances i None) (get_or c.args.markers i 0)) c.of_each.result 16 0 (omega arith) (λ k h. let e = c.of_each.ensures k 0 h in search rules)
