use Rattle.std.proofs.Common.{◌≡◌, get_or, None, arith, rules}
use Rattle.std.proofs.lemmas.List.FromFn.{fill_by_all}
use Rattle.places.specs.Markers.{noted, markers_noted}
use Rattle.places.proofs.Sixteen.{noted-near}
use Rattle.places.proofs.record.Places.note.Goals as goal

pub invariant_of-result : goal.invariant_of-result
invariant_of-result c =
    let p = c.args.p in
    let n = c.args.n in
    let ms = c.args.self.markers in
    record { near = λ k h. noted-near p n (get_or ms k 0) (get_or c.of_each.result k None) (let e = c.of_each.ensures k None h in search rules) }

pub returns-clause-distances : goal.returns-clause-distances
unfolding markers_noted
returns-clause-distances c =
    fill_by_all (λ i. noted c.args.p c.args.n (get_or c.args.self.markers i 0)) c.of_each.result 16 None (omega arith) (λ k h. let e = c.of_each.ensures k None h in search rules)
