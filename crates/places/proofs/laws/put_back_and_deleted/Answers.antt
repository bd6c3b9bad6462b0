use Rattle.std.proofs.Common.{arith}
use Rattle.places.specs.Model.{model}
use Rattle.places.proofs.Back.{put_back_and_deleted}
use Rattle.places.proofs.laws.put_back_and_deleted.Goals as goal

pub returns-clause-law : goal.returns-clause-law
returns-clause-law c = λ o h.
    let r = c.args.places in
    let notes = c.args.notes in
    let back = put_back_and_deleted o c.args.p notes.count notes.distances (model r) (omega arith) r.window notes.near h in
    cc
