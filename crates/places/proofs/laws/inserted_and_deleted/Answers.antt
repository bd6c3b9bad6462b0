use Rattle.std.proofs.Common.{arith}
use Rattle.places.specs.Model.{model}
use Rattle.places.proofs.Back.{inserted_and_deleted}
use Rattle.places.proofs.laws.inserted_and_deleted.Goals as goal

pub returns-clause-law : goal.returns-clause-law
returns-clause-law c = λ o h.
    let r = c.args.places in
    let back = inserted_and_deleted o c.args.p c.args.n (model r) (omega arith) r.window h in
    cc
