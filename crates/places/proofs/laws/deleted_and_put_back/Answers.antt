use Rattle.std.proofs.Common.{arith}
use Rattle.std.proofs.lemmas.List.Elements.{recursion_from_All}
use Rattle.places.specs.Model.{model}
use Rattle.places.specs.Slots.{spans_of}
use Rattle.places.proofs.Back.{deleted_and_put_back}
use Rattle.places.proofs.Kept.{Sound}
use Rattle.places.proofs.laws.deleted_and_put_back.Goals as goal

pub returns-clause-law : goal.returns-clause-law
returns-clause-law c = λ h.
    let r = c.args.places in
    let back = deleted_and_put_back c.args.p c.args.n (model r) (omega arith) (omega arith) (recursion_from_All (Sound r.len) (spans_of r.spans) r.spanned) h in
    cc
