use Rattle.std.proofs.lemmas.List.Elements.{recursion_from_All}
use Rattle.places.specs.Model.{model}
use Rattle.places.specs.Slots.{spans_of}
use Rattle.places.proofs.Back.{carried_unmet}
use Rattle.places.proofs.Kept.{Sound}
use Rattle.places.proofs.laws.carried_unmet.Goals as goal

pub returns-clause-law : goal.returns-clause-law
returns-clause-law c = λ o fit none.
    let r = c.args.places in
    let all = recursion_from_All (Sound r.len) (spans_of r.spans) r.spanned in
    carried_unmet o c.args.edit (model r) (model c.after.result) all c.after.ensures fit none
