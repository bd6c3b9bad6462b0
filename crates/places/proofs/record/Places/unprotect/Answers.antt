use Rattle.std.proofs.Common.{not, sym, subst}
use Rattle.std.specs.List.{All}
use Rattle.std.proofs.lemmas.List.Elements.{All-filter}
use Rattle.places.specs.Slots.{spans_of}
use Rattle.places.specs.Spans.{inside}
use Rattle.places.proofs.Kept.{Sound}
use Rattle.places.proofs.record.Places.unprotect.Goals as goal

pub invariant_of-self-clause-spanned : goal.invariant_of-self-clause-spanned
invariant_of-self-clause-spanned c =
    let r = c.args.self in
    subst (All (Sound r.len)) (sym c.without_inside-self.ensures) (All-filter (λ span. not (inside c.args.s c.args.e span)) (Sound r.len) (spans_of r.spans) r.spanned)
