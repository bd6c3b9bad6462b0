use Rattle.std.proofs.Common.{rules}
use Rattle.std.proofs.lemmas.Iterator.{YieldsList-from_slice}
use Rattle.std.proofs.lemmas.Iterator.Search.{any_from_yields_List}
use Rattle.places.specs.Slots.{spans_of}
use Rattle.places.specs.Spans.{meets}
use Rattle.places.proofs.spans.Spans.any_meets.Goals as goal

pub returns : goal.returns
returns c = any_from_yields_List (meets c.args.origin c.args.edit) _ _ _ c.any.ensures.ran (YieldsList-from_slice (spans_of c.args.self.now) (cc)) (λ x b q k. search rules)
