use Rattle.std.proofs.Common.{◌≡◌, true}
use Rattle.places.specs.Carry.{fits}
use Rattle.places.specs.Model.{model}
use Rattle.places.proofs.Carried.{marked_after, spanned_after, window_after}
use Rattle.places.proofs.record.Places.after.Goals as goal

pub invariant_of-self : goal.invariant_of-self
invariant_of-self c =
    let r = c.args.self in
    let e = c.args.edit in
    let fit : fits e (model r) ≡ true = cc in
    record {
      marked = marked_after e (model r) _ _ c.len_after.ensures c.markers_after-self.ensures fit r.marked;
      spanned = spanned_after e (model r) _ _ c.len_after.ensures c.carry.ensures fit r.spanned;
      window = window_after e (model r) _ c.len_after.ensures r.window fit;
    }
