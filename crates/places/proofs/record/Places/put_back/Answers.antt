use Rattle.std.proofs.Common.{◌≡◌, true}
use Rattle.places.specs.declared.edit.Edit.{Edit}
use Rattle.places.specs.declared.edit.Edit.TheVariants.{Insertion}
use Rattle.places.specs.Carry.{fits}
use Rattle.places.specs.Model.{model}
use Rattle.places.proofs.Carried.{marked_back, spanned_after, window_after}
use Rattle.places.proofs.record.Places.put_back.Goals as goal

pub invariant_of-self : goal.invariant_of-self
invariant_of-self c =
    let r = c.args.self in
    let notes = c.args.notes in
    let e : Edit = Insertion c.args.p notes.count in
    let fit : fits e (model r) ≡ true = cc in
    record {
      marked = marked_back c.args.p notes.count notes.distances (model r) _ _ c.len_after.ensures c.markers_put_back-self.ensures fit notes.near r.marked;
      spanned = spanned_after e (model r) _ _ c.len_after.ensures c.carry.ensures fit r.spanned;
      window = window_after e (model r) _ c.len_after.ensures r.window fit;
    }
