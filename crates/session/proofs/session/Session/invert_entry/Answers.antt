use Rattle.std.proofs.Common.{◌≡◌, true, refl, ap, ◌∙◌, subst}
use Rattle.places.specs.Near.{near}
use Rattle.undo_list.specs.declared.kind.Kind.{Kind}
use Rattle.undo_list.specs.Groups.{group_at}
use Rattle.undo_list.specs.Kinds.{note}
use Rattle.undo_list.specs.View as list
use Rattle.session.specs.View.{view}
use Rattle.std.specs.List.{slice_get}
use Rattle.session.proofs.Edited.{return_done, return_tied}
use Rattle.session.proofs.Views.{groups_seen}
use Rattle.session.proofs.Inverted.{insertion_goes, insertion_gone, deletion_comes, deletion_back, deletion_counts, none_there}
use Rattle.session.proofs.session.Session.invert_entry.Goals as goal

pub returns-in_default : goal.returns-in_default
unfolding view
returns-in_default g c =
    let hs = group_at (list.view c.args.self.now.list) c.args.group in
    absurd (none_there hs c.args.i c.requires.there c.in_default.ensures.value)

pub take_out-requires : goal.take_out-requires
unfolding view
take_out-requires g c =
    let hs = group_at (list.view c.args.self.now.list) c.args.group in
    insertion_goes hs c.args.i c.in-Some.reading.entry c.in-Some.reading.kept.now c.requires.there c.in-Some.ensures.value _ c.in-Insertion.is c.requires.admitted

pub invariant_of-notes : goal.invariant_of-notes
invariant_of-notes g c =
    record {
      near = λ k lt. let near_kind = c.in-Some.reading.entry.near k lt in let P : Kind → Type 0 = λ x. near c.in-Some.reading.entry.count (note x k) ≡ true in subst P c.in-Deletion.is near_kind;
    }

pub returns-in-Insertion : goal.returns-in-Insertion
unfolding view
returns-in-Insertion g c =
    let hs = group_at (list.view c.args.self.now.list) c.args.group in
    let said = c.in-Some.ensures.value in
    record {
      view = insertion_gone hs c.args.i c.in-Some.reading.entry c.in-Some.reading.kept.now c.requires.there said _ _ c.in-Insertion.is c.take_out.ensures.view;
      state = c.take_out.ensures.state;
      made = c.take_out.ensures.made;
    }

pub invariant_of-self-in-Deletion-clause-fits : goal.invariant_of-self-in-Deletion-clause-fits
invariant_of-self-in-Deletion-clause-fits g c =
    let s = c.args.self.now in
    let entry = c.in-Some.reading.entry in
    let kept = c.in-Some.reading.kept.now in
    let hs = group_at (view s).groups c.args.group in
    let said = c.in-Some.ensures.value ∙ ap (λ x. slice_get (group_at x c.args.group) c.args.i) (groups_seen s) in
    let whole = deletion_counts entry c.in-Deletion.distances kept c.in-Deletion.is c.in-Some.ensures.long in
    let comes = deletion_comes hs c.args.i entry kept c.requires.there said (view s) c.in-Deletion.distances c.in-Deletion.is c.requires.admitted in
    return_tied s _ c.put_back-self.result entry.place entry.count kept c.in-Deletion.distances whole comes (g.met.S.TextStore.limit s.store) c.insert.ensures.text c.put_back-self.ensures

pub returns-in-Deletion : goal.returns-in-Deletion
returns-in-Deletion g c =
    let s = c.args.self.now in
    let entry = c.in-Some.reading.entry in
    let kept = c.in-Some.reading.kept.now in
    let hs = group_at (view s).groups c.args.group in
    let said = c.in-Some.ensures.value ∙ ap (λ x. slice_get (group_at x c.args.group) c.args.i) (groups_seen s) in
    let whole = deletion_counts entry c.in-Deletion.distances kept c.in-Deletion.is c.in-Some.ensures.long in
    let comes = deletion_comes hs c.args.i entry kept c.requires.there said (view s) c.in-Deletion.distances c.in-Deletion.is c.requires.admitted in
    record {
      view = deletion_back hs c.args.i entry kept c.requires.there said (view s) _ c.in-Deletion.distances c.in-Deletion.is
          (return_done s _ entry.place entry.count kept c.in-Deletion.distances whole comes c.insert.ensures.text c.insert.ensures.room c.record_insertion.ensures.after c.put_back-self.ensures refl refl refl);
      state = refl;
      made = refl;
    }
