use Rattle.std.proofs.Common.{refl}
use Rattle.session.proofs.Edited.{insertion_done, insertion_tied}
use Rattle.session.proofs.session.Session.put_in.Goals as goal

pub invariant_of-self-clause-fits : goal.invariant_of-self-clause-fits
invariant_of-self-clause-fits g c =
    insertion_tied c.args.self.now _ c.after_insertion-self.result c.args.p c.args.bytes.now c.requires.text (g.met.S.TextStore.limit c.args.self.now.store) c.insert.ensures.text c.after_insertion-self.ensures

pub returns : goal.returns
returns g c =
    record {
      view = insertion_done c.args.self.now _ c.args.p c.args.bytes.now c.requires.text c.requires.list c.insert.ensures.text c.insert.ensures.room c.record_insertion.ensures.after c.after_insertion-self.ensures refl refl refl;
      state = refl;
    }
