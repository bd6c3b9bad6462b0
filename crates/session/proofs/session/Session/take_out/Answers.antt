use Rattle.std.proofs.Common.{ℕ, replicate, refl}
use lib.ListN.{length-replicate}
use Rattle.session.proofs.Edited.{deletion_done, deletion_tied, copied_out}
use Rattle.session.proofs.session.Session.take_out.Goals as goal

pub invariant_of-self-clause-fits : goal.invariant_of-self-clause-fits
invariant_of-self-clause-fits g c =
    deletion_tied c.args.self.now _ c.through_deletion.result.1 c.args.p c.args.n c.requires c.delete.ensures.text c.through_deletion.ensures.after

pub returns : goal.returns
returns g c =
    let bytes = copied_out c.args.self.now c.args.p c.args.n (replicate {A = ℕ} 4096 0) _ c.requires (length-replicate {A = ℕ} 4096 0) c.copy.ensures.area in
    record {
      view = deletion_done c.args.self.now _ c.args.p c.args.n _ c.through_deletion.result.0 c.requires bytes
          c.through_deletion.ensures.count c.through_deletion.ensures.distances c.delete.ensures.text c.delete.ensures.room c.record_deletion.ensures.after c.through_deletion.ensures.after refl refl refl;
      state = refl;
      made = refl;
    }
