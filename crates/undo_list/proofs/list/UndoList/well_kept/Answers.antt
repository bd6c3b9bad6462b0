use Rattle.undo_list.proofs.Lawful.{well_kept}
use Rattle.undo_list.proofs.list.UndoList.well_kept.Goals as goal

pub returns : goal.returns
returns c = well_kept c.args.self.now
