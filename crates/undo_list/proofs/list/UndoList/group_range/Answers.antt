use Rattle.std.proofs.Common.{refl, rules}
use Rattle.undo_list.proofs.Ranges.{no_group, open_group, closed_group}
use Rattle.undo_list.proofs.list.UndoList.group_range.Goals as goal

pub returns-then-group-closed : goal.returns-then-group-closed
returns-then-group-closed c =
    let r = no_group c.args.self.now c.args.group (search rules) in
    record { forward = r.forward; within = r.within; past = r.past; found = r.found; len = r.len }

pub returns-then-group-closed-2 : goal.returns-then-group-closed-2
returns-then-group-closed-2 c =
    let r = open_group c.args.self.now c.args.group _ _ (search rules) c.start_of-start.ensures (search rules) in
    record { forward = r.forward; within = r.within; past = r.past; found = r.found; len = r.len }

pub returns : goal.returns
returns c =
    let r = closed_group c.args.self.now c.args.group _ _ c.index.result.now (search rules) c.start_of-start.ensures (search rules) refl in
    record { forward = r.forward; within = r.within; past = r.past; found = r.found; len = r.len }
