use Rattle.std.proofs.Common.{refl, arith, rules}
use Rattle.undo_list.proofs.Lists.{room_for_end, sound_closed, closed_up}
use Rattle.undo_list.proofs.list.UndoList.push_end.Goals as goal

pub push_reserved-requires : goal.push_reserved-requires
push_reserved-requires c = omega (arith, room_for_end c.args.self.now c.requires)

pub invariant_of-self : goal.invariant_of-self
invariant_of-self c =
    let l = c.args.self.now in
    let n = room_for_end l c.requires in
    let s = sound_closed l _ _ c.len-entries.ensures c.requires c.push_reserved.ensures.items in
    search rules

pub returns : goal.returns
returns c =
    let p = closed_up c.args.self.now _ _ c.requires c.len-entries.ensures refl refl c.push_reserved.ensures.items in
    record { view = p.view; entries = p.entries; bytes = p.bytes; groups = p.groups; opened = p.opened }
