use Rattle.std.proofs.Common.{arith, rules}
use Rattle.undo_list.proofs.Lists.{closed_count}
use Rattle.undo_list.proofs.Trimmed.{entries_gone, ends_past, offsets_past, sound_fewer, placed_fewer, fewer_groups}
use Rattle.undo_list.proofs.list.UndoList.drop_groups.Goals as goal

pub start_of-entries-requires : goal.start_of-entries-requires
start_of-entries-requires c = omega (arith, closed_count c.args.self.now, c.requires)

pub kept_before-bytes-requires : goal.kept_before-bytes-requires
kept_before-bytes-requires c = entries_gone c.args.self.now c.args.k _ c.requires c.start_of-entries.ensures

pub drop_held-requires : goal.drop_held-requires
drop_held-requires c =
    let l = c.args.self.now in
    record {
      entries = entries_gone l c.args.k _ c.requires c.start_of-entries.ensures;
      bytes = c.kept_before-bytes.ensures.few;
      past = offsets_past l c.args.k _ c.requires c.start_of-entries.ensures _ c.kept_before-bytes.ensures.value;
    }

pub drop_ends-requires : goal.drop_ends-requires
drop_ends-requires c =
    let l = c.args.self.now in
    record { few = omega (arith, closed_count l, c.requires); past = ends_past l c.args.k _ c.requires c.start_of-entries.ensures }

pub invariant_of-self : goal.invariant_of-self
invariant_of-self c =
    let l = c.args.self.now in
    let s = sound_fewer l c.args.k _ c.requires c.start_of-entries.ensures _ c.kept_before-bytes.ensures.value _ _ _ c.drop_held.ensures.entries c.drop_held.ensures.kept c.drop_ends.ensures.items in
    let p = placed_fewer l c.args.k _ c.requires c.start_of-entries.ensures _ c.kept_before-bytes.ensures.value _ c.drop_held.ensures.entries in
    search rules

pub returns : goal.returns
returns c =
    let f = fewer_groups c.args.self.now c.args.k _ c.requires c.start_of-entries.ensures _ c.kept_before-bytes.ensures.value _ c.drop_held.ensures.entries c.drop_held.ensures.kept c.drop_ends.ensures.items in
    record { view = f.view; opened = f.opened; groups = f.groups; entries = f.entries; bytes = f.bytes }
