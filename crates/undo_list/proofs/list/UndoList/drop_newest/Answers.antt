use Rattle.std.proofs.Common.{◌≡◌, ◌-◌, max, vec_items, vec_len, refl, arith, rules}
use Rattle.undo_list.specs.Spell.{last_end}
use Rattle.undo_list.proofs.Cut.{sound_shorter, placed_shorter, shorter_open}
use Rattle.undo_list.proofs.list.UndoList.drop_newest.Goals as goal

pub invariant_of-self : goal.invariant_of-self
invariant_of-self c =
    let l = c.args.self.now in
    let is : c.max-left.result ≡ max (vec_len l.stored - c.args.n) (last_end 0 (vec_items l.ends)) = omega (arith, c.max-left.ensures, c.saturating_sub.ensures, c.len.ensures, c.last_end-closed.ensures.value) in
    let s = sound_shorter l c.args.n _ _ is c.kept_before-bytes.ensures.value _ _ c.truncate.ensures.items c.truncate-2.ensures.items in
    let p = placed_shorter l c.args.n _ _ is c.kept_before-bytes.ensures.value _ c.truncate.ensures.items in
    search rules

pub returns : goal.returns
returns c =
    let l = c.args.self.now in
    let is : c.max-left.result ≡ max (vec_len l.stored - c.args.n) (last_end 0 (vec_items l.ends)) = omega (arith, c.max-left.ensures, c.saturating_sub.ensures, c.len.ensures, c.last_end-closed.ensures.value) in
    let f = shorter_open l c.args.n _ _ is c.kept_before-bytes.ensures.value _ c.truncate.ensures.items c.truncate-2.ensures.items refl in
    record { view = f.view; closed = f.closed; entries = f.entries; bytes = f.bytes }
