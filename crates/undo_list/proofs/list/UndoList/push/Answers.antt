use Rattle.std.proofs.Common.{◌≡◌, ◌+◌, true, [], ◌∷◌, ◌++◌, length, is_ok, vec_items, vec_len, refl, ap, ◌∙◌, arith, rules}
use Rattle.undo_list.specs.declared.entry.Stored.{Stored}
use Rattle.undo_list.proofs.Lists.{entries_count, bytes_count, sound_recorded, placed_recorded, pushed}
use Rattle.undo_list.proofs.list.UndoList.push.Goals as goal

pub push_reserved-requires : goal.push_reserved-requires
push_reserved-requires c = let n = entries_count c.args.self.now in omega arith

pub invariant_of-self : goal.invariant_of-self
invariant_of-self c =
    let l = c.args.self.now in
    let one : Stored = record { entry = c.args.entry; before = vec_len l.kept } in
    let stored : vec_items c.push_reserved.new.self ≡ vec_items l.stored ++ one ∷ [] = c.push_reserved.ensures.items ∙ ap (λ s. vec_items l.stored ++ s ∷ []) c.behind_kept-stored.ensures in
    let b = bytes_count l in
    let n = entries_count l in
    let fits : is_ok c.extend_from_slice.result ≡ true = search rules in
    let len : vec_len c.extend_from_slice.new.self ≡ vec_len l.kept + length c.args.bytes.now = search rules in
    let items : vec_items c.extend_from_slice.new.self ≡ vec_items l.kept ++ c.args.bytes.now = search rules in
    let s = sound_recorded l _ _ one c.args.bytes.now c.requires.kept c.requires.groups stored items in
    let p = placed_recorded l _ one refl stored in
    search rules

pub returns : goal.returns
returns c =
    let l = c.args.self.now in
    let one : Stored = record { entry = c.args.entry; before = vec_len l.kept } in
    let stored : vec_items c.push_reserved.new.self ≡ vec_items l.stored ++ one ∷ [] = c.push_reserved.ensures.items ∙ ap (λ s. vec_items l.stored ++ s ∷ []) c.behind_kept-stored.ensures in
    let b = bytes_count l in
    let fits : is_ok c.extend_from_slice.result ≡ true = search rules in
    let items : vec_items c.extend_from_slice.new.self ≡ vec_items l.kept ++ c.args.bytes.now = search rules in
    let p = pushed l _ one c.args.bytes.now _ c.requires.kept refl stored items refl in
    record { view = p.view; entries = p.entries; bytes = p.bytes; groups = p.groups }
