use Rattle.std.proofs.Common.{◌≡◌, ◌+◌, ◌++◌, length, vec_items, ap, ◌∙◌, arith, rules}
use Rattle.store.specs.Edits.{inserted_at}
use Rattle.piece_table.proofs.Tables.{size_total, put_text}
use Rattle.piece_table.proofs.table.PieceTable.put.Goals as goal

pub replace-requires : goal.replace-requires
replace-requires c =
    let t = size_total c.make_room.new.self in
    let e = ap length c.make_room.ensures.text in
    search rules

pub invariant_of-self : goal.invariant_of-self
invariant_of-self c =
    let e = ap length c.make_room.ensures.text in
    let live : vec_items c.extend_from_slice.new.self ≡ vec_items c.make_room.new.self.live ++ c.args.bytes.now = search rules in
    let done = put_text c.make_room.new.self _ c.args.p _ _ c.args.bytes.now (omega arith) (omega arith) live c.replace.ensures in
    search rules

pub returns : goal.returns
returns c =
    let e = ap length c.make_room.ensures.text in
    let live : vec_items c.extend_from_slice.new.self ≡ vec_items c.make_room.new.self.live ++ c.args.bytes.now = search rules in
    let done = put_text c.make_room.new.self _ c.args.p _ _ c.args.bytes.now (omega arith) (omega arith) live c.replace.ensures in
    record { text = done.0 ∙ ap (λ x. inserted_at x c.args.p c.args.bytes.now) c.make_room.ensures.text; long = done.1 ∙ ap (λ x. x + length c.args.bytes.now) e; room = search rules }
