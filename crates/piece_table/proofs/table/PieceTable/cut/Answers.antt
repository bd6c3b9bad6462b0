use Rattle.std.proofs.Common.{length, ap, ◌∙◌, arith, rules}
use Rattle.store.specs.Edits.{deleted_at}
use Rattle.piece_table.proofs.Tables.{size_total, cut_text}
use Rattle.piece_table.proofs.table.PieceTable.cut.Goals as goal

pub replace-requires : goal.replace-requires
replace-requires c =
    let t = size_total c.make_room.new.self in
    let e = ap length c.make_room.ensures.text in
    search rules

pub invariant_of-self : goal.invariant_of-self
invariant_of-self c =
    let e = ap length c.make_room.ensures.text in
    let done = cut_text c.make_room.new.self _ c.args.p c.args.n (omega arith) c.replace.ensures in
    search rules

pub returns : goal.returns
returns c =
    let e = ap length c.make_room.ensures.text in
    let done = cut_text c.make_room.new.self _ c.args.p c.args.n (omega arith) c.replace.ensures in
    record { text = done.0 ∙ ap (λ x. deleted_at x c.args.p c.args.n) c.make_room.ensures.text; long = done.1 ∙ e; room = search rules }
