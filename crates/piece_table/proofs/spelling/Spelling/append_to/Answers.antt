use Rattle.std.proofs.Common.{◌≡◌, ◌+◌, ◌-◌, ◌<◌, ◌++◌, length, take, drop, vec_items, ap, ◌∙◌, append_assoc, length-append, arith, rules}
use Rattle.piece_table.specs.Pieces.{spelled, piece_at}
use Rattle.piece_table.proofs.Spelled.{one_more, front_short}
use Rattle.piece_table.proofs.spelling.Spelling.append_to.Goals as goal

pub loop-q-preserved : goal.loop-q-preserved
loop-q-preserved c =
    let m = c.self.inside.memory.now in
    let ps = c.self.inside.pieces.now in
    let i = c.loop-q.q-index in
    let q = piece_at ps i in
    let bytes = take ((q.start + q.len) - q.start) (drop q.start m) in
    let front = spelled m (take i ps) in
    let lt : i < length ps = omega arith in
    let more : spelled m (take (i + 1) ps) ≡ front ++ bytes = one_more m ps c.self.invariant i lt in
    let so_far : vec_items c.loop-q.to ≡ vec_items c.args.to.now ++ front = c.loop-q.invariant.0 in
    let long = ap length so_far ∙ length-append (vec_items c.args.to.now) front in
    let grown = ap length more ∙ length-append front bytes in
    let short = front_short m ps c.self.invariant (i + 1) in
    let whole = ap length c.self.view_is in
    let added : vec_items c.extend_from_slice.new.self ≡ vec_items c.loop-q.to ++ bytes = search rules in
    let regrouped = append_assoc (vec_items c.args.to.now) front bytes in
    (cc, search rules)
