use Rattle.std.proofs.Common.{◌≡◌, arith}
use Rattle.store.specs.Edits.{copied}
use Rattle.piece_table.specs.Pieces.{spelled}
use Rattle.piece_table.proofs.Copying.{copy_step, place_after, place-past, all_copied}
use Rattle.piece_table.proofs.spelling.Spelling.copy_out.Goals as goal
use Rattle.piece_table.proofs.spelling.Spelling.copy_out.Goals.{then-skip-q, else-skip-q}

pub loop-q-preserved : goal.loop-q-preserved
loop-q-preserved c =
    let m = c.self.inside.memory.now in
    let ps = c.self.inside.pieces.now in
    let area : c.loop-q.area ≡ copied (spelled m ps) c.args.p c.loop-q.done c.args.area.now = c.loop-q.invariant.1 in
    elim c.if-skip-q.branch [
      | then-skip-q w ↦ (let step = copy_step m ps c.self.invariant c.args.p c.args.n c.loop-q.q-index c.loop-q.skip c.loop-q.done c.loop-q.invariant.2 c.args.area.now w.copy_from_slice.new.self w.min-more.result (omega arith) (omega arith) (omega arith) (rw c.self.view_is c.requires.place) c.requires.fits w.copy_from_slice.ensures.after in (
        omega arith,
        cc,
        λ h. let next = place_after m ps c.self.invariant c.args.p c.args.n c.loop-q.q-index c.loop-q.skip c.loop-q.done c.loop-q.invariant.2 w.min-more.result (omega arith) w.if-skip-q.true w.min-more.ensures (omega arith) in cc,
      ))
      | else-skip-q w ↦ (
        omega arith,
        cc,
        λ h. let next = place-past m ps c.self.invariant c.args.p c.args.n c.loop-q.q-index c.loop-q.skip c.loop-q.done c.loop-q.invariant.2 (omega arith) w.if-skip-q.false (omega arith) in cc,
      )
    ]

pub returns : goal.returns
returns c =
    let m = c.self.inside.memory.now in
    let ps = c.self.inside.pieces.now in
    let area : c.loop-q.area ≡ copied (spelled m ps) c.args.p c.loop-q.done c.args.area.now = c.loop-q.invariant.1 in
    let all = all_copied m ps c.self.invariant c.args.p c.args.n c.loop-q.q-index c.loop-q.skip c.loop-q.done c.loop-q.invariant.2 (omega arith) (omega arith) (rw c.self.view_is c.requires.place) in
    cc
