use Rattle.std.proofs.Common.{◌+◌, ◌<◌, length, vec_items, arith, rules}
use Rattle.std.proofs.lemmas.Result.{err_from_is_err_and}
use Rattle.corrections.proofs.Runs.{replies_more, text_more}
use Rattle.corrections.proofs.run.perform_all.Goals as goal

pub returns-in_err-answer : goal.returns-in_err-answer
returns-in_err-answer g c =
    let lt : c.loop-call.call-index < length c.args.calls.now = omega arith in
    let p = err_from_is_err_and c.from_residual-in_err-answer.result c.from_residual-in_err-answer.ensures.1 in
    let text = text_more (g.S.TextStore.text c.args.store.now) (g.S.TextStore.room c.args.store.now) c.args.calls.now c.loop-call.call-index c.call-item.result lt c.call-item.is (g.S.TextStore.text c.loop-call.store) (g.S.TextStore.text c.perform.new.store) (g.S.TextStore.room c.loop-call.store) c.loop-call.invariant.4 c.loop-call.invariant.3 c.perform.ensures.text in
    rw p.1 (record { done = tt; stopped = record { count = c.loop-call.call-index + 1; within = omega arith; left = text }; room = search rules })

pub loop-call-preserved : goal.loop-call-preserved
loop-call-preserved g c =
    let lt : c.loop-call.call-index < length c.args.calls.now = omega arith in
    let t = g.S.TextStore.text c.args.store.now in
    let room = g.S.TextStore.room c.args.store.now in
    let u = g.S.TextStore.text c.loop-call.store in
    let r = g.S.TextStore.room c.loop-call.store in (
      search rules,
      search rules,
      replies_more t room c.args.calls.now c.loop-call.call-index c.call-item.result lt c.call-item.is u r (vec_items c.loop-call.answers) (vec_items c.push_reserved.new.self) c.in_ok-answer.answer c.loop-call.invariant.4 c.loop-call.invariant.3 c.loop-call.invariant.2 c.in_ok-answer.ensures.reply c.push_reserved.ensures.items,
      text_more t room c.args.calls.now c.loop-call.call-index c.call-item.result lt c.call-item.is u (g.S.TextStore.text c.perform.new.store) r c.loop-call.invariant.4 c.loop-call.invariant.3 c.perform.ensures.text,
      search rules,
    )
