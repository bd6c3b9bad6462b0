use Rattle.std.proofs.Common.{◌+◌, ◌<◌, map, length, vec_items, sym, ap, ◌∙◌, arith, rules}
use Rattle.std.proofs.lemmas.List.{take_all}
use Rattle.std.proofs.lemmas.Result.{err_from_is_err_and}
use Rattle.calls.specs.Said.{said_by}
use Rattle.session.specs.View.{view}
use Rattle.history.specs.Runs.{replies, world_after}
use Rattle.history.proofs.Runs.{replies_more, replies_none, world_more, world_none}
use Rattle.history.proofs.run.perform_all.Goals as goal

pub returns-in_err-answers : goal.returns-in_err-answers
returns-in_err-answers g c =
    let p = err_from_is_err_and c.from_residual.result c.from_residual.ensures.1 in
    rw p.1 (record { done = tt; stopped = record { count = 0; within = omega arith; left = sym (world_none (view c.args.session.now)) } })

pub loop-call-init : goal.loop-call-init
loop-call-init g c = search (rules, world_none, replies_none)

pub returns-in_err-answer : goal.returns-in_err-answer
returns-in_err-answer g c =
    let lt : c.loop-call.call-index < length c.args.calls.now = omega arith in
    let p = err_from_is_err_and c.from_residual-in_err-answer.result c.from_residual-in_err-answer.ensures.1 in
    let left = world_more (view c.args.session.now) c.args.calls.now c.loop-call.call-index c.call-item.result lt c.call-item.is (view c.loop-call.session) (view c.perform.new.session) c.loop-call.invariant.3 c.perform.ensures.world in
    rw p.1 (record { done = tt; stopped = record { count = c.loop-call.call-index + 1; within = omega arith; left = left } })

pub loop-call-preserved : goal.loop-call-preserved
loop-call-preserved g c =
    let lt : c.loop-call.call-index < length c.args.calls.now = omega arith in
    let w = view c.args.session.now in
    let u = view c.loop-call.session in (
      search rules,
      search rules,
      replies_more w c.args.calls.now c.loop-call.call-index c.call-item.result lt c.call-item.is u (vec_items c.loop-call.answers) (vec_items c.push_reserved.new.self) c.in_ok-answer.answer c.loop-call.invariant.3 c.loop-call.invariant.2 c.in_ok-answer.ensures.reply c.push_reserved.ensures.items,
      world_more w c.args.calls.now c.loop-call.call-index c.call-item.result lt c.call-item.is u (view c.perform.new.session) c.loop-call.invariant.3 c.perform.ensures.world,
    )

pub returns : goal.returns
returns g c =
    let w = view c.args.session.now in
    let all = ap (map said_by) (take_all c.loop-call.call-index c.args.calls.now c.loop-call-test.false) in
    record {
      done = record {
        said = c.loop-call.invariant.2 ∙ ap (replies w) all;
        left = c.loop-call.invariant.3 ∙ ap (world_after w) all;
        stops = record { count = c.loop-call.call-index; within = omega arith; left = c.loop-call.invariant.3 };
      };
      stopped = tt;
    }
