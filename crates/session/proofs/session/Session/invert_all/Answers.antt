use Rattle.std.proofs.Common.{◌<◌, ◌≤◌, length, get_or, sym, ap, ◌∙◌, subst}
use Rattle.undo_list.specs.Groups.{group_at}
use Rattle.undo_list.specs.Spell.{nothing}
use Rattle.session.specs.Admitted.{AdmitsOne}
use Rattle.session.specs.Undo.{invert_all}
use Rattle.session.specs.View.{view}
use Rattle.session.proofs.Steps.{admits_here, admits_next, closed_group_at, closed_next, inverts_next, inverts_none}
use Rattle.session.proofs.Views.{groups_seen}
use Rattle.session.proofs.session.Session.invert_all.Goals as goal

pub invert_entry-requires-clause-there : goal.invert_entry-requires-clause-there
invert_entry-requires-clause-there g c =
    let v = view in
    let gs = (v c.args.self.now).groups in
    let same = closed_group_at (v c.loop-i.self).groups gs c.args.group c.loop-i.invariant.2 c.requires.closed in
    let all = c.group_len-count.ensures ∙ ap (λ x. length (group_at x c.args.group)) (groups_seen c.args.self.now) in
    subst (λ x. c.loop-i.i < length x) (sym same) (subst (λ n. c.loop-i.i < n) all c.loop-i-test.true)

pub invert_entry-requires-clause-admitted : goal.invert_entry-requires-clause-admitted
invert_entry-requires-clause-admitted g c =
    let v = view in
    let gs = (v c.args.self.now).groups in
    let same = closed_group_at (v c.loop-i.self).groups gs c.args.group c.loop-i.invariant.2 c.requires.closed in
    let all = c.group_len-count.ensures ∙ ap (λ x. length (group_at x c.args.group)) (groups_seen c.args.self.now) in
    let here = admits_here (group_at gs c.args.group) c.loop-i.i (subst (λ n. c.loop-i.i < n) all c.loop-i-test.true) (v c.loop-i.self) c.loop-i.invariant.1 in
    subst (λ x. AdmitsOne (get_or x c.loop-i.i nothing) (v c.loop-i.self)) (sym same) here

pub loop-i-preserved : goal.loop-i-preserved
loop-i-preserved g c =
    let v = view in
    let gs = (v c.args.self.now).groups in
    let hs = group_at gs c.args.group in
    let i = c.loop-i.i in
    let w = v c.loop-i.self in
    let same = closed_group_at w.groups gs c.args.group c.loop-i.invariant.2 c.requires.closed in
    let all = c.group_len-count.ensures ∙ ap (λ x. length (group_at x c.args.group)) (groups_seen c.args.self.now) in
    let lt = subst (λ n. i < n) all c.loop-i-test.true in
    let done = c.invert_entry.ensures.view in
    let u = v c.invert_entry.new.self in (
      inverts_next hs i lt w u _ same done (invert_all hs (v c.args.self.now)) c.loop-i.invariant.0,
      admits_next hs i lt w u _ same done c.loop-i.invariant.1,
      closed_next hs i lt w u _ same done gs.closed c.loop-i.invariant.2,
      c.invert_entry.ensures.state ∙ c.loop-i.invariant.3,
      c.invert_entry.ensures.made ∙ c.loop-i.invariant.4,
    )

pub returns-clause-view : goal.returns-clause-view
returns-clause-view g c =
    let v = view in
    let hs = group_at (v c.args.self.now).groups c.args.group in
    let all = c.group_len-count.ensures ∙ ap (λ x. length (group_at x c.args.group)) (groups_seen c.args.self.now) in
    inverts_none hs c.loop-i.i (v c.loop-i.self) (invert_all hs (v c.args.self.now)) (subst (λ n. n ≤ c.loop-i.i) all c.loop-i-test.false) c.loop-i.invariant.0
