use Rattle.std.proofs.Common.{◌≡◌, ◌+◌, ◌-◌, length, take, drop, vec_items, ap, ◌∙◌, arith, length-drop, length-take, rules}
use Rattle.undo_list.proofs.Ranges.{sum_next, entry_is, entry_of}
use Rattle.undo_list.proofs.list.UndoList.reading.Goals as goal

pub slice_bounds-result-end : goal.slice_bounds-result-end
slice_bounds-result-end c =
    let l = c.args.self.now in
    let few = sum_next l c.args.i c.kept_before-from.result c.index.result.now.entry c.requires (entry_of l c.args.i _ c.requires c.index.ensures) c.kept_before-from.ensures.value in
    let n = c.kept_count.ensures in
    search rules

pub returns : goal.returns
returns c =
    let l = c.args.self.now in
    let n : (c.kept_before-from.result + c.kept_count.result) - c.kept_before-from.result ≡ c.kept_count.result = omega arith in
    record {
      value = entry_is l c.args.i c.kept_before-from.result c.index.result.now.entry _ c.requires (entry_of l c.args.i _ c.requires c.index.ensures) c.kept_before-from.ensures.value
          (ap (λ x. take ((c.kept_before-from.result + c.kept_count.result) - c.kept_before-from.result) (drop c.kept_before-from.result x)) c.deref.ensures.value ∙ ap (λ x. take x (drop c.kept_before-from.result (vec_items l.kept))) (n ∙ c.kept_count.ensures));
      long =
          let few = sum_next l c.args.i c.kept_before-from.result c.index.result.now.entry c.requires (entry_of l c.args.i _ c.requires c.index.ensures) c.kept_before-from.ensures.value in
          let whole = ap length c.deref.ensures.value in
          let size = c.kept_count.ensures in
          let held = l.kept.ok.0 in
          simp (length-take, length-drop) (omega arith);
    }
