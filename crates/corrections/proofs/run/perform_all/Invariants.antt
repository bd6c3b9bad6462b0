use Rattle.std.proofs.Common.{◌≡◌, ◌≤◌, map, length, take, vec_items, vec_len, vec_capacity}
use Rattle.corrections.specs.Replies.{reply_of}
use Rattle.corrections.specs.Runs.{replies, text_after}
use Rattle.corrections.proofs.run.perform_all.Given as goal

abbrev pub invariant-loop-call : goal.invariant-loop-call
invariant-loop-call g l =
    (vec_len l.answers ≡ l.call-index)
    × (length l.calls ≤ vec_capacity l.answers)
    × (map reply_of (vec_items l.answers) ≡ replies (g.S.TextStore.text l.initial.store) (g.S.TextStore.room l.initial.store) (take l.call-index l.calls))
    × (g.S.TextStore.text l.store ≡ text_after (g.S.TextStore.text l.initial.store) (g.S.TextStore.room l.initial.store) (take l.call-index l.calls))
    × (g.S.TextStore.room l.store ≡ g.S.TextStore.room l.initial.store)
