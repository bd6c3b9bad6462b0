use Rattle.std.proofs.Common.{◌≡◌, ◌≤◌, map, length, take, vec_items, vec_len, vec_capacity}
use Rattle.calls.specs.Replies.{reply_of}
use Rattle.calls.specs.Said.{said_by}
use Rattle.session.specs.View.{view}
use Rattle.history.specs.Runs.{replies, world_after}
use Rattle.history.proofs.run.perform_all.Given as goal

abbrev pub invariant-loop-call : goal.invariant-loop-call
invariant-loop-call g l =
    (vec_len l.answers ≡ l.call-index)
    × (length l.calls ≤ vec_capacity l.answers)
    × (map reply_of (vec_items l.answers) ≡ replies (view l.initial.session) (map said_by (take l.call-index l.calls)))
    × (view l.session ≡ world_after (view l.initial.session) (map said_by (take l.call-index l.calls)))
