-- What a list of calls answers and leaves, one call after the other. Assumes nothing.
use Rattle.std.specs.Prelude.{◌≡◌, ℕ, ◌≤◌, List, [], ◌∷◌, map, length, take, vec_items, Vec}
use Rattle.std.specs.declared.alloc.Global.{Global}
use Rattle.calls.specs.declared.answer.Answer.{Answer}
use Rattle.calls.specs.declared.call.Call.{Call}
use Rattle.calls.specs.Replies.{Reply, reply_of}
use Rattle.calls.specs.Said.{Said, said_by}
use Rattle.session.specs.World.{World}
use Rattle.history.specs.Steps.{reply, step}

unfoldable pub world_after : World → List Said → World
world_after w [] = w
world_after w (c ∷ cs) = world_after (step w c) cs

unfoldable pub replies : World → List Said → List Reply
replies w [] = []
replies w (c ∷ cs) = reply w c ∷ replies (step w c) cs

-- Some first calls were done, and the world is now v.
pub record Stopped (w : World) (calls : List Call) (v : World) : Type 0 where
  pub count : ℕ
  pub within : count ≤ length calls
  pub left : v ≡ world_after w (map said_by (take count calls))

-- Every call was done and answered, and the world is now v. To stop behind the last call is to have
-- done them all.
pub record Answered (w : World) (calls : List Call) (answers : Vec Answer Global) (v : World) : Type 0 where
  pub said : map reply_of (vec_items answers) ≡ replies w (map said_by calls)
  pub left : v ≡ world_after w (map said_by calls)
  pub stops : Stopped w calls v
