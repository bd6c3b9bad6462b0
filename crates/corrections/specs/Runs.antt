-- What a list of calls answers and leaves, one call after the other. Assumes nothing.
use Rattle.std.specs.Prelude.{◌≡◌, ℕ, ◌≤◌, List, [], ◌∷◌, map, length, take, vec_items, Vec}
use Rattle.std.specs.declared.alloc.Global.{Global}
use Rattle.corrections.specs.declared.calls.Answer.{Answer}
use Rattle.corrections.specs.declared.calls.Call.{Call}
use Rattle.corrections.specs.Replies.{Reply, call_reply, call_text, reply_of}

unfoldable pub text_after : List ℕ → ℕ → List Call → List ℕ
text_after t room [] = t
text_after t room (c ∷ cs) = text_after (call_text t room c) room cs

unfoldable pub replies : List ℕ → ℕ → List Call → List Reply
replies t room [] = []
replies t room (c ∷ cs) = call_reply t room c ∷ replies (call_text t room c) room cs

-- Some first calls were done, and the text is now u.
pub record Stopped (t : List ℕ) (room : ℕ) (calls : List Call) (u : List ℕ) : Type 0 where
  pub count : ℕ
  pub within : count ≤ length calls
  pub left : u ≡ text_after t room (take count calls)

-- Every call was done, and the text is now u. To stop behind the last call is to have done them all.
pub record Answered (t : List ℕ) (room : ℕ) (calls : List Call) (answers : Vec Answer Global) (u : List ℕ) : Type 0 where
  pub said : map reply_of (vec_items answers) ≡ replies t room calls
  pub left : u ≡ text_after t room calls
  pub stops : Stopped t room calls u
