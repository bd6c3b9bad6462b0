-- What became of a list of calls, done on a session that is made over a store. Assumes nothing.
use Rattle.std.specs.Prelude.{◌≡◌, List, Ok, Err, Result}
use Rattle.store.specs.declared.text_store.TextStore.{Ghosts}
use Rattle.calls.specs.declared.call.Call.{Call}
use Rattle.session.specs.View.{view}
use Rattle.session.specs.World.{World, new_world}
use Rattle.history.specs.declared.outcome.Finished.{Finished}
use Rattle.history.specs.declared.outcome.Unfinished.{Unfinished}
use Rattle.history.specs.declared.outcome.Unfinished.TheVariants.{Interrupted, Unmade}
use Rattle.history.specs.Runs.{Answered, Stopped}

module _ {S : Type 0} {B : Ghosts S} where
  -- From a world on: the answers are those of the definitions, and the session stands for the world
  -- after the last call. Where memory is wanting, some first calls were done and no other.
  abbrev pub RanFrom : World → List Call → Result (Finished S B) (Unfinished S B) → Type 0
  RanFrom w calls (Ok done) = Answered w calls done.answers (view done.session)
  RanFrom w calls (Err (Interrupted session)) = Stopped w calls (view session)
  RanFrom w calls (Err (Unmade back)) = ⊥

  -- The same from the world of a session that was just made over a store; or the store is handed back
  -- as it was.
  abbrev pub Ran : S → List Call → Result (Finished S B) (Unfinished S B) → Type 0
  Ran store calls (Ok done) = Answered (new_world (B.text store) (B.room store)) calls done.answers (view done.session)
  Ran store calls (Err (Interrupted session)) = Stopped (new_world (B.text store) (B.room store)) calls (view session)
  Ran store calls (Err (Unmade back)) = back ≡ store
