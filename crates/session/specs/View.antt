-- What a session stands for. Assumes nothing.
use Rattle.std.specs.Prelude.{vec_items}
use Rattle.places.specs.Model.{model}
use Rattle.undo_list.specs.View as list
use Rattle.store.specs.declared.text_store.TextStore.{Ghosts}
use Rattle.session.specs.declared.session.Session.{Session}
use Rattle.session.specs.World.{World}

-- Its text is its store's text, and its capacity the store's.
module _ {S : Type 0} {B : Ghosts S} where
  unfoldable pub view : Session S B → World
  view s = record { text = B.text s.store; room = B.room s.store; places = model s.places; groups = list.view s.list; state = s.state; made = vec_items s.made; noted = model s.noted }
