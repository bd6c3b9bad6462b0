-- The view of a session, from its parts. Assumes nothing.
use Rattle.std.proofs.Common.{◌≡◌, refl}
use Rattle.undo_list.specs.View as list
use Rattle.store.specs.declared.text_store.TextStore.{Ghosts}
use Rattle.session.specs.declared.session.Session.{Session}
use Rattle.session.specs.View.{view}

module _ {S : Type 0} {B : Ghosts S} where
  pub groups_seen : (s : Session S B) → list.view s.list ≡ (view s).groups
  unfolding view
  groups_seen s = refl
