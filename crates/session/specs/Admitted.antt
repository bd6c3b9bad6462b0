-- What the inversion of an entry asks of the world at its turn, so that the store, the record of places and
-- the undo list take it. It follows from the checks that are put to all edits before. Assumes nothing.
use Rattle.std.specs.Prelude.{◌≡◌, ℕ, ◌+◌, ◌≤◌, true, List, [], ◌∷◌, length, None}
use Rattle.places.specs.declared.edit.Edit.TheVariants.{Deletion}
use Rattle.places.specs.Carry.{fits}
use Rattle.undo_list.specs.Groups.{Held, PutIn, Took}
use Rattle.undo_list.specs.Limits.{entry_check}
use Rattle.session.specs.Undo.{invert}
use Rattle.session.specs.World.{World}

-- n bytes from p on can go.
pub record Removable (w : World) (p n : ℕ) : Type 0 where
  pub some : 1 ≤ n
  pub few : n ≤ 4096
  pub place : p + n ≤ w.places.len
  pub fits : fits (Deletion p n) w.places ≡ true
  pub listed : entry_check w.groups n ≡ None

-- n bytes can come back at p.
pub record Returnable (w : World) (p n : ℕ) : Type 0 where
  pub some : 1 ≤ n
  pub few : n ≤ 4096
  pub place : p ≤ w.places.len
  pub room : w.places.len + n ≤ w.room
  pub listed : entry_check w.groups 0 ≡ None

abbrev pub AdmitsOne : Held → World → Type 0
AdmitsOne (PutIn p n) w = Removable w p n
AdmitsOne (Took p bs notes) w = Returnable w p (length bs)

-- Each entry of a group, newest first, at its turn.
abbrev pub Admits : List Held → World → Type 0
Admits [] w = Unit {0}
Admits (h ∷ hs) w = AdmitsOne h w × Admits hs (invert h w)
