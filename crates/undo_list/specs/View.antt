-- What an undo list holds, as a plain list. Assumes nothing.
use Rattle.std.specs.Prelude.{vec_items}
use Rattle.undo_list.specs.declared.list.UndoList.{UndoList}
use Rattle.undo_list.specs.Groups.{Groups}
use Rattle.undo_list.specs.Spell.{entries_of, spell, grouped}

unfoldable pub view : UndoList → Groups
view l = grouped (vec_items l.ends) (spell (entries_of (vec_items l.stored)) (vec_items l.kept))
