-- Change groups: a change is opened, and accepted or cancelled. Assumes nothing.
use Rattle.std.specs.Prelude.{ℕ, List, [], ◌∷◌, length}
use Rattle.store.specs.Edits.{inserted_at, deleted_at, unless}
use Rattle.undo_list.specs.Groups.{Held, PutIn, Took}
use Rattle.session.specs.declared.state.State.TheVariants.{Rest, Change}
use Rattle.session.specs.declared.state.Kind.TheVariants.{Open, Accept, Cancel}
use Rattle.session.specs.States.{state_check}
use Rattle.session.specs.Undo.{with_closed}
use Rattle.session.specs.World.{World, in_state, fitted}

-- Open closes an open group, and notes markers, spans and window. What was noted of the list needs no
-- copy: in a change no group closes, so the closed groups stay.
unfoldable pub opened : World → World
opened w = let v = with_closed w in record { text = v.text; room = v.room; places = v.places; groups = v.groups; state = Change; made = v.made; noted = v.places }

unfoldable pub open_world : World → World
open_world w = unless (state_check w.state Open) (opened w) w

-- Accept ends the change, and closes its group, if it has one.
unfoldable pub accept_world : World → World
accept_world w = unless (state_check w.state Accept) (in_state Rest (with_closed w)) w

-- The text before the entries of a group, newest first.
abbrev pub text_before : List Held → List ℕ → List ℕ
text_before [] t = t
text_before (PutIn p n ∷ hs) t = text_before hs (deleted_at t p n)
text_before (Took p bs notes ∷ hs) t = text_before hs (inserted_at t p bs)

-- Cancel inverts the change's entries without recording, and puts back what open noted. It heeds no
-- window and no span.
unfoldable pub cancelled : World → World
cancelled w =
    let t = text_before w.groups.opened w.text in
    record { text = t; room = w.room; places = fitted (length t) w.noted; groups = record { closed = w.groups.closed; opened = [] }; state = Rest; made = w.made; noted = w.noted }

unfoldable pub cancel_world : World → World
cancel_world w = unless (state_check w.state Cancel) (cancelled w) w
