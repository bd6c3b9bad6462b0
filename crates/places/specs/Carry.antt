-- What an edit leaves of a record of places, and what the inversion of a deletion does. Assumes
-- nothing.
use Rattle.std.specs.Prelude.{ℕ, ◌+◌, ◌^◌, Bool, cond, not, ◌&&◌, List, map, Option, nat_le, nat_lt}
use Rattle.places.specs.declared.edit.Edit.{Edit}
use Rattle.places.specs.declared.edit.Edit.TheVariants.{Insertion, Deletion}
use Rattle.places.specs.declared.edit.Origin.TheVariants.{Call}
use Rattle.places.specs.Checks.{in_window}
use Rattle.places.specs.Edits.{len_after}
use Rattle.places.specs.Markers.{markers_after, markers_put_back}
use Rattle.places.specs.Model.{Model}
use Rattle.places.specs.Spans.{span_after, meets, some_span}

-- The edits that a record is carried through: an insertion within the length, whose sum the machine
-- can hold; a deletion that lies in the window and meets no span, since it would leave a count or a
-- span without its bytes. Every edit that passes the checks of a call is one of these.
abbrev pub fits : Edit → Model → Bool
fits (Insertion p n) m = nat_le p m.len && nat_lt (m.len + n) (2 ^ 64)
fits (Deletion p n) m = in_window m (Deletion p n) && not (some_span (meets Call (Deletion p n)) m.spans)

-- Each marker by its number, each span and the length follow the edit; the window's counts stay.
abbrev pub carried : Edit → Model → Model
carried e m = record { len = len_after e m.len; markers = markers_after e m.markers; spans = map (span_after e) m.spans; before = m.before; behind = m.behind }

-- An edit that does not fit leaves the record as it is.
abbrev pub after : Edit → Model → Model
after e m = cond (fits e m) (carried e m) m

-- The inversion of a deletion of n bytes at p: they go back, each marker is carried, and each noted
-- one that stood at p goes to its distance.
abbrev pub restored : ℕ → ℕ → List (Option ℕ) → Model → Model
restored p n notes m = record { len = m.len + n; markers = markers_put_back p n notes m.markers; spans = map (span_after (Insertion p n)) m.spans; before = m.before; behind = m.behind }

abbrev pub deletion_inverted : ℕ → ℕ → List (Option ℕ) → Model → Model
deletion_inverted p n notes m = cond (fits (Insertion p n) m) (restored p n notes m) m
