-- What each call leaves of a record of places. Assumes nothing.
use Rattle.std.specs.Prelude.{ℕ, ◌-◌, not, List, [], ◌∷◌, ◌++◌, replicate, filter, slice_set}
use Rattle.places.specs.Markers.{markers_within}
use Rattle.places.specs.Model.{Model}
use Rattle.places.specs.Spans.{inside}

-- All markers at 0, no span, no narrowing.
abbrev pub fresh : ℕ → Model
fresh len = record { len = len; markers = replicate 16 0; spans = []; before = 0; behind = 0 }

-- Marker i at p.
abbrev pub with_marker : ℕ → ℕ → Model → Model
with_marker i p m = record { len = m.len; markers = slice_set m.markers i p; spans = m.spans; before = m.before; behind = m.behind }

-- All sixteen markers, each cut to the length.
abbrev pub with_markers : List ℕ → Model → Model
with_markers ms m = record { len = m.len; markers = markers_within m.len ms; spans = m.spans; before = m.before; behind = m.behind }

-- One span more, behind the others.
abbrev pub protected : ℕ → ℕ → Model → Model
protected s e m = record { len = m.len; markers = m.markers; spans = m.spans ++ record { start = s; end = e } ∷ []; before = m.before; behind = m.behind }

-- Without the spans that lie wholly in s to e; the others keep their order.
abbrev pub unprotected : ℕ → ℕ → Model → Model
unprotected s e m = record { len = m.len; markers = m.markers; spans = filter (λ span. not (inside s e span)) m.spans; before = m.before; behind = m.behind }

-- Without any span.
abbrev pub unguarded : Model → Model
unguarded m = record { len = m.len; markers = m.markers; spans = []; before = m.before; behind = m.behind }

-- s bytes before the window, and the length less e behind it.
abbrev pub narrowed : ℕ → ℕ → Model → Model
narrowed s e m = record { len = m.len; markers = m.markers; spans = m.spans; before = s; behind = m.len - e }

abbrev pub widened : Model → Model
widened m = record { len = m.len; markers = m.markers; spans = m.spans; before = 0; behind = 0 }
