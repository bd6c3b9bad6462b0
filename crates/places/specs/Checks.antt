-- The checks that a record of places can put to a call: which refuses it, if any. Assumes nothing.
use Rattle.std.specs.Prelude.{ℕ, ◌-◌, Bool, cond, ◌&&◌, length, Some, None, Option, ◌==◌, nat_le, nat_lt}
use Rattle.places.specs.declared.edit.Edit.{Edit}
use Rattle.places.specs.declared.edit.Origin.{Origin}
use Rattle.places.specs.declared.faults.Refusal.{Refusal}
use Rattle.places.specs.declared.faults.Refusal.TheVariants.{Argument, Place, Presence, SpanTable, Window, Spans}
use Rattle.places.specs.Edits.{place_of, reach}
use Rattle.places.specs.Model.{Model}
use Rattle.places.specs.Spans.{inside, meets, some_span}

-- Markers are numbered 0 to 15.
abbrev pub marker_check : ℕ → Option Refusal
marker_check i = cond (nat_lt 15 i) (Some Argument) None

-- Setting marker i to p: argument, then place.
abbrev pub set_check : ℕ → ℕ → ℕ → Option Refusal
set_check len i p =
    cond (nat_lt 15 i) (Some Argument)
    (cond (nat_lt len p) (Some Place) None)

-- A range from s to e runs forward, and does not end past the length.
abbrev pub range_check : ℕ → ℕ → ℕ → Option Refusal
range_check len s e =
    cond (nat_lt e s) (Some Place)
    (cond (nat_lt len e) (Some Place) None)

-- Protecting a range: it has a byte, and there is no ninth span.
abbrev pub protect_check : Model → ℕ → ℕ → Option Refusal
protect_check m s e =
    cond (nat_lt e s) (Some Place)
    (cond (nat_lt m.len e) (Some Place)
    (cond (s == e) (Some Place)
    (cond (nat_le 8 (length m.spans)) (Some SpanTable) None)))

-- Unprotecting a range: some span lies wholly inside.
abbrev pub unprotect_check : Model → ℕ → ℕ → Option Refusal
unprotect_check m s e =
    cond (nat_lt e s) (Some Place)
    (cond (nat_lt m.len e) (Some Place)
    (cond (some_span (inside s e) m.spans) None (Some Presence)))

-- An edit stays within the length.
abbrev pub place_check : Model → Edit → Option Refusal
place_check m e = cond (nat_lt m.len (reach e)) (Some Place) None

-- An edit lies between the window's counts, edges included.
abbrev pub in_window : Model → Edit → Bool
in_window m e = nat_le m.before (place_of e) && nat_le (reach e) (m.len - m.behind)

abbrev pub window_check : Model → Edit → Option Refusal
window_check m e = cond (in_window m e) None (Some Window)

-- So does a region.
abbrev pub region_check : Model → ℕ → ℕ → Option Refusal
region_check m s e = cond (nat_le m.before s && nat_le e (m.len - m.behind)) None (Some Window)

-- An edit meets no span.
abbrev pub span_check : Model → Origin → Edit → Option Refusal
span_check m o e = cond (some_span (meets o e) m.spans) (Some Spans) None
