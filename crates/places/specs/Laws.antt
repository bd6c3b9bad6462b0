-- What edits keep, in the words of the subject. Assumes nothing.
use Rattle.std.specs.Prelude.{◌≡◌, ℕ, ◌+◌, ◌-◌, ◌<◌, Bool, cond, not, ◌&&◌, Some, None, Option, nat_lt}
use Rattle.places.specs.declared.edit.Edit.{Edit}
use Rattle.places.specs.declared.edit.Edit.TheVariants.{Insertion, Deletion}
use Rattle.places.specs.declared.edit.Origin.{Origin}
use Rattle.places.specs.declared.record.Span.{Span}
use Rattle.places.specs.Carry.{fits}
use Rattle.places.specs.Checks.{in_window}
use Rattle.places.specs.Model.{Model}
use Rattle.places.specs.Spans.{meets, some_span}

-- An edit that the record can be carried through, in the window, that meets no span.
abbrev pub admitted : Model → Origin → Edit → Bool
admitted m o e = fits e m && (in_window m e && not (some_span (meets o e) m.spans))

-- Where an edit puts the byte at place k, or that it takes it out.
abbrev pub byte_after : Edit → ℕ → Option ℕ
byte_after (Insertion p n) k = cond (nat_lt k p) (Some k) (Some (k + n))
byte_after (Deletion p n) k = cond (nat_lt k p) (Some k) (cond (nat_lt k (p + n)) None (Some (k - n)))

-- A span s becomes t and covers the same bytes: its ends are as far apart as they were, and its j-th
-- byte, which the edit leaves in the text, is still its j-th.
pub record SameBytes (e : Edit) (s t : Span) : Type 0 where
  pub long : t.end - t.start ≡ s.end - s.start
  pub bytes : (j : ℕ) → s.start + j < s.end → byte_after e (s.start + j) ≡ Some (t.start + j)
