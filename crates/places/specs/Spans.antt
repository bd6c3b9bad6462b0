-- Where a span goes when the text changes, and when an edit meets it. Assumes nothing.
use Rattle.std.specs.Prelude.{ℕ, ◌+◌, ◌-◌, Bool, cond, ◌&&◌, List, nat_le, nat_lt}
use Rattle.std.specs.List.{list_any}
use Rattle.places.specs.declared.edit.Edit.{Edit}
use Rattle.places.specs.declared.edit.Edit.TheVariants.{Insertion, Deletion}
use Rattle.places.specs.declared.edit.Origin.{Origin}
use Rattle.places.specs.declared.edit.Origin.TheVariants.{Call, Undo}
use Rattle.places.specs.declared.record.Span.{Span}

-- A span at or behind the place of an insertion moves with its text; an earlier one stays.
abbrev pub span_inserted : ℕ → ℕ → Span → Span
span_inserted p n s = cond (nat_le p s.start) (record { start = s.start + n; end = s.end + n }) s

-- A span behind a deleted range moves with its text; an earlier one stays.
abbrev pub span_deleted : ℕ → ℕ → Span → Span
span_deleted p n s = cond (nat_le (p + n) s.start) (record { start = s.start - n; end = s.end - n }) s

abbrev pub span_after : Edit → Span → Span
span_after (Insertion p n) s = span_inserted p n s
span_after (Deletion p n) s = span_deleted p n s

-- An insert call at p meets a span that has p inside.
abbrev pub call_meets : ℕ → Span → Bool
call_meets p s = nat_lt s.start p && nat_lt p s.end

-- So does an insertion that an undo makes. The two rules are apart, so that one can change alone.
abbrev pub undo_meets : ℕ → Span → Bool
undo_meets p s = nat_lt s.start p && nat_lt p s.end

abbrev pub insertion_meets : Origin → ℕ → Span → Bool
insertion_meets Call p s = call_meets p s
insertion_meets Undo p s = undo_meets p s

-- A deletion meets a span that it shares a byte with.
abbrev pub deletion_meets : ℕ → ℕ → Span → Bool
deletion_meets p n s = nat_lt 0 n && (nat_lt p s.end && nat_lt s.start (p + n))

abbrev pub meets : Origin → Edit → Span → Bool
meets o (Insertion p n) s = insertion_meets o p s
meets o (Deletion p n) s = deletion_meets p n s

-- A span lies wholly in the range from s to e.
abbrev pub inside : ℕ → ℕ → Span → Bool
inside s e span = nat_le s span.start && nat_le span.end e

-- Whether a test holds of some span.
abbrev pub some_span : (Span → Bool) → List Span → Bool
some_span test ss = list_any test ss
