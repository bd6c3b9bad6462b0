-- The spans that are held in slots: the first of them. Assumes nothing.
use Rattle.std.specs.Prelude.{List, take}
use Rattle.places.specs.declared.record.Span.{Span}
use Rattle.places.specs.declared.spans.Spans.{Spans}

abbrev pub spans_of : Spans → List Span
spans_of s = take s.count s.slots
