-- What a record of places means: the text's length, its sixteen markers, its spans in their order
-- and the window's two counts. Assumes nothing.
use Rattle.std.specs.Prelude.{ℕ, List, Ok, Err, Result}
use Rattle.places.specs.Refusals.{Fault}
use Rattle.places.specs.declared.record.Span.{Span}
use Rattle.places.specs.declared.record.Places.{Places}
use Rattle.places.specs.Slots.{spans_of}

pub record Model : Type 0 where
  pub len : ℕ
  pub markers : List ℕ
  pub spans : List Span
  pub before : ℕ
  pub behind : ℕ

abbrev pub model : Places → Model
model r = record { len = r.len; markers = r.markers; spans = spans_of r.spans; before = r.before; behind = r.behind }

-- The same of the answer of a call.
abbrev pub modelled : Result Places Fault → Result Model Fault
modelled (Ok r) = Ok (model r)
modelled (Err f) = Err f
