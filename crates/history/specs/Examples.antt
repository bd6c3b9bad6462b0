-- The worked examples of the rules, on the definitions. Assumes nothing.
use Rattle.std.specs.Prelude.{◌≡◌, ℕ, List, [], ◌∷◌, ◌++◌, codes, slice_index}
use Rattle.places.specs.declared.faults.Refusal.{Refusal}
use Rattle.places.specs.declared.faults.Refusal.TheVariants.{Presence, Window, Spans}
use Rattle.places.specs.declared.record.Span.{Span}
use Rattle.store.specs.Refusals.{fault_at}
use Rattle.calls.specs.Replies.{Reply, done, place, undone, refusal}
use Rattle.calls.specs.Said.{Said, insert, delete, set_marker, boundary, undo, redo, region_undo, protect, narrow, open_change, cancel}
use Rattle.session.specs.World.{World, new_world}
use Rattle.history.specs.Runs.{world_after}
use Rattle.history.specs.Steps.{reply}

-- A new session over an empty store of 100 bytes, after some calls.
abbrev pub after_calls : List Said → World
after_calls cs = world_after (new_world [] 100) cs

abbrev pub text_of : List Said → List ℕ
text_of cs = (after_calls cs).text

-- What a call answers behind the others.
abbrev pub answer_to : List Said → Said → Reply
answer_to cs c = reply (after_calls cs) c

abbrev pub refused_at : Refusal → ℕ → Reply
refused_at why p = refusal (fault_at why p)

abbrev pub marker_in : List Said → ℕ → ℕ
marker_in cs m = slice_index (after_calls cs).places.markers m

abbrev pub spans_of : List Said → List Span
spans_of cs = (after_calls cs).places.spans

abbrev pub span : ℕ → ℕ → Span
span s e = record { start = s; end = e }

-- A span from 2 to 5 in six bytes, each call alone: an insert at 3 meets it, one byte at 2 moves it, one
-- at 5 leaves it, and a deletion of 2 at 1 meets it.
abbrev guarded : List Said
guarded = insert 0 (codes "abcdef") ∷ protect 2 5 ∷ []

pub record SpanInSixBytes : Type 0 where
  pub inside : answer_to guarded (insert 3 (codes "x")) ≡ refused_at Spans 3
  pub at_start : spans_of (guarded ++ insert 2 (codes "x") ∷ []) ≡ span 3 6 ∷ []
  pub at_end : spans_of (guarded ++ insert 5 (codes "x") ∷ []) ≡ span 2 5 ∷ []
  pub shared : answer_to guarded (delete 1 2) ≡ refused_at Spans 1

-- Six bytes narrowed to 2, 5, each call alone: inserts at 2 and 5 pass, at 1 and 6 they do not.
abbrev narrowed_six : List Said
narrowed_six = insert 0 (codes "abcdef") ∷ narrow 2 5 ∷ []

pub record SixBytesNarrowed : Type 0 where
  pub at_start : answer_to narrowed_six (insert 2 (codes "x")) ≡ done
  pub at_end : answer_to narrowed_six (insert 5 (codes "x")) ≡ done
  pub before : answer_to narrowed_six (insert 1 (codes "x")) ≡ refused_at Window 1
  pub behind : answer_to narrowed_six (insert 6 (codes "x")) ≡ refused_at Window 6

-- "abc", then "XY" at 1, a boundary after each: three undos, and three redos.
abbrev two_groups : List Said
two_groups = insert 0 (codes "abc") ∷ boundary ∷ insert 1 (codes "XY") ∷ boundary ∷ []

abbrev undone_twice : List Said
undone_twice = two_groups ++ undo ∷ undo ∷ undo ∷ []

pub record ThereAndBack : Type 0 where
  pub undo_1 : answer_to two_groups undo ≡ place 1
  pub text_1 : text_of (two_groups ++ undo ∷ []) ≡ codes "abc"
  pub undo_2 : answer_to (two_groups ++ undo ∷ []) undo ≡ place 0
  pub text_2 : text_of (two_groups ++ undo ∷ undo ∷ []) ≡ codes ""
  pub undo_3 : answer_to (two_groups ++ undo ∷ undo ∷ []) undo ≡ refused_at Presence 0
  pub redo_1 : answer_to undone_twice redo ≡ place 1
  pub text_3 : text_of (undone_twice ++ redo ∷ []) ≡ codes "abc"
  pub redo_2 : answer_to (undone_twice ++ redo ∷ []) redo ≡ place 2
  pub text_4 : text_of (undone_twice ++ redo ∷ redo ∷ []) ≡ codes "aXYbc"
  pub redo_3 : answer_to (undone_twice ++ redo ∷ redo ∷ []) redo ≡ refused_at Presence 0

-- "a", "b" at 1, an undo, "c" at 1, then four undos: an undo is itself undone.
abbrev undo_and_on : List Said
undo_and_on = insert 0 (codes "a") ∷ boundary ∷ insert 1 (codes "b") ∷ boundary ∷ undo ∷ insert 1 (codes "c") ∷ []

pub record UndoUndone : Type 0 where
  pub text_1 : text_of (undo_and_on ++ undo ∷ []) ≡ codes "a"
  pub text_2 : text_of (undo_and_on ++ undo ∷ undo ∷ []) ≡ codes "ab"
  pub text_3 : text_of (undo_and_on ++ undo ∷ undo ∷ undo ∷ []) ≡ codes "a"
  pub text_4 : text_of (undo_and_on ++ undo ∷ undo ∷ undo ∷ undo ∷ []) ≡ codes ""

-- "one two", "X" at 1, "Y" at 6, a boundary after each: a region undo of 0 to 4 takes "X" back.
abbrev three_groups : List Said
three_groups = insert 0 (codes "one two") ∷ boundary ∷ insert 1 (codes "X") ∷ boundary ∷ insert 6 (codes "Y") ∷ boundary ∷ []

pub record RegionTakesOne : Type 0 where
  pub counts : answer_to three_groups (region_undo 0 4 2) ≡ undone 1 1
  pub text : text_of (three_groups ++ region_undo 0 4 2 ∷ []) ≡ codes "one tYwo"

-- "abcd", 2 deleted at 1, "X" at 1, a boundary after each: a region undo of 2 to 3 brings "bc" back.
pub record RegionBringsBack : Type 0 where
  pub text : text_of (insert 0 (codes "abcd") ∷ boundary ∷ delete 1 2 ∷ boundary ∷ insert 1 (codes "X") ∷ boundary ∷ region_undo 2 3 1 ∷ []) ≡ codes "aXbcd"

-- "abcdef", marker 3 at 3, marker 9 at 1, a boundary, 4 deleted at 1: both at 1, and undo puts them back.
abbrev markers_gone : List Said
markers_gone = insert 0 (codes "abcdef") ∷ set_marker 3 3 ∷ set_marker 9 1 ∷ boundary ∷ delete 1 4 ∷ []

pub record MarkersComeBack : Type 0 where
  pub gone_3 : marker_in markers_gone 3 ≡ 1
  pub gone_9 : marker_in markers_gone 9 ≡ 1
  pub back_3 : marker_in (markers_gone ++ undo ∷ []) 3 ≡ 3
  pub back_9 : marker_in (markers_gone ++ undo ∷ []) 9 ≡ 1

-- In a change "b" is typed and marker 0 set, then it is cancelled: as after the opening.
abbrev in_change : List Said
in_change = insert 0 (codes "a") ∷ open_change ∷ insert 1 (codes "b") ∷ set_marker 0 1 ∷ cancel ∷ []

pub record ChangeCancelled : Type 0 where
  pub text : text_of in_change ≡ codes "a"
  pub marker : marker_in in_change 0 ≡ 0

pub record WorkedExamples : Type 0 where
  pub span_in_six_bytes : SpanInSixBytes
  pub six_bytes_narrowed : SixBytesNarrowed
  pub there_and_back : ThereAndBack
  pub undo_undone : UndoUndone
  pub region_takes_one : RegionTakesOne
  pub region_brings_back : RegionBringsBack
  pub markers_come_back : MarkersComeBack
  pub change_cancelled : ChangeCancelled
