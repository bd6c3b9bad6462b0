-- Reading a list: one call to a line; blank lines, and lines that begin with #, are passed over.
-- Assumes nothing.
use Rattle.std.specs.Prelude.{◌≡◌, ℕ, ◌+◌, Bool, true, cond, List, [], ◌∷◌, ◌++◌, map, Ok, Err, vec_items, Result, ◌==◌}
use Rattle.call_list.specs.declared.expected.Expected.{Expected}
use Rattle.call_list.specs.declared.expected.Unread.{Unread}
use Rattle.call_list.specs.declared.expected.Unread.TheVariants.{Malformed, NoMemory}
use Rattle.call_list.specs.declared.reading.CallList.{CallList}
use Rattle.line_parts.specs.Blanks.{past_blanks}
use Rattle.call_list.specs.Lines.{Line, Said, call_line, expects, reads, said_by}

-- The lines of a text, without their ends; one that ends in a line's end has no line behind it.
abbrev pub onto : ℕ → List (List ℕ) → List (List ℕ)
onto b [] = (b ∷ []) ∷ []
onto b (l ∷ ls) = (b ∷ l) ∷ ls

abbrev pub lines_of : List ℕ → List (List ℕ)
lines_of [] = []
lines_of (b ∷ bs) = cond (b == 10) ([] ∷ lines_of bs) (onto b (lines_of bs))

abbrev pub is_remark : List ℕ → Bool
is_remark [] = true
is_remark (b ∷ bs) = b == 35

abbrev pub passed_over : List ℕ → Bool
passed_over l = is_remark (past_blanks l)

-- A list that is read: the numbers of the lines with calls, counted from 1, and the calls; or the
-- first line that is none, and what was expected there.
pub data Listed : Type 0 where
  all : List ℕ → List Said → Listed
  stops : ℕ → Expected → Listed

-- Calls that were read before.
abbrev pub joined : List ℕ → List Said → Listed → Listed
joined ns ss (all ms ts) = all (ns ++ ms) (ss ++ ts)
joined ns ss (stops n e) = stops n e

abbrev pub by_line : ℕ → Line → Listed → Listed
by_line n (reads s) rest = joined (n ∷ []) (s ∷ []) rest
by_line n (expects e) rest = stops n e

-- The n-th line, before the rest.
abbrev pub at_line : ℕ → List ℕ → Listed → Listed
at_line n l rest = cond (passed_over l) rest (by_line n (call_line l) rest)

-- The lines behind the n-th.
abbrev pub listed : ℕ → List (List ℕ) → Listed
listed n [] = all [] []
listed n (l ∷ ls) = at_line (n + 1) l (listed (n + 1) ls)

-- The calls that a list holds, before the rest.
abbrev pub held : CallList → Listed → Listed
held v rest = joined (vec_items v.lines) (map said_by (vec_items v.calls)) rest

abbrev pub Lists : Result CallList Unread → List ℕ → Type 0
Lists (Ok v) t = listed 0 (lines_of t) ≡ all (vec_items v.lines) (map said_by (vec_items v.calls))
Lists (Err (Malformed n e)) t = listed 0 (lines_of t) ≡ stops n e
Lists (Err NoMemory) t = Unit {0}

-- A line was added to what is held, whatever comes behind it.
abbrev pub Adds : Result (Unit {0}) Unread → CallList → ℕ → List ℕ → CallList → Type 0
Adds (Ok u) v n l w = (rest : Listed) → held v (at_line n l rest) ≡ held w rest
Adds (Err (Malformed m e)) v n l w = (rest : Listed) → held v (at_line n l rest) ≡ stops m e
Adds (Err NoMemory) v n l w = Unit {0}

abbrev pub AddsCall : Result (Unit {0}) Unread → CallList → ℕ → Said → CallList → Type 0
AddsCall (Ok u) v n s w = (rest : Listed) → held v (joined (n ∷ []) (s ∷ []) rest) ≡ held w rest
AddsCall (Err (Malformed m e)) v n s w = ⊥
AddsCall (Err NoMemory) v n s w = Unit {0}
