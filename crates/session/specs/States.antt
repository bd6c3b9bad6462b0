-- The table of states and calls: the state after a call that passes every other check, or none where
-- the state does not admit the call. Assumes nothing.
use Rattle.std.specs.Prelude.{ℕ, Some, None, Ok, Err, Option, Result}
use Rattle.places.specs.Refusals.{Fault}
use Rattle.places.specs.declared.faults.Refusal.{Refusal}
use Rattle.places.specs.declared.faults.Refusal.TheVariants as refusal
use Rattle.store.specs.Refusals.{fault_at}
use Rattle.session.specs.declared.state.State.{State}
use Rattle.session.specs.declared.state.State.TheVariants.{Rest, Chain, Change}
use Rattle.session.specs.declared.state.Kind.{Kind}
use Rattle.session.specs.declared.state.Kind.TheVariants.{Insert, Delete, Set, Boundary, Undo, Redo, RegionUndo, Trim, Protect, Unprotect, Narrow, Widen, Open, Accept, Cancel, Replay, Question}

-- With no change open, from the state s: only a boundary, a replay and a question leave a chain as it
-- is, and undo and redo lead to their place.
abbrev pub next_without : State → Kind → Option State
next_without s Insert = Some Rest
next_without s Delete = Some Rest
next_without s Set = Some Rest
next_without s Boundary = Some s
next_without s (Undo c) = Some (Chain c)
next_without s (Redo c) = Some (Chain c)
next_without s RegionUndo = Some Rest
next_without s Trim = Some Rest
next_without s Protect = Some Rest
next_without s Unprotect = Some Rest
next_without s Narrow = Some Rest
next_without s Widen = Some Rest
next_without s Open = Some Change
next_without s Accept = None
next_without s Cancel = None
next_without s Replay = Some s
next_without s Question = Some s

-- With a change open: edits, set and questions go on in it, accept and cancel end it.
abbrev pub next_within : Kind → Option State
next_within Insert = Some Change
next_within Delete = Some Change
next_within Set = Some Change
next_within Boundary = None
next_within (Undo c) = None
next_within (Redo c) = None
next_within RegionUndo = None
next_within Trim = None
next_within Protect = None
next_within Unprotect = None
next_within Narrow = None
next_within Widen = None
next_within Open = None
next_within Accept = Some Rest
next_within Cancel = Some Rest
next_within Replay = None
next_within Question = Some Change

abbrev pub next_of : State → Kind → Option State
next_of Rest k = next_without Rest k
next_of (Chain c) k = next_without (Chain c) k
next_of Change k = next_within k

abbrev pub refused_in : Option State → Option Refusal
refused_in None = Some refusal.State
refused_in (Some s) = None

-- State: the first check of every call.
abbrev pub state_check : State → Kind → Option Refusal
state_check s k = refused_in (next_of s k)

abbrev pub state_answer : Option State → ℕ → Result State Fault
state_answer None p = Err (fault_at refusal.State p)
state_answer (Some s) p = Ok s

-- The state after the call; a call that is not admitted leaves it.
abbrev pub or_stay : Option State → State → State
or_stay None s = s
or_stay (Some next) s = next

abbrev pub next_in : State → Kind → State
next_in s k = or_stay (next_of s k) s

-- How many groups are below the place of a chain.
abbrev pub below : State → ℕ
below Rest = 0
below (Chain c) = c
below Change = 0

-- How many groups are below the place that a call leads to: 0 where it leads to none.
abbrev pub led_below : Kind → ℕ
led_below Insert = 0
led_below Delete = 0
led_below Set = 0
led_below Boundary = 0
led_below (Undo c) = c
led_below (Redo c) = c
led_below RegionUndo = 0
led_below Trim = 0
led_below Protect = 0
led_below Unprotect = 0
led_below Narrow = 0
led_below Widen = 0
led_below Open = 0
led_below Accept = 0
led_below Cancel = 0
led_below Replay = 0
led_below Question = 0
