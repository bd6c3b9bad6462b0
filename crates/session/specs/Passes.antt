-- What it means that an edit passed every check that a text asks of it. It follows from the checks, and
-- is said apart so that a caller need not prove it. Assumes nothing.
use Rattle.std.specs.Prelude.{◌≡◌, ℕ, ◌+◌, ◌≤◌, true, false, None}
use Rattle.places.specs.declared.edit.Edit.TheVariants.{Deletion}
use Rattle.places.specs.declared.edit.Origin.TheVariants.{Call}
use Rattle.places.specs.Checks.{in_window}
use Rattle.places.specs.Model.{Model}
use Rattle.places.specs.Spans.{meets, some_span}
use Rattle.session.specs.Calls.{insertion_check, deletion_check}

pub record Insertable (m : Model) (room p n : ℕ) : Type 0 where
  pub passes : insertion_check m room p n ≡ None
  pub some : 1 ≤ n
  pub few : n ≤ 4096
  pub place : p ≤ m.len
  pub fits : m.len + n ≤ room

pub record Deletable (m : Model) (p n : ℕ) : Type 0 where
  pub passes : deletion_check m p n ≡ None
  pub some : 1 ≤ n
  pub few : n ≤ 4096
  pub place : p + n ≤ m.len
  pub window : in_window m (Deletion p n) ≡ true
  pub clear : some_span (meets Call (Deletion p n)) m.spans ≡ false
