-- A note of a deletion of n bytes: no distance, or one of at most n. Assumes nothing.
use Rattle.std.specs.Prelude.{ℕ, Bool, true, Some, None, Option, nat_le}

abbrev pub near : ℕ → Option ℕ → Bool
near n None = true
near n (Some d) = nat_le d n
