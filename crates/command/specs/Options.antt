-- The values of options. Assumes nothing.
use Rattle.std.specs.Prelude.{ℕ, List, codes}
use Rattle.command.specs.declared.over.Make.{Make}
use Rattle.command.specs.declared.over.Make.TheVariants.{Gap, Pieces}

abbrev pub make_name : Make → List ℕ
make_name Gap = codes "gap"
make_name Pieces = codes "pieces"
