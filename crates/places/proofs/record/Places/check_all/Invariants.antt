use Rattle.std.proofs.Common.{◌≡◌, drop}
use Rattle.places.specs.DryRun.{edit_check, sight, put_to_all}
use Rattle.places.specs.Model.{model}
use Rattle.places.proofs.record.Places.check_all.Given as goal

abbrev pub invariant-loop-edit : goal.invariant-loop-edit
invariant-loop-edit l = put_to_all (edit_check l.check) (model l.copy) (drop l.edit-index l.edits) ≡ put_to_all (edit_check l.check) (sight l.check (model l.fn.self)) l.edits
