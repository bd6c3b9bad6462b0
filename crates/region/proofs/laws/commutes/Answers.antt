use Rattle.region.proofs.Carried.{commutes}
use Rattle.region.proofs.laws.commutes.Goals as goal

pub returns : goal.returns
returns c = commutes
