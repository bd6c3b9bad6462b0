use Rattle.region.proofs.Carried.{carries}
use Rattle.region.proofs.laws.carries.Goals as goal

pub returns : goal.returns
returns c = carries
