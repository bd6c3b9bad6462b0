use Rattle.region.proofs.Alike.{walked_alike}
use Rattle.region.proofs.laws.walked_alike.Goals as goal

pub returns : goal.returns
returns g c = walked_alike
