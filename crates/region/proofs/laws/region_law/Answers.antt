use Rattle.region.proofs.Walked.{region_law}
use Rattle.region.proofs.laws.region_law.Goals as goal

pub returns : goal.returns
returns c = region_law
