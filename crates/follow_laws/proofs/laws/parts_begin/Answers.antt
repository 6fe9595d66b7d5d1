use Rattle.follow_laws.proofs.StepLemmas.{parts_begin}
use Rattle.follow_laws.proofs.laws.parts_begin.Goals as goal

pub returns : goal.returns
returns c = parts_begin
