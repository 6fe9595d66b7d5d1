use Rattle.art_schedules.proofs.optimistic.OwnLemmas.{ways-begin}
use Rattle.art_schedules.proofs.laws.optimistic.ways_begin.Goals as goal

pub returns : goal.returns
returns c = ways-begin
