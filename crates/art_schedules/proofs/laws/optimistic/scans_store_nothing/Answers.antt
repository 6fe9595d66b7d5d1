use Rattle.art_schedules.proofs.optimistic.QuietLemmas.{scans-store-nothing}
use Rattle.art_schedules.proofs.laws.optimistic.scans_store_nothing.Goals as goal

pub returns : goal.returns
returns c = scans-store-nothing
