-- The words before the first step: the starting pairs were inserted by one process alone, as a serial schedule.
use Rattle.art_schedules.proofs.Common.{arith, inserts, SameTreesAreOne, ScansAreTheMaps, StartsAreAtRest}
use Rattle.art_schedules.specs.trees.Trees.{TablesOpenAtRest}
use Rattle.art_schedules.specs.alone.Laws.{SeeksAreTheMaps}
use Rattle.art_schedules.specs.inserts.Laws.{InsertsAreTheMaps}
use Rattle.art_schedules.proofs.serial.StartKeptLemmas.{start-keeps, start-within}
use Rattle.art_schedules.proofs.maps.SerialMapLemmas.{IsMap, is-kept}

pub starts-at-rest : TablesOpenAtRest → SameTreesAreOne → SeeksAreTheMaps → ScansAreTheMaps → InsertsAreTheMaps → StartsAreAtRest
starts-at-rest opens same seeks scans inserts plan start words schedule s run =
    let within = run.within.shape in
    let opened = opens plan.shape within.root in
    let few = run.start_within.few in
    let started = start-keeps (IsMap plan.shape) plan.shape plan.variant start words
    (start-within plan.shape plan.variant start within run.start_within.calls (omega arith)) run.start_within.rising run.starts
    (is-kept same plan.shape within seeks scans inserts plan.variant)
    (record { rest = opened.0; means = opened.1; few = omega arith }) in
    (started.rest, started.means)
