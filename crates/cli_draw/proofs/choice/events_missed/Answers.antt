use Rattle.std.proofs.Common.{map, ap, ◌∙◌}
use Rattle.std.proofs.lemmas.Simd.{map-map}
use Rattle.explain_reads_from.specs.declared.missing.Missed.{Missed}
use Rattle.explain_reads_from.specs.Missed.{missed_writes, missed_of}
use Rattle.cli_draw.proofs.choice.events_missed.Goals as goal

pub returns : goal.returns
returns c =
    c.in_ok-places.ensures
    ∙ (ap (map (λ (m : Missed). m.event)) (c.deref.ensures.value ∙ c.in_ok-missed.ensures)
    ∙ map-map (λ (m : Missed). m.event) missed_of (missed_writes c.args.call.now c.args.calls.now))
