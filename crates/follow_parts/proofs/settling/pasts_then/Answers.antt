use Rattle.follow_parts.proofs.Common.{List, sym, subst, AreCut, AreShaped, IsMade, Past}
use Rattle.follow_cuts.specs.declared.cut.Cut.{Cut}
use Rattle.follow_parts.proofs.ThenLemmas.{pasts_shaped, then_of}
use Rattle.follow_parts.proofs.settling.pasts_then.Goals as goal

pub pasts_at-requires : goal.pasts_at-requires
pasts_at-requires c =
    subst AreShaped (sym c.deref.ensures.value)
    (pasts_shaped c.args.part.now c.in_ok-pasts.pasts.items c.in_ok-pasts.ensures c.requires)

pub returns-in-Pasts : goal.returns-in-Pasts
returns-in-Pasts c =
    let cut : AreCut c.args.moment 64 c.in_ok-pasts.pasts.items c.in-Pasts.made.items =
    subst (λ (ps : List Past). AreCut c.args.moment 64 ps c.in-Pasts.made.items) c.deref.ensures.value
    (subst (λ (cut : Cut). IsMade c.args.moment 64 c.deref.result.now cut) c.in-Pasts.is c.in_ok-made.ensures) in
    then_of c.args.moment 64 c.args.part.now c.in_ok-pasts.pasts.items c.in-Pasts.made.items c.in_ok-those_alive-in-Pasts.field-0.items
    c.in_ok-pasts.ensures cut c.in_ok-those_alive-in-Pasts.ensures
