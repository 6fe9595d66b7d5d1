use Rattle.follow_parts.proofs.Common.{ap, refl, sym, ◌∙◌, subst, arith, AreShaped}
use Rattle.follow_parts.proofs.ReadLemmas.{shaped_after, some_after, first_rises}
use Rattle.follow_parts.proofs.reading.read_in_united.Goals as goal

pub add_read-requires-clause-shaped : goal.add_read-requires-clause-shaped
add_read-requires-clause-shaped c =
    subst AreShaped (sym (c.deref_mut.ensures.value ∙ ap (λ r. r.2.items) c.apart-ranges.ensures)) c.requires.shaped

pub places_with-requires : goal.places_with-requires
places_with-requires c =
    let pasts = c.apart-ranges.result.2 in
    first_rises _ c.index.result.now c.index.result.now.calls.items
    (shaped_after c.args.operation pasts.len c.args.united.pasts.items pasts.items c.deref_mut.result.now c.add_read.new.pasts
    (ap (λ r. r.2.items) c.apart-ranges.ensures) c.deref_mut.ensures.value (omega (arith, pasts.ok.0)) c.in_ok-add_read.ensures c.requires.last
    c.requires.shaped)
    (some_after c.args.operation pasts.len c.args.united.pasts.items pasts.items c.deref_mut.result.now c.add_read.new.pasts
    (ap (λ r. r.2.items) c.apart-ranges.ensures) c.deref_mut.ensures.value (omega (arith, pasts.ok.0)) c.in_ok-add_read.ensures
    c.requires.some)
    c.index.ensures refl

pub any_alive-requires : goal.any_alive-requires
any_alive-requires c =
    let pasts = c.apart-ranges.result.2 in
    shaped_after c.args.operation pasts.len c.args.united.pasts.items pasts.items c.deref_mut.result.now c.add_read.new.pasts
    (ap (λ r. r.2.items) c.apart-ranges.ensures) c.deref_mut.ensures.value (omega (arith, pasts.ok.0)) c.in_ok-add_read.ensures c.requires.last
    c.requires.shaped
