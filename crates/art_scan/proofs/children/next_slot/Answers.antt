use Rattle.art_scan.proofs.Common.{refl, ap, ◌∙◌, inl, Sixteen, frame_slot}
use Rattle.art_scan.proofs.KeyByteLemmas.{bare_slot}
use Rattle.art_scan.proofs.children.next_slot.Goals as goal

pub returns-in-Sixteen-clause-bare : goal.returns-in-Sixteen-clause-bare
returns-in-Sixteen-clause-bare c = λ y from below.
    inl (ap (λ k. frame_slot k c.args.frame.now y) c.in-Sixteen.is ∙ bare_slot Sixteen c.args.frame.now y refl
    (c.next_key16-key.ensures.bare y from below))
