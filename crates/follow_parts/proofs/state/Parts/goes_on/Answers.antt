use Rattle.follow_parts.proofs.Common.{subst, All, PartGoesOn, PartsView, kept_parts}
use Rattle.follow_parts.proofs.GoesOnLemmas.{parts_go_on}
use Rattle.follow_parts.proofs.state.Parts.goes_on.Goals as goal

pub returns : goal.returns
returns c =
    let inside = c.self.inside in
    let s : PartsView = record { rest = inside.rest; parts = inside.parts; reads = inside.reads; now = inside.now } in
    subst (λ (v : PartsView). All PartGoesOn (kept_parts v)) c.self.view_is (parts_go_on s c.self.invariant)
