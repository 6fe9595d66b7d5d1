use Rattle.follow_cuts.proofs.Common.{[], ◌∷◌, Option, arith, sym, subst, IfSome, AreCut, Past}
use Rattle.follow_cuts.proofs.AloneLemmas.{more_allowed}
use Rattle.follow_cuts.proofs.cut.pasts_at.Goals as goal

pub returns-in_ok-vec-in-Some : goal.returns-in_ok-vec-in-Some
returns-in_ok-vec-in-Some c =
    let pasts = c.args.pasts.now in
    let moment = c.args.moment in
    let one : AreCut moment 1 pasts (c.in-Some.past ∷ []) =
    subst (λ (r : Option Past). IfSome r (λ past. AreCut moment 1 pasts (past ∷ []))) c.in-Some.is c.in_ok-past.ensures in
    more_allowed moment c.args.limits.pasts pasts c.in_ok-vec-in-Some.field-0.items (omega (arith, c.if-limits-eq0.false))
    (subst (AreCut moment 1 pasts) (sym c.in_ok-vec-in-Some.ensures.items) one)
