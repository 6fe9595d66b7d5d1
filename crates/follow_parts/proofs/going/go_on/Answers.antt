use Rattle.follow_parts.proofs.Common.{◌≡◌, ◌∷◌, [], suc, List, map, refl, sym, ◌∙◌, subst, All, KeptPast, kept_of, AreAlive, AreDoubtful, AreGoneOn}
use Rattle.follow_parts.proofs.Common.{IsDead, lefts, lefts_of, past_of, Part, GoneOn, MayBeLeft}
use Rattle.follow_parts.proofs.GoingLemmas.{going_may_be_put, going_is_state, kept_beside}
use Rattle.follow_parts.proofs.going.go_on.Goals as goal

pub settle-requires : goal.settle-requires
settle-requires c =
    let s = c.args.state in
    let part : Part = record {
      ranges = c.args.ranges;
      first = c.in-Alive.first;
      found = c.in-Alive.found;
      others = c.in-Alive.others;
      tried = c.args.tried;
    } in
    let left : All (MayBeLeft s) (part.first.calls ∷ lefts part.others.items) =
    subst (λ (g : GoneOn). All (MayBeLeft s) (lefts_of g)) c.in-Alive.is c.requires in
    going_may_be_put s part left c.calls-calls.ensures.kept

pub returns-in_ok-next-in-Alive-clause-answered : goal.returns-in_ok-next-in-Alive-clause-answered
returns-in_ok-next-in-Alive-clause-answered c start budget old calls pasts at gone reads kept =
    let s = c.args.state in
    let part : Part = record {
      ranges = c.args.ranges;
      first = c.in-Alive.first;
      found = c.in-Alive.found;
      others = c.in-Alive.others;
      tried = c.args.tried;
    } in
    let alive : AreAlive pasts (past_of part.first part.found.items ∷ map kept_of part.others.items) =
    subst (λ (g : GoneOn). AreGoneOn budget pasts g) c.in-Alive.is gone in
    let settled = c.in_ok-next-in-Alive.ensures in
    (settled.state [] start calls (going_is_state s part start calls pasts alive reads kept), settled.now ∙ at)

pub returns-in-Dead-clause-answered : goal.returns-in-Dead-clause-answered
returns-in-Dead-clause-answered c start budget old calls pasts at gone reads kept =
    let dead : (map kept_of c.in-Dead.pasts.items ≡ pasts) × All IsDead pasts =
    subst (λ (g : GoneOn). AreGoneOn budget pasts g) c.in-Dead.is gone in (
      kept_beside c.args.state start (suc old.now) calls pasts (record { ranges = c.args.ranges; pasts = c.in-Dead.pasts }) at dead.0 kept,
      subst (λ (l : List KeptPast). All IsDead l) (sym dead.0) dead.1,
    )

pub returns-in-Doubtful-clause-answered : goal.returns-in-Doubtful-clause-answered
returns-in-Doubtful-clause-answered c start budget old calls pasts at gone reads kept =
    let doubtful : (map kept_of c.in-Doubtful.pasts.items ≡ pasts) × AreDoubtful budget pasts =
    subst (λ (g : GoneOn). AreGoneOn budget pasts g) c.in-Doubtful.is gone in (
      kept_beside c.args.state start (suc old.now) calls pasts (record { ranges = c.args.ranges; pasts = c.in-Doubtful.pasts }) at doubtful.0 kept,
      subst (λ (l : List KeptPast). AreDoubtful budget l) (sym doubtful.0) doubtful.1,
    )

pub returns-in-Dead-clause-ended : goal.returns-in-Dead-clause-ended
returns-in-Dead-clause-ended c budget pasts gone =
    let dead : (map kept_of c.in-Dead.pasts.items ≡ pasts) × All IsDead pasts =
    subst (λ (g : GoneOn). AreGoneOn budget pasts g) c.in-Dead.is gone in
    (refl, dead.0)

pub returns-in-Doubtful-clause-ended : goal.returns-in-Doubtful-clause-ended
returns-in-Doubtful-clause-ended c budget pasts gone =
    let doubtful : (map kept_of c.in-Doubtful.pasts.items ≡ pasts) × AreDoubtful budget pasts =
    subst (λ (g : GoneOn). AreGoneOn budget pasts g) c.in-Doubtful.is gone in
    (refl, doubtful.0)
