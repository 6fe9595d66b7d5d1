use Rattle.follow_violations.proofs.Common.{kept_of, origin_in, Origin, Put, ◌≡◌, ◌∙◌, List, ap, map, subst, IfOk-weaker, ◌↔◌, Contains}
use Rattle.follow_violations.proofs.WriterLemmas.{all_origins}
use Rattle.follow_violations.proofs.writers.origins_at.Goals as goal

pub returns-clause-same : goal.returns-clause-same
returns-clause-same c =
    let pasts = c.args.pasts.now in
    let key = c.args.key in
    let is : map (λ past. origin_in c.deref.result.now key (kept_of past)) pasts ≡ map (origin_in c.args.puts.now key) (map kept_of pasts) =
    ap (λ (own : List Put). map (λ past. origin_in own key (kept_of past)) pasts) (c.deref.ensures.value ∙ c.in_ok-own.ensures)
    ∙ all_origins c.args.puts.now key pasts in
    IfOk-weaker c.origins_in.result _ _
    (λ from same origin. subst (λ (os : List Origin). Contains from.items origin ↔ Contains os origin) is (same origin)) c.origins_in.ensures.same
