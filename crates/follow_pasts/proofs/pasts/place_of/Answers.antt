use Rattle.follow_pasts.proofs.Common.{◌<◌, length, get_or, sym, subst, arith, ◌≢◌, get_or_read, Operation}
use Rattle.follow_pasts.proofs.PastLemmas.{none_at}
use Rattle.follow_pasts.proofs.pasts.place_of.Goals.{else-place-calls-via-then-place-calls+else-calls-place, else-place-calls-via-else-place-calls}
use Rattle.follow_pasts.proofs.pasts.place_of.Goals as goal

pub returns : goal.returns
returns c =
    let calls = c.args.calls.now in
    let place = c.place_for-place.result in
    let here : place < length calls → (d : Operation) → (get_or calls place d).inv ≢ c.args.inv = λ within d. elim c.else-place-calls.branch [
      | else-place-calls-via-then-place-calls+else-calls-place w ↦
          subst (λ (a : Operation). a.inv ≢ c.args.inv)
          (get_or_read calls place w.index-calls-place.result within w.index-calls-place.is d)
          (subst (λ (a : Operation). a.inv ≢ c.args.inv) (sym w.index-calls-place.is) w.if-calls-place.false)
      | else-place-calls-via-else-place-calls w ↦ absurd (omega (arith, w.if-place-calls.false, within))
    ] in
    none_at c.args.inv calls place c.place_for-place.ensures here c.requires
