-- In a run with a story each call has its effect within itself.
use Rattle.art_schedules.proofs.Common.{◌≡◌, ℕ, ◌+◌, ◌<◌, ◌≤◌, false, List, length, refl, sym, ◌∙◌, subst, inl, inr, ⊎_elim, arith, IfSome}
use Rattle.art_schedules.proofs.Common.{cases_lt, take-length, false≢true, slice_get_within, Reply, Operation, Response, pair_limit, Contents}
use Rattle.art_schedules.proofs.Common.{Does, DoesCall, Plan, State, opened_on, Gives, At, EndsWith, IsWithin, RunCall, IsRunCall, IsStepOf}
use Rattle.art_schedules.proofs.Common.{ChangesNothing, Pends, HasOwnEffect, EffectsGiveOrders, IsRun, Status, Before, Found, Changed, HasReply}
use Rattle.art_schedules.proofs.Common.{Trace, IsInCall, HasKept, HasStatus, IsStory, IsOwnStep, StoriesGiveOrders}
use Rattle.std.proofs.Common.{Option, Some, None}
use Rattle.std.specs.Prelude.{◌⊎◌}
use Rattle.art_schedules.specs.calls.Effects.{Changes, Finds}
use Rattle.art_schedules.proofs.calls.FewLemmas.{effects-few}
use Rattle.art_schedules.proofs.calls.MomentLemmas.{earlier-moment}
use Rattle.art_schedules.specs.stories.Stories.{HasChanged}
use Rattle.art_schedules.specs.stories.Laws.{StoriesGiveEffects}

module _ (plan : Plan) (start : Contents) (first s : State) (schedule : List ℕ) (tale : Trace)
    (gives : At plan first schedule (length schedule) s)
    (story : IsStory plan start first schedule tale) (a : Operation) (c : RunCall) (is : IsRunCall plan first schedule a c) where
  -- the moments within the call are those at which its process is in it
  in-call : (u : ℕ) → u ≤ length schedule → IsWithin c u → IsInCall plan first schedule u c.process c.calls a.call
  in-call u le within =
      let (now, at) = earlier-moment plan first schedule (length schedule) u s le gives in
      record { now = now; at = at; is_in = is.during u now at within }

  own-step : (u : ℕ) → IsStepOf schedule c u → IsOwnStep plan first schedule c.process c.calls a.call u
  own-step u own = (own.0, in-call u (omega (arith, slice_get_within schedule u c.process own.0)) own.1)

  is-within : (u : ℕ) → IsInCall plan first schedule u c.process c.calls a.call → IsWithin c u
  is-within u i = (is.within u i.now a.call i.at i.is_in).0

  -- the last moment of the call so far, where the status is known
  module _ (t : ℕ) (last : (u : ℕ) → IsStepOf schedule c u → (u < t) ⊎ (tale.changes u ≡ false)) where
    nothing : HasKept plan first schedule tale t c.process c.calls a.call → ChangesNothing schedule tale.changes c
    nothing kept u own = ⊎_elim (λ less. kept u less (own-step u own)) (λ none. none) (last u own)

    changed : (reply : Reply) → HasChanged plan first schedule tale t c.process c.calls a.call reply
        → ((m next : Contents) → Does m a.call reply next → DoesCall m a.call a.response next)
        → HasOwnEffect schedule tale.pairs tale.changes a c
    changed reply h leaves = Changes (record {
      t = h.step;
      own = (h.own.0, is-within h.step h.own.1);
      change = h.change;
      does = leaves (tale.pairs h.step) (tale.pairs (h.step + 1)) h.does;
      only = λ u own change. ⊎_elim (λ less. h.only u less (own-step u own) change)
          (λ none. absurd (false≢true (sym none ∙ change))) (last u own);
    })

    -- the effect of an answered call
    answered : (response : Response) → a.response ≡ Some response → (status : Status)
        → HasStatus plan first schedule tale t c.process c.calls a.call status
        → HasReply status response.reply → HasOwnEffect schedule tale.pairs tale.changes a c
    answered response e Before h same = absurd same
    answered response e (Found reply) h same = Finds (record {
      t = h.moment;
      within = is-within h.moment h.within;
      does = leaves (tale.pairs h.moment) (tale.pairs h.moment)
          (subst (λ r. Does (tale.pairs h.moment) a.call r (tale.pairs h.moment)) same h.finds);
      nothing = nothing h.kept;
    })
      where
        leaves : (m next : Contents) → Does m a.call response.reply next → DoesCall m a.call a.response next
        leaves m next does = rw e does
    answered response e (Changed reply) h same =
        changed reply h (λ m next does. rw e (subst (λ r. Does m a.call r next) same does))

    -- the effect of a pending call
    pending : a.response ≡ None → (status : Status) → HasStatus plan first schedule tale t c.process c.calls a.call status
        → HasOwnEffect schedule tale.pairs tale.changes a c
    pending e Before h = Pends e (nothing h)
    pending e (Found reply) h = Pends e (nothing h.kept)
    pending e (Changed reply) h = changed reply h (λ m next does. rw e (reply, h.accepted, does))

  call-effect : HasOwnEffect schedule tale.pairs tale.changes a c
  call-effect = go a.response refl c.ends refl is.ends
    where
      go : (response : Option Response) → a.response ≡ response → (ends : Option ℕ) → c.ends ≡ ends
          → EndsWith plan first schedule c a.call response ends
          → HasOwnEffect schedule tale.pairs tale.changes a c
      go None e None f ends =
          let until : IfSome c.ends (λ e. length schedule ≤ e) = subst (λ o. IfSome o (λ e. length schedule ≤ e)) (sym f) tt in
          let (status, h) = story.statuses (length schedule) c.process c.calls a.call (omega arith)
          (in-call (length schedule) (omega arith) (slice_get_within schedule c.begins c.process is.begins.turn, until)) in
          pending (length schedule) (λ u own. inl (slice_get_within schedule u c.process own.0)) e status h
      go None e (Some t) f ends = absurd ends
      go (Some response) e None f ends = absurd ends
      go (Some response) e (Some t) f ends =
          let (none, status, h, same) = story.answers t c.process c.calls a.call response.reply ends in
          answered t (λ u own. until u (subst (λ o. IfSome o (λ e. u ≤ e)) f own.1.1) none) response e status h same
        where
          until : (u : ℕ) → u ≤ t → tale.changes t ≡ false → (u < t) ⊎ (tale.changes u ≡ false)
          until u le none = ⊎_elim (λ less. inl less)
              (λ more. let e : u ≡ t = omega arith in inr (subst (λ i. tale.changes i ≡ false) (sym e) none)) (cases_lt u t)

pub story-gives-effects : StoriesGiveEffects
story-gives-effects plan start words schedule s tale run story = record {
  pairs = tale.pairs;
  changes = tale.changes;
  begins = story.begins;
  stay = story.stay;
  in_call = story.in_call;
  each = λ a c is. call-effect plan start (opened_on plan words) s schedule tale
      (subst (λ l. Gives plan (opened_on plan words) l s) (sym (take-length schedule)) run.gives) story a c is;
}

pub story-gives-orders : EffectsGiveOrders → StoriesGiveOrders
story-gives-orders orders plan start words schedule s tale run story =
    orders plan start words schedule s run (story-gives-effects plan start words schedule s tale run story)

-- The pairs of a story are never more than a scan may answer.
pub story-few : (plan : Plan) (start : Contents) (words schedule : List ℕ) (s : State) (tale : Trace) → IsRun plan start words schedule s
    → IsStory plan start (opened_on plan words) schedule tale → (t : ℕ) → t ≤ length schedule → length (tale.pairs t) ≤ pair_limit
unfolding story-gives-effects
story-few plan start words schedule s tale run story =
    effects-few plan start words schedule s run (story-gives-effects plan start words schedule s tale run story)
