use Rattle.running.proofs.Common.{◌≡◌, ◌∷◌, sym, ap, subst, ◌∙◌, into_iter_items, All-rest, All-head, All-tail, shows, IsGroupOf, gathered, joined}
use Rattle.std.proofs.Common.{All, IfOk}
use Rattle.running.proofs.parts.join_all.Goals as goal

pub loop-group-init : goal.loop-group-init
loop-group-init c =
    let a = c.args.arena.now in
    let first = c.in-Some.first in
    let rest = into_iter_items c.into_iter-group-iterator.result in
    let same = ap (λ i. into_iter_items i) (sym c.into_iter-group-iterator.ensures.into_iter_gives) in
    let parts : c.args.done.items ≡ first ∷ rest = sym c.into_iter-done.ensures.rest
    ∙ (c.in-Some.ensures.items ∙ ap (λ l. first ∷ l) same) in
    let own = subst (All (λ d. IfOk d (IsGroupOf a))) parts c.requires.own in
    record {
      can_next = tt;
      is_finite = tt;
      own = subst (λ d. IfOk d (IsGroupOf a)) c.in_ok-all-in-Some.was (All-head (λ d. IfOk d (IsGroupOf a)) first rest own);
      others_own = All-tail (λ d. IfOk d (IsGroupOf a)) first rest own;
      rest = sym (ap joined (parts ∙ ap (λ d. d ∷ rest) c.in_ok-all-in-Some.was));
    }

pub join-requires-clause-other : goal.join-requires-clause-other
join-requires-clause-other c =
    let a = c.args.arena.now in
    subst (λ d. IfOk d (IsGroupOf a)) c.in_ok-group.was
    (All-head (λ d. IfOk d (IsGroupOf a)) c.in-Some-group.group (into_iter_items c.next-in-loop-group.new.self)
    (subst (All (λ d. IfOk d (IsGroupOf a))) c.in-Some-group.ensures.steps.0 c.loop-group.invariant.others_own))

pub loop-group-preserved : goal.loop-group-preserved
loop-group-preserved c =
    let a = c.args.arena.now in
    let kept = c.loop-group.invariant in
    let rest = into_iter_items c.next-in-loop-group.new.self in
    let next = c.in-Some-group.ensures.steps.0 in
    record {
      can_next = tt;
      is_finite = tt;
      own = c.join.ensures.own;
      others_own = All-rest (λ d. IfOk d (IsGroupOf a)) c.in-Some-group.group rest _ next kept.others_own;
      rest =
          ap (λ v. gathered v.processes rest) c.join.ensures.both
          ∙ (ap (gathered (shows c.loop-group.all).processes) (sym (next ∙ ap (λ d. d ∷ rest) c.in_ok-group.was)) ∙ kept.rest);
    }
