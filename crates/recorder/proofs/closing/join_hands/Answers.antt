use Rattle.recorder.proofs.Common.{◌≡◌, ◌++◌, ◌∷◌, length, subst, sym, ap, ◌∙◌, arith, append_assoc, flat_map, sum_by, All, length-append, All-rest}
use Rattle.recorder.proofs.Common.{All-head, All-tail, flat_map-cons, sum_by-cons, into_iter_items, counter, drawn_by, source_of, stamps_of, draws_of}
use Rattle.recorder.proofs.closing.join_hands.Goals as goal

pub loop-pass-preserved : goal.loop-pass-preserved
loop-pass-preserved c =
    let kept = c.loop-pass.invariant in
    let pass = c.in-Some-pass.pass in
    let rest = into_iter_items c.next-in-loop-pass.new.self in
    let next = c.in-Some-pass.ensures.steps.0 in
    record {
      can_next = tt;
      is_finite = tt;
      own = c.join.ensures.own ∙ kept.own;
      others_own = All-rest (λ p. source_of p ≡ counter c.args.tickets.now) pass rest _ next kept.others_own;
      drawn =
          ap (λ l. l ++ flat_map stamps_of rest) (c.join.ensures.both.drawn_is ∙ ap (λ s. drawn_by c.loop-pass.hand ++ s) pass.stamps)
          ∙ (append_assoc (drawn_by c.loop-pass.hand) (stamps_of pass) (flat_map stamps_of rest)
          ∙ (ap (λ l. drawn_by c.loop-pass.hand ++ l)
          (sym (ap (flat_map stamps_of) next ∙ flat_map-cons stamps_of pass rest)) ∙ kept.drawn));
      share =
          omega (
            arith,
            kept.share,
            ap (λ l. length l) c.join.ensures.both.drawn_is,
            length-append (drawn_by c.loop-pass.hand) (drawn_by pass.hand),
            c.join.ensures.both.left_is,
            ap (sum_by draws_of) next,
            sum_by-cons draws_of pass rest,
          );
    }

pub loop-pass-init : goal.loop-pass-init
loop-pass-init c =
    let first = c.in-Some.first in
    let rest = into_iter_items c.into_iter-pass-iterator.result in
    let same = ap (λ i. into_iter_items i) (sym c.into_iter-pass-iterator.ensures.into_iter_gives) in
    let parts : c.args.passes.items ≡ first ∷ rest = sym c.into_iter-passes.ensures.rest
    ∙ (c.in-Some.ensures.items ∙ ap (λ l. first ∷ l) same) in
    let own : All (λ p. source_of p ≡ counter c.args.tickets.now) (first ∷ rest) =
    subst (All (λ p. source_of p ≡ counter c.args.tickets.now)) parts c.requires.own in
    record {
      can_next = tt;
      is_finite = tt;
      own = All-head (λ p. source_of p ≡ counter c.args.tickets.now) first rest own;
      others_own = All-tail (λ p. source_of p ≡ counter c.args.tickets.now) first rest own;
      drawn = ap (λ s. s ++ flat_map stamps_of rest) first.stamps
          ∙ sym (ap (flat_map stamps_of) parts ∙ flat_map-cons stamps_of first rest);
      share = sym (ap (sum_by draws_of) parts ∙ sum_by-cons draws_of first rest);
    }

pub join-requires-clause-other : goal.join-requires-clause-other
join-requires-clause-other c =
    All-head (λ p. source_of p ≡ counter c.args.tickets.now) c.in-Some-pass.pass (into_iter_items c.next-in-loop-pass.new.self)
    (rw c.in-Some-pass.ensures.steps.0 at c.loop-pass.invariant.others_own)
