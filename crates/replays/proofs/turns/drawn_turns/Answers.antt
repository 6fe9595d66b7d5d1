use Rattle.replays.proofs.Common.{[], ◌∷◌, length, length-append, refl, sym, subst, ap, arith, inl, inr, ◌∙◌, run-lengths}
use Rattle.replays.proofs.TurnLemmas.{HasTurned, turned-more}
use Rattle.replays.proofs.turns.drawn_turns.Goals as goal

pub loop-turn-init : goal.loop-turn-init
loop-turn-init c = (
  λ plan first shows. subst (λ turns. HasTurned plan first turns c.args.machine.now) (sym c.new-turns.ensures.items)
      (record { state = first; gives = refl; shows = shows }),
  ap length c.new-turns.ensures.items,
  omega arith,
  refl,
)

pub make_turn-requires : goal.make_turn-requires
make_turn-requires c =
    let h = c.loop-turn.invariant.0 c.requires.plan c.requires.state c.requires.shows in
    record {
      plan = c.requires.plan;
      state = h.state;
      shows = h.shows;
      move = c.in-Some.ensures.some c.requires.plan h.state h.shows;
      left = omega (arith, c.requires.left, c.loop-turn.invariant.2, c.loop-turn-test.true);
    }

pub loop-turn-preserved : goal.loop-turn-preserved
loop-turn-preserved c = (
  λ plan first shows.
      let h = c.loop-turn.invariant.0 plan first shows in
      subst (λ turns. HasTurned plan first turns c.make_turn.new.machine) (sym c.in_ok-push.ensures.items)
      (turned-more plan first c.loop-turn.turns.items c.in-Some.process c.loop-turn.machine c.make_turn.new.machine h
      (c.in_ok-make_turn.ensures.moved plan h.state h.shows)),
  let one = length-append c.loop-turn.turns.items (c.in-Some.process ∷ []) in
      omega (arith, c.loop-turn.invariant.1, ap length c.in_ok-push.ensures.items, one),
  omega (arith, c.loop-turn.invariant.2, c.in_ok-make_turn.ensures.left),
  c.note.ensures ∙ c.loop-turn.invariant.3,
)

pub returns-in-None : goal.returns-in-None
returns-in-None c = λ plan first shows.
    let h = c.loop-turn.invariant.0 plan first shows in
    let same = run-lengths plan c.loop-turn.turns.items first h.state h.gives in
    record {
      made = record { state = h.state; gives = h.gives };
      few = omega (arith, c.loop-turn.invariant.1, c.loop-turn-test.true);
      ended =
          inr (c.in-None.ensures.none plan h.state h.shows
          (omega (arith, same.1, shows.many, c.requires.shows.many, c.requires.many, c.loop-turn.invariant.3)) refl);
    }

pub returns : goal.returns
returns c = λ plan first shows.
    let h = c.loop-turn.invariant.0 plan first shows in
    record {
      made = record { state = h.state; gives = h.gives };
      few = omega (arith, c.loop-turn.invariant.1, c.loop-turn.auto.turn-end);
      ended = inl (omega (arith, c.loop-turn.invariant.1, c.loop-turn.auto.turn-end, c.loop-turn-test.false));
    }
