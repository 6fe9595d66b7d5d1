use Rattle.search.proofs.Common.{ap, ◌∙◌, arith, map, slice_index, places}
use Rattle.search.proofs.LongestLemmas.{as_long_as, as_long, longest-open, longest-kept, longest-longer, longest-most}
use Rattle.search.proofs.longest.longest_from.Goals as goal

pub loop-longest-init : goal.loop-longest-init
loop-longest-init c =
    let segment = c.args.segment.now in
    let standing = c.args.standing.now in
    let stands = c.requires.stands in
    let is = c.in_ok-longest.ensures ∙ ap (λ ns. map (λ place. slice_index ns place) (places standing.levels.items))
    c.numbers.ensures.numbers in (
      stands,
      longest-open segment standing stands c.in_ok-longest.longest.items is c.requires.one,
      omega
          (arith, c.requires.one),
    )

pub loop-longest-preserved-then-len : goal.loop-longest-preserved-then-len
loop-longest-preserved-then-len c =
    let segment = c.args.segment.now in
    let old = c.loop-longest.standing in
    let new = c.make_turn.new.standing in
    let (moved, goes_on, within) = rw c.in_default.is at c.in_ok-_found.ensures in
    let was = c.loop-longest.invariant.1 in
    let is = c.in_ok-longest-2.ensures ∙ ap (λ ns. map (λ place. slice_index ns place) (places new.levels.items))
    c.numbers-then-len.ensures.numbers in (
      moved.stands,
      longest-longer segment old new c.loop-longest.longest.items c.loop-longest.invariant.0 moved was c.in_ok-longest-2.longest.items is
          (omega (
            arith,
            c.if-len.true,
            c.len.ensures,
            c.len-in-loop-longest.ensures,
            as_long segment new moved.stands,
            as_long_as segment c.loop-longest.longest.items was.places was.is,
          )),
      omega (arith, goes_on.one_more, within),
    )

pub loop-longest-preserved : goal.loop-longest-preserved
loop-longest-preserved c =
    let segment = c.args.segment.now in
    let old = c.loop-longest.standing in
    let new = c.make_turn.new.standing in
    let (moved, goes_on, within) = rw c.in_default.is at c.in_ok-_found.ensures in
    let was = c.loop-longest.invariant.1 in (
      moved.stands,
      longest-kept segment old new c.loop-longest.longest.items c.loop-longest.invariant.0 moved was
          (omega (
            arith,
            c.if-len.false,
            c.len.ensures,
            c.len-in-loop-longest.ensures,
            as_long segment new moved.stands,
            as_long_as segment c.loop-longest.longest.items was.places was.is,
          )),
      omega (arith, goes_on.one_more, within),
    )

pub returns-in-Some-clause-longest : goal.returns-in-Some-clause-longest
returns-in-Some-clause-longest c =
    let segment = c.args.segment.now in
    let standing = c.loop-longest.standing in
    let (exact, counted, met) = rw c.in-Some.is at c.in_ok-_found.ensures in
    let h = c.loop-longest.invariant in
    (standing.memo, met h.2, longest-most segment standing c.loop-longest.longest.items h.1)

pub loop-longest-smaller-then-len : goal.loop-longest-smaller-then-len
loop-longest-smaller-then-len c = let (moved, goes_on, within) = rw c.in_default.is at c.in_ok-_found.ensures in goes_on.falls

pub loop-longest-smaller : goal.loop-longest-smaller
loop-longest-smaller c = let (moved, goes_on, within) = rw c.in_default.is at c.in_ok-_found.ensures in goes_on.falls

pub returns-in-Some-clause-front : goal.returns-in-Some-clause-front
returns-in-Some-clause-front c = let was = c.loop-longest.invariant.1 in (was.places, was.is, was.is_front)

pub returns-in-Some-clause-exact : goal.returns-in-Some-clause-exact
returns-in-Some-clause-exact c =
    let (exact, counted, met) = rw c.in-Some.is at c.in_ok-_found.ensures in
    let was = c.loop-longest.invariant.1 in
    record {
      places = was.places;
      is = was.is;
      is_front = was.is_front;
      met = c.loop-longest.standing.memo;
      enough = met c.loop-longest.invariant.2;
      reached = was.reached;
      most = was.most;
      least = was.least;
    }
