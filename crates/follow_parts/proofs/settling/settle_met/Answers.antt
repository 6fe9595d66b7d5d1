use Rattle.follow_parts.proofs.Common.{◌≡◌, [], List, sym, subst, arith, nil_from_length, Part, PartsView}
use Rattle.std.specs.Vec.Iter.{into_iter_items}
use Rattle.follow_parts.proofs.SettlingLemmas.{IsSettledBut, may_be_next, met_begins, settling_ends, settling_goes_on, shaped_without}
use Rattle.follow_parts.proofs.settling.settle_met.Goals as goal

pub invariant_of-state : goal.invariant_of-state
invariant_of-state c =
    shaped_without c.in_ok-parts.met.items
    (record { rest = c.apart-rest.result.0; parts = c.in_ok-parts.parts; reads = c.apart-rest.result.2; now = c.apart-rest.result.3 })
    (met_begins c.args.state c.apart-rest.result.0 c.apart-rest.result.1 c.in_ok-parts.parts c.in_ok-parts.met.items c.apart-rest.result.2
    c.apart-rest.result.3 c.args.low c.args.high c.apart-rest.ensures.rest c.apart-rest.ensures.parts c.apart-rest.ensures.reads
    c.apart-rest.ensures.now c.apart-rest.ensures.shaped c.in_ok-parts.ensures).shaped

pub loop-part-init : goal.loop-part-init
loop-part-init c =
    let s : PartsView = record { rest = c.apart-rest.result.0; parts = c.in_ok-parts.parts; reads = c.apart-rest.result.2; now = c.apart-rest.result.3 } in
    subst (λ (l : List Part). IsSettledBut l c.args.state s) (sym c.into_iter-part-iterator.ensures.into_iter_gives.0)
    (met_begins c.args.state c.apart-rest.result.0 c.apart-rest.result.1 c.in_ok-parts.parts c.in_ok-parts.met.items c.apart-rest.result.2
    c.apart-rest.result.3 c.args.low c.args.high c.apart-rest.ensures.rest c.apart-rest.ensures.parts c.apart-rest.ensures.reads
    c.apart-rest.ensures.now c.apart-rest.ensures.shaped c.in_ok-parts.ensures)

pub settle-requires : goal.settle-requires
settle-requires c =
    may_be_next c.in-Some.part (into_iter_items c.next.new.self) c.args.state c.loop-part.state
    (subst (λ (l : List Part). IsSettledBut l c.args.state c.loop-part.state) c.in-Some.ensures.steps.0 c.loop-part.invariant)

pub loop-part-preserved : goal.loop-part-preserved
loop-part-preserved c =
    settling_goes_on c.in-Some.part (into_iter_items c.next.new.self) c.args.state c.loop-part.state c.in_ok-state.state
    (subst (λ (l : List Part). IsSettledBut l c.args.state c.loop-part.state) c.in-Some.ensures.steps.0 c.loop-part.invariant)
    c.in_ok-state.ensures

pub returns : goal.returns
returns c =
    let rest = into_iter_items c.loop-part.part-iterator in
    let none : rest ≡ [] = nil_from_length rest (omega (arith, c.in-None.ensures.steps.0, c.loop-part.part-iterator.rest.ok.0)) in
    settling_ends c.args.state c.loop-part.state
    (subst (λ (l : List Part). IsSettledBut l c.args.state c.loop-part.state) none c.loop-part.invariant)
