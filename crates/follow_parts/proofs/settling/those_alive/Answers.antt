use Rattle.follow_parts.proofs.Common.{◌≡◌, [], List, Option, sym, subst, arith, nil_from_length, kept_of, Past, IsAliveOrDead}
use Rattle.std.specs.Vec.Iter.{into_iter_items}
use Rattle.follow_parts.proofs.AliveLemmas.{AreAliveSoFar, alive_begins, alive_dies, alive_ends, alive_stays, next_shaped}
use Rattle.follow_parts.proofs.settling.those_alive.Goals as goal

pub loop-past-init : goal.loop-past-init
loop-past-init c =
    let made = c.args.made.items in
    subst (λ (l : List Past). AreAliveSoFar made c.new-alive.result.items l) (sym c.into_iter-past-iterator.ensures.into_iter_gives.0)
    (subst (λ (all : List Past). AreAliveSoFar made all made) (sym c.new-alive.ensures.items) (alive_begins made c.requires))

pub alive_one-requires-clause-rising : goal.alive_one-requires-clause-rising
alive_one-requires-clause-rising c =
    (next_shaped c.args.made.items c.loop-past.alive.items (into_iter_items c.next.new.self) c.in-Some.past
    (subst (λ (l : List Past). AreAliveSoFar c.args.made.items c.loop-past.alive.items l) c.in-Some.ensures.steps.0
    c.loop-past.invariant)).0

pub alive_one-requires-clause-apart : goal.alive_one-requires-clause-apart
alive_one-requires-clause-apart c =
    (next_shaped c.args.made.items c.loop-past.alive.items (into_iter_items c.next.new.self) c.in-Some.past
    (subst (λ (l : List Past). AreAliveSoFar c.args.made.items c.loop-past.alive.items l) c.in-Some.ensures.steps.0
    c.loop-past.invariant)).1

pub loop-past-preserved-in-Continue-branch-3 : goal.loop-past-preserved-in-Continue-branch-3
loop-past-preserved-in-Continue-branch-3 c =
    let past = c.in-Some.past in
    let so_far = subst (λ (l : List Past). AreAliveSoFar c.args.made.items c.loop-past.alive.items l) c.in-Some.ensures.steps.0
    c.loop-past.invariant in
    alive_stays c.args.made.items c.loop-past.alive.items c.push.new.self.items (into_iter_items c.next.new.self) past c.in-Some-2.next
    (subst (λ (n : Option Past). IsAliveOrDead (kept_of past) n) c.in-Some-2.is c.in_ok-next.ensures) c.in_ok-push.ensures.items so_far

pub loop-past-preserved : goal.loop-past-preserved
loop-past-preserved c =
    let past = c.in-Some.past in
    let so_far = subst (λ (l : List Past). AreAliveSoFar c.args.made.items c.loop-past.alive.items l) c.in-Some.ensures.steps.0
    c.loop-past.invariant in
    alive_dies c.args.made.items c.loop-past.alive.items (into_iter_items c.next.new.self) past
    (subst (λ (n : Option Past). IsAliveOrDead (kept_of past) n) c.in_default.is c.in_ok-next.ensures) so_far

pub returns : goal.returns
returns c =
    let rest = into_iter_items c.loop-past.past-iterator in
    let none : rest ≡ [] = nil_from_length rest (omega (arith, c.in-None.ensures.steps.0, c.loop-past.past-iterator.rest.ok.0)) in
    alive_ends c.args.made.items c.loop-past.alive.items
    (subst (λ (l : List Past). AreAliveSoFar c.args.made.items c.loop-past.alive.items l) none c.loop-past.invariant)
