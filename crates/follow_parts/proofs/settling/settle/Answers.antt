use Rattle.follow_parts.proofs.Common.{◌≡◌, ℕ, Option, refl, ap, ◌∙◌, subst, IfSome, Contents, Part, Vec, Global}
use Rattle.follow_parts.proofs.Common.{IsLeftPut, IsWithPairs, MovesOn, Moved}
use Rattle.follow_parts.proofs.SettlingLemmas.{may_move, moves_settled, shaped_with, stays_settled}
use Rattle.follow_parts.proofs.settling.settle.Goals as goal

pub invariant_of-result : goal.invariant_of-result
invariant_of-result c =
    shaped_with c.args.state c.args.part
    (record { rest = c.apart-rest.result.0; parts = c.in_ok-parts.parts; reads = c.apart-rest.result.2; now = c.apart-rest.result.3 })
    (stays_settled c.args.state c.args.part c.apart-rest.result.0 c.apart-rest.result.1 c.apart-rest.result.2 c.apart-rest.result.3
    c.apart-rest.ensures.rest c.apart-rest.ensures.parts c.apart-rest.ensures.reads c.apart-rest.ensures.now c.args.part (record { first = refl; kept = refl }) c.in_ok-parts.parts c.in_ok-parts.ensures) c.apart-rest.ensures.shaped c.requires

pub returns-then-not-is_time : goal.returns-then-not-is_time
returns-then-not-is_time c =
    stays_settled c.args.state c.args.part c.apart-rest.result.0 c.apart-rest.result.1 c.apart-rest.result.2 c.apart-rest.result.3
    c.apart-rest.ensures.rest c.apart-rest.ensures.parts c.apart-rest.ensures.reads c.apart-rest.ensures.now c.args.part (record { first = refl; kept = refl }) c.in_ok-parts.parts c.in_ok-parts.ensures

pub moved_on-requires : goal.moved_on-requires
moved_on-requires c =
    may_move c.args.state c.args.part c.apart-rest.result.0 c.apart-rest.result.1 c.apart-rest.result.2 c.apart-rest.result.3
    c.apart-rest.ensures.rest c.apart-rest.ensures.parts c.apart-rest.ensures.reads c.apart-rest.ensures.now c.requires

pub invariant_of-result-in_default : goal.invariant_of-result-in_default
invariant_of-result-in_default c =
    shaped_with c.args.state c.args.part
    (record { rest = c.apart-rest.result.0; parts = c.in_ok-parts-2.parts; reads = c.apart-rest.result.2; now = c.apart-rest.result.3 })
    (stays_settled c.args.state c.args.part c.apart-rest.result.0 c.apart-rest.result.1 c.apart-rest.result.2 c.apart-rest.result.3
    c.apart-rest.ensures.rest c.apart-rest.ensures.parts c.apart-rest.ensures.reads c.apart-rest.ensures.now c.tried_again.result c.tried_again.ensures c.in_ok-parts-2.parts c.in_ok-parts-2.ensures) c.apart-rest.ensures.shaped c.requires

pub returns-in_default : goal.returns-in_default
returns-in_default c =
    stays_settled c.args.state c.args.part c.apart-rest.result.0 c.apart-rest.result.1 c.apart-rest.result.2 c.apart-rest.result.3
    c.apart-rest.ensures.rest c.apart-rest.ensures.parts c.apart-rest.ensures.reads c.apart-rest.ensures.now c.tried_again.result c.tried_again.ensures c.in_ok-parts-2.parts c.in_ok-parts-2.ensures

pub invariant_of-result-2 : goal.invariant_of-result-2
invariant_of-result-2 c =
    let moved : Moved = c.in-Some.moved in
    let moves : MovesOn c.apart-rest.result.3 c.apart-rest.result.2 c.args.part moved =
    subst (λ (o : Option Moved). IfSome o (MovesOn c.apart-rest.result.3 c.apart-rest.result.2 c.args.part)) c.in-Some.is c.in_ok-moved.ensures in
    let pairs : c.deref.result.now ≡ moved.pairs.items = c.deref.ensures.value ∙ ap (λ (v : Vec (ℕ × ℕ) Global). v.items) c.apart-pairs.ensures.pairs in
    let came : IsWithPairs moved.pairs.items c.apart-rest.result.0 c.in_ok-rest.rest =
    subst (λ (ps : Contents). IsWithPairs ps c.apart-rest.result.0 c.in_ok-rest.rest) pairs c.in_ok-rest.ensures in
    let put : IsLeftPut moved.left c.apart-rest.result.1 c.in_ok-parts-3.parts =
    subst (λ (o : Option Part). IsLeftPut o c.apart-rest.result.1 c.in_ok-parts-3.parts) c.apart-pairs.ensures.left c.in_ok-parts-3.ensures in
    shaped_with c.args.state c.args.part
    (record { rest = c.in_ok-rest.rest; parts = c.in_ok-parts-3.parts; reads = c.apart-rest.result.2; now = c.apart-rest.result.3 })
    (moves_settled c.args.state c.args.part c.apart-rest.result.0 c.apart-rest.result.1 c.apart-rest.result.2 c.apart-rest.result.3
    c.apart-rest.ensures.rest c.apart-rest.ensures.parts c.apart-rest.ensures.reads c.apart-rest.ensures.now moved moves c.in_ok-rest.rest came c.in_ok-parts-3.parts put) c.apart-rest.ensures.shaped c.requires

pub returns : goal.returns
returns c =
    let moved : Moved = c.in-Some.moved in
    let moves : MovesOn c.apart-rest.result.3 c.apart-rest.result.2 c.args.part moved =
    subst (λ (o : Option Moved). IfSome o (MovesOn c.apart-rest.result.3 c.apart-rest.result.2 c.args.part)) c.in-Some.is c.in_ok-moved.ensures in
    let pairs : c.deref.result.now ≡ moved.pairs.items = c.deref.ensures.value ∙ ap (λ (v : Vec (ℕ × ℕ) Global). v.items) c.apart-pairs.ensures.pairs in
    let came : IsWithPairs moved.pairs.items c.apart-rest.result.0 c.in_ok-rest.rest =
    subst (λ (ps : Contents). IsWithPairs ps c.apart-rest.result.0 c.in_ok-rest.rest) pairs c.in_ok-rest.ensures in
    let put : IsLeftPut moved.left c.apart-rest.result.1 c.in_ok-parts-3.parts =
    subst (λ (o : Option Part). IsLeftPut o c.apart-rest.result.1 c.in_ok-parts-3.parts) c.apart-pairs.ensures.left c.in_ok-parts-3.ensures in
    moves_settled c.args.state c.args.part c.apart-rest.result.0 c.apart-rest.result.1 c.apart-rest.result.2 c.apart-rest.result.3
    c.apart-rest.ensures.rest c.apart-rest.ensures.parts c.apart-rest.ensures.reads c.apart-rest.ensures.now moved moves c.in_ok-rest.rest came c.in_ok-parts-3.parts put
