use Rattle.follow_cuts.proofs.Common.{◌≡◌, List, [], map, sym, ◌∙◌, subst, eqb-true, nil_from_length, IfOk-weaker, IsMade, kept_of, AreMadeOf, Position}
use Rattle.follow_cuts.proofs.WalkLemmas.{walks_begin}
use Rattle.follow_cuts.proofs.MadeLemmas.{gone_further, made_is}
use Rattle.follow_cuts.proofs.cut.walked.Goals as goal

pub returns-then-is_empty : goal.returns-then-is_empty
returns-then-is_empty c =
    let pasts = c.args.pasts.now in
    let most = c.args.limits.pasts in
    let next = c.loop.next.items in
    let ended = c.loop.ended.items in
    let none : next ≡ [] = nil_from_length next (sym c.loop.next.ok.0 ∙ eqb-true _ 0 (sym c.if-is_empty.ensures)) in
    IfOk-weaker c.made.result (AreMadeOf pasts c.deref.result.now most) (IsMade c.args.moment most pasts) (λ cut are.
    made_is pasts c.args.moment most next ended cut c.loop.invariant none
    (subst (λ (l : List Position). AreMadeOf pasts l most cut) c.deref.ensures.value are)) c.made.ensures

pub loop-init : goal.loop-init
loop-init c =
    walks_begin c.args.pasts.now c.args.moment c.in_ok-next.next.items c.new-ended.result.items c.in_ok-next.ensures.kept
    c.new-ended.ensures.items c.in_ok-next.ensures.from_past

pub loop-preserved : goal.loop-preserved
loop-preserved c =
    gone_further c.args.pasts.now c.args.moment (map kept_of c.args.pasts.now) c.loop.next.items c.loop.ended.items c.in_ok-next-2.next.items
    c.next_level.new.ended.items c.loop.invariant c.in_ok-next-2.ensures
