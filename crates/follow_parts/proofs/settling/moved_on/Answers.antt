use Rattle.follow_parts.proofs.Common.{ℕ, Option, Vec, Global, subst, IfSome, All-weaker, Past, IsPastShaped, AreBegunAfter, kept_part, IsPastBefore}
use Rattle.follow_parts.proofs.Common.{AreThen}
use Rattle.follow_parts.specs.Settled.{AreAtRestThen}
use Rattle.follow_parts.proofs.RestedLemmas.{comes_to_rest}
use Rattle.follow_parts.proofs.ThenLemmas.{moves_if}
use Rattle.follow_parts.proofs.settling.moved_on.Goals as goal

pub rested-requires : goal.rested-requires
rested-requires c =
    All-weaker (IsPastBefore c.args.now) IsPastShaped (λ past before. record { rising = before.rising; apart = before.apart })
    (kept_part c.args.part.now).pasts c.requires.pasts

pub returns-in-Some-2 : goal.returns-in-Some-2
returns-in-Some-2 c =
    comes_to_rest c.args.now c.args.reads.now c.args.part.now c.in-Some.moment c.in-Some-2.pairs
    (subst (λ (o : Option ℕ). IfSome o (AreBegunAfter c.args.part.now.ranges.items c.args.reads.now)) c.in-Some.is c.in_ok-moment.ensures)
    (subst (λ (o : Option (Vec (ℕ × ℕ) Global)). IfSome o (λ (pairs : Vec (ℕ × ℕ) Global). AreAtRestThen c.in-Some.moment c.args.part.now pairs.items))
    c.in-Some-2.is c.in_ok-pairs.ensures)

pub pasts_then-requires : goal.pasts_then-requires
pasts_then-requires c =
    All-weaker (IsPastBefore c.args.now) IsPastShaped (λ past before. record { rising = before.rising; apart = before.apart })
    (kept_part c.args.part.now).pasts c.requires.pasts

pub parted-requires : goal.parted-requires
parted-requires c =
    (subst (λ (o : Option (Vec Past Global)). IfSome o (λ (pasts : Vec Past Global). AreThen c.in-Some.moment c.args.part.now pasts.items))
    c.in-Some-3.is c.in_ok-pasts.ensures).shaped

pub returns-in-Some-3 : goal.returns-in-Some-3
returns-in-Some-3 c =
    let are_then : AreThen c.in-Some.moment c.args.part.now c.in-Some-3.pasts.items =
    subst (λ (o : Option (Vec Past Global)). IfSome o (λ (pasts : Vec Past Global). AreThen c.in-Some.moment c.args.part.now pasts.items))
    c.in-Some-3.is c.in_ok-pasts.ensures in
    moves_if c.args.now c.args.reads.now c.args.part.now c.requires c.in-Some.moment c.in-Some-3.pasts.items are_then c.parted.result
    (subst (λ (o : Option ℕ). IfSome o (AreBegunAfter c.args.part.now.ranges.items c.args.reads.now)) c.in-Some.is c.in_ok-moment.ensures)
    c.parted.ensures
