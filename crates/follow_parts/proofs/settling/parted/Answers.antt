use Rattle.follow_parts.proofs.Common.{◌≡◌, ◌<◌, [], List, Option, length, refl, sym, ◌∙◌, subst, arith, IfSome, eqb-false, nil_from_length, Past, covered}
use Rattle.follow_parts.proofs.Common.{AreBusy, AreOnly, AreResting, Part, Range, IsPartFrom}
use Rattle.std.proofs.lemmas.Bool.{eqb-true}
use Rattle.follow_parts.proofs.ThenLemmas.{only_shaped, parted_none, parted_some}
use Rattle.follow_parts.proofs.settling.parted.Goals as goal

pub returns-then-is_empty-2 : goal.returns-then-is_empty-2
returns-then-is_empty-2 c =
    let pasts = c.args.pasts.items in
    let busy = c.in_ok-busy.busy.items in
    let none = eqb-false c.args.pasts.len 0 (sym c.is_empty.ensures ∙ c.if-is_empty.false) in
    let some : 0 < length pasts = omega (arith, none, c.args.pasts.ok.0) in
    let no_busy = eqb-true c.in_ok-busy.busy.len 0 (sym c.is_empty-2.ensures ∙ c.if-is_empty-2.true) in
    let empty : busy ≡ [] = nil_from_length busy (omega (arith, no_busy, c.in_ok-busy.busy.ok.0)) in
    let are_busy : AreBusy pasts (covered busy) = subst (λ (ps : List Past). AreBusy ps (covered busy)) c.deref.ensures.value c.in_ok-busy.ensures in
    let rest : AreResting (covered busy) c.index.result.now.map c.in_ok-pairs.pairs.items =
    subst (λ (rs : List Range). AreResting (covered rs) c.index.result.now.map c.in_ok-pairs.pairs.items) c.deref-2.ensures.value
    c.in_ok-pairs.ensures in
    parted_none pasts c.index.result.now busy _ some c.index.ensures c.requires are_busy empty rest refl

pub part_from-requires : goal.part_from-requires
part_from-requires c =
    only_shaped (covered c.deref-3.result.now) c.args.pasts.items c.in_ok-pasts.pasts.items c.in_ok-pasts.ensures c.requires

pub returns-in-Some : goal.returns-in-Some
returns-in-Some c =
    let pasts = c.args.pasts.items in
    let busy = c.in_ok-busy.busy.items in
    let none = eqb-false c.args.pasts.len 0 (sym c.is_empty.ensures ∙ c.if-is_empty.false) in
    let some : 0 < length pasts = omega (arith, none, c.args.pasts.ok.0) in
    let are_busy : AreBusy pasts (covered busy) = subst (λ (ps : List Past). AreBusy ps (covered busy)) c.deref.ensures.value c.in_ok-busy.ensures in
    let rest : AreResting (covered busy) c.index.result.now.map c.in_ok-pairs.pairs.items =
    subst (λ (rs : List Range). AreResting (covered rs) c.index.result.now.map c.in_ok-pairs.pairs.items) c.deref-2.ensures.value
    c.in_ok-pairs.ensures in
    let zip : AreOnly (covered busy) pasts c.in_ok-pasts.pasts.items =
    subst (λ (rs : List Range). AreOnly (covered rs) pasts c.in_ok-pasts.pasts.items) c.deref-3.ensures.value c.in_ok-pasts.ensures in
    let from : IsPartFrom busy c.in_ok-pasts.pasts.items c.in-Some.part =
    subst (λ (o : Option Part). IfSome o (IsPartFrom busy c.in_ok-pasts.pasts.items)) c.in-Some.is c.in_ok-part.ensures in
    parted_some pasts c.in_ok-pasts.pasts.items c.index.result.now busy c.in-Some.part _ some c.index.ensures c.requires are_busy rest zip from
    refl
