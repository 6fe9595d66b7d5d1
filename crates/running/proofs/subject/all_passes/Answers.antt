use Rattle.running.proofs.Common.{◌≡◌, [], ◌∷◌, ◌++◌, map, sym, ap, ◌∙◌, append_assoc, arith, append-nil, nil_from_length, into_iter_items}
use Rattle.running.proofs.DriveLemmas.{Ok-pass}
use Rattle.running.proofs.subject.all_passes.Goals as goal

pub loop-pass-preserved : goal.loop-pass-preserved
loop-pass-preserved c =
    let old = map Ok-pass c.loop-pass.passes.items in
    let rest = into_iter_items c.next.new.self in
    ap (λ l. l ++ rest) c.in_ok-put.ensures
    ∙ (append_assoc old (c.in-Some.pass ∷ []) rest ∙ (ap (λ l. old ++ l) (sym c.in-Some.ensures.steps.0) ∙ c.loop-pass.invariant))

pub returns : goal.returns
returns c =
    let all = map Ok-pass c.loop-pass.passes.items in
    let none : into_iter_items c.loop-pass.pass-iterator ≡ [] =
    nil_from_length _ (omega (arith, c.in-None.ensures.steps.0, c.loop-pass.pass-iterator.rest.ok.0)) in
    sym c.loop-pass.invariant ∙ (ap (λ l. all ++ l) none ∙ append-nil all)
