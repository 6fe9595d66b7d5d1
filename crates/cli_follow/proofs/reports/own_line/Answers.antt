use Rattle.cli_follow.proofs.Common.{◌≡◌, List, [], Option, Some, Result, IfOk, sym, ap, ◌∙◌, subst, Global, String, string_bytes, IfSome}
use Rattle.cli_follow.proofs.Common.{MatchOption, Contents, IsLinearizable, IsSmallLine, KeyCore}
use Rattle.events.specs.declared.operation.Operation.{Operation}
use Rattle.cli_follow.proofs.OwnLemmas.{IsRefuted, own_refuted}
use Rattle.cli_follow.proofs.reports.own_line.Goals as goal

-- the line of what goes wrong on its own, from pairs and with calls that are the part's
line_of_part : {E : Type 0} (own : Option KeyCore) (part : KeyCore) (start : Contents) (calls : List Operation) (r : Result (String Global) E)
    → own ≡ Some part → start ≡ part.start → calls ≡ part.calls → IfSome own IsRefuted
    → ((IsLinearizable start calls → ⊥) → IfOk r (λ text. IsSmallLine start calls (string_bytes text)))
    → IfOk r (λ small. MatchOption own (string_bytes small ≡ []) (λ part. IsSmallLine part.start part.calls (string_bytes small)))
line_of_part own part start calls r is first second refuted line =
    let none : IsLinearizable part.start part.calls → ⊥ = subst (λ (o : Option KeyCore). IfSome o IsRefuted) is refuted in
    subst (λ (o : Option KeyCore). IfOk r (λ small. MatchOption o (string_bytes small ≡ [])
    (λ part. IsSmallLine part.start part.calls (string_bytes small)))) (sym is)
    (subst (λ (m : Contents). IfOk r (λ small. IsSmallLine m part.calls (string_bytes small))) first
    (subst (λ (l : List Operation). IfOk r (λ small. IsSmallLine start l (string_bytes small))) second
    (line (λ order. none (subst (λ (m : Contents). IsLinearizable m part.calls) first
    (subst (λ (l : List Operation). IsLinearizable start l) second order))))))

pub returns-in-Some : goal.returns-in-Some
returns-in-Some c = λ dead.
    line_of_part _ c.in-Some.part c.deref.result.now c.deref-in-Some.result.now c.small_line.result (sym c.in_ok-part.ensures ∙ c.in-Some.is)
    (c.deref.ensures.value ∙ ap (λ (p : KeyCore). p.start) c.part.view_is)
    (c.deref-in-Some.ensures.value ∙ ap (λ (p : KeyCore). p.calls) c.part.view_is)
    (own_refuted c.args.loss.now.puts.items c.args.loss.now.part.pasts.items dead) c.small_line.ensures
