use Rattle.running.proofs.Common.{map, [], ◌∷◌, ◌++◌, sym, ap, ◌∙◌, map_push}
use Rattle.running.proofs.DriveLemmas.{Ok-pass}
use Rattle.running.proofs.subject.put.Goals as goal

pub returns : goal.returns
returns c =
    ap (map Ok-pass) c.in_ok-push.ensures.items
    ∙ (map_push Ok-pass c.args.passes.now.items _
    ∙ ap (λ p. map Ok-pass c.args.passes.now.items ++ p ∷ []) (sym c.in_ok-pass.was))
