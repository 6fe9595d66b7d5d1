use Rattle.memo.proofs.Common.{◌∙◌, sym, Decides-is_same_pair}
use Rattle.std.proofs.lemmas.Slice.Eq.{slice_eq-Decides}
use Rattle.memo.proofs.base.Base.is_same.Goals as goal

pub returns : goal.returns
returns c =
    let same = slice_eq-Decides Decides-is_same_pair _ _ _ c.eq.ensures in
    let here = c.pairs.ensures.pairs in
    let there = c.pairs-2.ensures.pairs in
    (λ yes. sym here ∙ same.0 yes ∙ there, λ equal. same.1 (here ∙ equal ∙ sym there))
