use Rattle.memo.proofs.Common.{◌∙◌, ℕ, List, ap, arith, bit_of}
use Rattle.memo.proofs.BitLemmas.{bit_of-moved}
use Rattle.memo.proofs.words.without_lowest.Goals as goal

pub returns-clause-bits : goal.returns-clause-bits
returns-clause-bits c n =
    c.without_zeros.ensures.bits n
    ∙ ap (λ (words : List ℕ). bit_of words n) c.in_ok-moved.ensures
    ∙ bit_of-moved c.args.words.now c.args.count c.requires (λ k. omega (arith, c.type_inv.words k)) n
