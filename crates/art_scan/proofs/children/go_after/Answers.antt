use Rattle.art_scan.proofs.Common.{ap, ◌∙◌, words_that_follow}
use Rattle.art_scan.proofs.NextLemmas.{behind_none}
use Rattle.art_scan.proofs.children.go_after.Goals as goal

pub returns-in-FortyEight-clause-next : goal.returns-in-FortyEight-clause-next
returns-in-FortyEight-clause-next c = λ w other.
    ap (λ k. words_that_follow k c.args.low c.args.high c.args.row w c.args.index c.args.words other) c.in-FortyEight.is
    ∙ c.go_to_word.ensures.next w other

pub returns-in_default-clause-next : goal.returns-in_default-clause-next
returns-in_default-clause-next c = λ w other.
    behind_none c.args.row.kind c.args.low c.args.high c.args.row w c.args.index c.args.words other c.in_default.not-FortyEight
