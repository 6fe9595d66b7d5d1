use Rattle.std.proofs.Common.{sym, ◌∙◌}
use Rattle.art_scan.proofs.NextLemmas.{words_some, words_skip, words_past}
use Rattle.art_scan.proofs.children.+go_to_word.Goals as goal

pub returns-then-all_are_after-clause-next : goal.returns-then-all_are_after-clause-next
returns-then-all_are_after-clause-next t c = λ w other.
    words_past c.args.low c.args.high c.args.row w c.args.index c.args.words other
    (c.all_are_after.ensures.behind c.if-all_are_after.true c.args.low)

pub returns-then-is_met_in-clause-next : goal.returns-then-is_met_in-clause-next
returns-then-is_met_in-clause-next t c = λ w other.
    words_some c.args.low c.args.high c.args.row w c.args.index c.args.words other c.if-words-eq0.false
    (sym c.is_met_in.ensures ∙ c.if-is_met_in.true)

pub returns-else-is_met_in-clause-next : goal.returns-else-is_met_in-clause-next
returns-else-is_met_in-clause-next t c = λ w other.
    words_skip c.args.low c.args.high c.args.row w c.args.index c.args.words other c.if-words-eq0.false
    (sym c.is_met_in.ensures ∙ c.if-is_met_in.false)
    ∙ c.go_to_word.ensures.next w other
