use Rattle.cli_page.proofs.OutcomeLemmas.{page-made, utf8-same}
use Rattle.cli_page.proofs.pages.page_with.Goals as goal

pub returns : goal.returns
returns c =
    page-made c.args.verdict.budget c.in-Ok.history.now c.args.verdict.text.now c.args.verdict.judged.now c.args.located.now
    c.args.explained.now c.args.ordered.now c.args.verdict.answer c.page_of.result c.from_answer.result
    (utf8-same c.from_utf8.result c.in-Ok.history c.args.verdict.text.now _ c.from_utf8.ensures.cases c.in-Ok.is)
    c.requires.judged c.requires.located c.requires.explained c.requires.ordered c.page_of.ensures c.from_answer.ensures
