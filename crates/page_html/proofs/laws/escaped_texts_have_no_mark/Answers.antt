use Rattle.page_html.proofs.EscapeLemmas.{escaped-unmarked}
use Rattle.page_html.proofs.laws.escaped_texts_have_no_mark.Goals as goal

pub returns : goal.returns
returns c = escaped-unmarked
