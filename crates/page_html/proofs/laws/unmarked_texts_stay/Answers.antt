use Rattle.page_html.proofs.EscapeLemmas.{unmarked-stays}
use Rattle.page_html.proofs.laws.unmarked_texts_stay.Goals as goal

pub returns : goal.returns
returns c = unmarked-stays
