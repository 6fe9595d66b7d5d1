use Rattle.explain_locate.proofs.AgreeLemmas.{locations_agree}
use Rattle.explain_locate.proofs.laws.locations_agree.Goals as goal

pub returns : goal.returns
returns c = locations_agree c.one_event_goes_wrong.ensures c.answers_have_one_call.ensures
