use Rattle.serde_json.specs.View.{view}
use Rattle.stream_text.proofs.FirstLineLemmas.{first_spelled, first_refused, first_accepted}
use Rattle.stream_text.proofs.read_line.read_first_line.Goals as goal

pub returns-clause-spelled : goal.returns-clause-spelled
returns-clause-spelled c =
    first_spelled c.args.line.now (view c.in_ok-value.value) c.first_of.result c.in_ok-value.ensures.ok c.first_of.ensures.ok

pub returns-clause-refused : goal.returns-clause-refused
returns-clause-refused c =
    first_refused c.args.line.now (view c.in_ok-value.value) c.first_of.result c.in_ok-value.ensures.ok c.first_of.ensures.refused

pub returns-clause-accepted : goal.returns-clause-accepted
returns-clause-accepted c = λ found spelled.
    first_accepted c.args.line.now found c.first_of.result
    (first_refused c.args.line.now (view c.in_ok-value.value) c.first_of.result c.in_ok-value.ensures.ok c.first_of.ensures.refused) spelled
