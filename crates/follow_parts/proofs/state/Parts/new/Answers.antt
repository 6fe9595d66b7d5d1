use Rattle.follow_parts.proofs.StartLemmas.{start_is_shaped, start_is_state}
use Rattle.follow_parts.proofs.state.Parts.new.Goals as goal

pub invariant_of-result : goal.invariant_of-result
invariant_of-result c =
    start_is_shaped c.args.start.now c.in_ok-empty.empty c.in_ok-rest.rest c.in_ok-parts.parts c.in_ok-reads.reads
    c.in_ok-empty.ensures c.in_ok-parts.ensures c.in_ok-reads.ensures c.requires c.in_ok-rest.ensures

pub returns-clause-state : goal.returns-clause-state
returns-clause-state c =
    start_is_state c.args.start.now c.in_ok-empty.empty c.in_ok-rest.rest c.in_ok-parts.parts c.in_ok-reads.reads
    c.in_ok-empty.ensures c.in_ok-parts.ensures c.in_ok-reads.ensures c.requires c.in_ok-rest.ensures
