use Rattle.draw_svg.proofs.TextLemmas.{pieces-more}
use Rattle.draw_svg.proofs.content.push_content.Goals as goal
use Rattle.draw_svg.specs.Content.{escaped_byte}

pub loop-byte-preserved : goal.loop-byte-preserved
loop-byte-preserved c = pieces-more (escaped_byte) c.args.content.now c.loop-byte.byte-index 0 _ _ _ c.loop-byte-test.true
    c.loop-byte.invariant c.in_ok-push_byte.ensures
