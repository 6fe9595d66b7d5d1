use Rattle.art.specs.Tasks.{rest_of}
use Rattle.machine.proofs.TurnLemmas.{taken}
use Rattle.machine.proofs.turns.advance.Goals as goal

pub returns-clause-made : goal.returns-clause-made
returns-clause-made c = λ shape variant call got fits.
    taken shape variant call got c.args.words.now c.access-got.new.words (rest_of c.args.task.now) c.next-next.result c.access-got.result
    fits c.next-next.ensures.access c.access-got.ensures.got c.take.new.self c.take.result c.access-got.ensures.words c.take.ensures.reply
    c.take.ensures.fits
