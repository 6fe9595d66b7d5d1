use Rattle.memo.proofs.Common.{◌<◌, ◌+◌, ◌^◌, arith, get_or_past}
use Rattle.memo.proofs.BitLemmas.{ones_more, ones_few, ones_zero, ones_below}
use Rattle.memo.proofs.words.ones_of.Goals.{then-loop-full-test+else-words-full, else-loop-full-test}
use Rattle.memo.proofs.words.ones_of.Goals as goal

-- the word where the loop ends is not of ones alone
not_all : (c : goal.After-trailing_ones) → c.word_at.result + 1 < 2 ^ 64
not_all c = elim c.loop-full-test.branch [
  | then-loop-full-test+else-words-full w ↦ omega (arith, w.if-words-full.false, c.word_at.ensures, c.word_at.type_inv)
  | else-loop-full-test w ↦ omega (arith, get_or_past c.args.words.now c.loop-full.full 0 w.loop-full-test.false, c.word_at.ensures)
]

pub loop-full-preserved : goal.loop-full-preserved
loop-full-preserved c = (
  omega (arith, c.loop-full-test.true),
  ones_more c.args.words.now c.loop-full.full c.if-words-full.true c.loop-full.invariant.1,
)

pub returns-clause-bits : goal.returns-clause-bits
returns-clause-bits c =
    omega (
      arith,
      c.trailing_ones.ensures,
      ones_few c.args.words.now c.loop-full.full c.loop-full.invariant.1 c.word_at.result c.word_at.ensures (not_all c),
    )

pub returns-clause-ones : goal.returns-clause-ones
returns-clause-ones c =
    rw c.trailing_ones.ensures
    (ones_below c.args.words.now c.loop-full.full c.loop-full.invariant.1 c.word_at.result c.word_at.ensures (not_all c))

pub returns-clause-zero : goal.returns-clause-zero
returns-clause-zero c =
    rw c.trailing_ones.ensures
    (ones_zero c.args.words.now c.loop-full.full c.loop-full.invariant.1 c.word_at.result c.word_at.ensures (not_all c))
