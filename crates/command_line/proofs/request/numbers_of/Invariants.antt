use Rattle.command_line.proofs.Common.{map, take, ◌≡◌, texts, number_of}
use Rattle.command_line.proofs.request.numbers_of.Given as goal

abbrev pub invariant-loop-word : goal.invariant-loop-word
invariant-loop-word l = l.numbers.items ≡ map number_of (take l.word-index (texts l.words))
