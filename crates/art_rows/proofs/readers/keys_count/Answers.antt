use Rattle.std.proofs.Common.{arith}
use Rattle.art_rows.proofs.WriterLemmas.{count4_within}
use Rattle.art_rows.proofs.readers.keys_count.Goals as goal

pub returns-then-keys-le4-clause-count : goal.returns-then-keys-le4-clause-count
returns-then-keys-le4-clause-count c = count4_within c.args.keys (omega arith)
