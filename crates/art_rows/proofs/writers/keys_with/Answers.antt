use Rattle.std.proofs.Common.{◌+◌, ◌*◌, ap, ◌∙◌}
use Rattle.art_rows.proofs.WriterLemmas.{word4_with}
use Rattle.art_rows.proofs.writers.keys_with.Goals as goal

pub returns : goal.returns
returns c =
    ap (λ n. n + 1 + 256 * c.key_bytes_with.result) c.from.ensures
    ∙ word4_with c.args.byte c.args.keys c.keys_count.result c.key_bytes_with.result c.keys_count.ensures.count
    c.key_bytes_with.ensures.bytes
