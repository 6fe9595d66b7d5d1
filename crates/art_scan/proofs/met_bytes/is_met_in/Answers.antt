use Rattle.art_scan.proofs.Common.{refl, ap, sym, ◌∙◌, can_lie, row_at, has_any}
use Rattle.art_scan.proofs.ByteLemmas.{word_bytes}
use Rattle.art_scan.proofs.met_bytes.is_met_in.Goals as goal

pub returns : goal.returns
returns c =
    c.is_met_from.ensures ∙ ap has_any (sym (word_bytes c.args.word 256 8 (can_lie c.args.low c.args.high (row_at c.args.row))
    c.requires refl refl))
