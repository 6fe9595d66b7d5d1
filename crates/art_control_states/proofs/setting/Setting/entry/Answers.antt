use Rattle.std.proofs.Common.{◌+◌, ap, sym, ◌∙◌}
use Rattle.art_rows.specs.Words.{place_of}
use Rattle.art_control_states.specs.Stages.{keys_in, byte_in}
use Rattle.art_control_states.specs.Settings.{setting_of}
use Rattle.art_control_states.proofs.KeyLemmas.{in_keys, counted, entry_some, entry_new, entry_none}
use Rattle.art_control_states.proofs.setting.Setting.entry.Goals as goal

pub returns-in-Some-clause-entry : goal.returns-in-Some-clause-entry
returns-in-Some-clause-entry c =
    entry_some (keys_in c.args.growing.hold.row.kind c.args.growing.keys)
    (byte_in (setting_of c.args.self.now) c.args.growing.hold.row) c.args.byte c.in-Some.place
    (c.in-Some.ensures.place ∙ ap (place_of c.args.byte) (in_keys c.args.growing.hold.row.kind c.args.growing.keys c.requires))

pub returns-then-byte-clause-entry : goal.returns-then-byte-clause-entry
returns-then-byte-clause-entry c =
    ap (λ n. n + 1) (c.count.ensures.count ∙ counted c.args.growing.hold.row.kind c.args.growing.keys c.requires)
    ∙ entry_new (keys_in c.args.growing.hold.row.kind c.args.growing.keys)
    (byte_in (setting_of c.args.self.now) c.args.growing.hold.row) c.args.byte
    (c.in-None.ensures.place ∙ ap (place_of c.args.byte) (in_keys c.args.growing.hold.row.kind c.args.growing.keys c.requires))
    (sym c.byte.ensures.byte ∙ c.if-byte.true)

pub returns-else-byte-clause-entry : goal.returns-else-byte-clause-entry
returns-else-byte-clause-entry c =
    entry_none (keys_in c.args.growing.hold.row.kind c.args.growing.keys)
    (byte_in (setting_of c.args.self.now) c.args.growing.hold.row) c.args.byte
    (c.in-None.ensures.place ∙ ap (place_of c.args.byte) (in_keys c.args.growing.hold.row.kind c.args.growing.keys c.requires))
    (λ same. c.if-byte.false (c.byte.ensures.byte ∙ same))
