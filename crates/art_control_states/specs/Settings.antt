-- The setting of a call, in the form that the trees' steps take.
use Rattle.std.specs.Prelude.{ℕ, List, [], ◌∷◌, ◌++◌}
use Rattle.art_rows.specs.Rows.{Setting}
use Rattle.art_control_states.specs.declared.stage.Growing.{Growing}
use Rattle.art_control_states.specs.Stages.{setting, keys_before, byte_in}
use Rattle.art_control_states.specs.declared.setting.Setting.{Setting as CallSetting}

abbrev pub setting_of : CallSetting → Setting
setting_of s = setting s.shape s.variant s.call

-- the key bytes of a row that grows, in the order of its children, and the byte that it grows for
abbrev pub grown_keys : Setting → Growing → List ℕ
grown_keys c g = keys_before g.hold g.keys ++ byte_in c g.hold.row ∷ []
