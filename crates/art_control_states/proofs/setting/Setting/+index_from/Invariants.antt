use Rattle.art_control_states.proofs.setting.Setting.+index_from.Given as goal

abbrev pub decreases-index_from : goal.decreases-index_from
decreases-index_from l = l.left
