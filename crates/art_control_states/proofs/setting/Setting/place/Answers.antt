use Rattle.std.proofs.Common.{arith}
use Rattle.art_rows.proofs.ByteLemmas.{keys4-few}
use Rattle.art_control_states.proofs.setting.Setting.place.Goals as goal

pub returns-in-Four-clause-most : goal.returns-in-Four-clause-most
returns-in-Four-clause-most c = omega (arith, c.new_key_place.ensures.most, keys4-few c.args.keys.first)
