-- What holds of the bytes and index words that are left in a scan.
use Rattle.std.specs.Prelude.{◌+◌, Bool, true, false, ◌&&◌, nat_le}
use Rattle.art_control_states.specs.declared.stage.Frame.{Frame}
use Rattle.art_control_states.specs.declared.stage.ScanStep.{ScanStep}
use Rattle.art_control_states.specs.declared.stage.ScanStep.TheVariants.{Index, Child, Over}

abbrev pub is_sound_frame : Frame → Bool
is_sound_frame f = nat_le (f.byte + f.left) 256 && nat_le (f.index + f.words) 31

abbrev pub is_sound_step : ScanStep → Bool
is_sound_step (Index n j m) = nat_le (j + m) 31
is_sound_step (Child f slot) = is_sound_frame f
is_sound_step step = true

abbrev pub is_over : ScanStep → Bool
is_over Over = true
is_over step = false
