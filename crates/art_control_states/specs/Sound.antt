-- What holds of each stage that a call comes to: a child has a word, and the counters of its loops are small.
use Rattle.std.specs.Prelude.{◌+◌, Bool, true, false, ◌&&◌, nat_le}
use Rattle.art_rows.specs.declared.table.Kind.{Kind}
use Rattle.art_rows.specs.declared.table.Kind.TheVariants.{Four, Sixteen}
use Rattle.art_rows.specs.Words.{is_small_child}
use Rattle.art_control_states.specs.declared.stage.Finding.{Finding}
use Rattle.art_control_states.specs.declared.stage.Finding.TheVariants.{Has}
use Rattle.art_control_states.specs.declared.stage.Work.{Work}
use Rattle.art_control_states.specs.declared.stage.Work.TheVariants as work
use Rattle.art_control_states.specs.declared.stage.Target.{Target}
use Rattle.art_control_states.specs.declared.stage.Target.TheVariants.{Taken}
use Rattle.art_control_states.specs.declared.stage.Stage.{Stage}
use Rattle.art_control_states.specs.declared.stage.Stage.TheVariants.{Lock, Exchange, Wait, Check, LetGo, Take, ClaimPair, StorePair, PutLoad}
use Rattle.art_control_states.specs.declared.stage.Stage.TheVariants.{PutStore, PutMore}
use Rattle.art_control_states.specs.declared.stage.Stage.TheVariants.{GrowLoad, GrowStore, SpreadIndex, SpreadLoad, SpreadStore, GrowKeys}

-- the kinds whose children are found by key bytes
abbrev pub has_keys : Kind → Bool
has_keys Four = true
has_keys Sixteen = true
has_keys kind = false

abbrev pub is_sixteen : Kind → Bool
is_sixteen Sixteen = true
is_sixteen kind = false

abbrev pub is_sound_finding : Finding → Bool
is_sound_finding (Has slot child) = is_small_child child
is_sound_finding f = true

abbrev pub is_sound_work : Work → Bool
is_sound_work (work.Pair p) = is_small_child p.child
is_sound_work w = true

abbrev pub is_sound_target : Target → Bool
is_sound_target (Taken t) = is_sound_work t.work
is_sound_target t = true

abbrev pub is_sound : Stage → Bool
is_sound (Lock t first) = is_sound_target t
is_sound (Exchange t v) = is_sound_target t
is_sound (Wait t) = is_sound_target t
is_sound (Check p f) = is_sound_finding f
is_sound (LetGo above p f) = is_sound_finding f
is_sound (Take t) = is_sound_work t.work
is_sound (ClaimPair h p) = is_small_child p.child
is_sound (StorePair h p base word) = is_small_child p.child
is_sound (PutLoad h keys left) = has_keys h.row.kind
is_sound (PutStore h keys left word) = has_keys h.row.kind
is_sound (PutMore h keys) = is_sixteen h.row.kind
is_sound (GrowLoad g place left) = nat_le (place + left) 48
is_sound (GrowStore g place left word) = nat_le (place + left) 48
is_sound (SpreadIndex g place left) = nat_le (place + left) 31
is_sound (SpreadLoad s entry left) = nat_le (s.place + s.left) 31 && nat_le (entry + left) 7
is_sound (SpreadStore s entry left word) = nat_le (s.place + s.left) 31 && nat_le (entry + left) 7
is_sound (GrowKeys g place left) = has_keys g.hold.row.kind && nat_le (place + left) 31
is_sound stage = true
