-- The automaton's words for the way down, by the setting alone.
use Rattle.std.specs.Prelude.{ℕ, ◌%◌, slice_index}
use Rattle.art_rows.specs.Words.{entries_of}
use Rattle.art_rows.specs.Rows.{Setting, locks, is_insert, releases_early, path_differs_at}
use Rattle.art_control_states.specs.declared.stage.HeldRow.{HeldRow}
use Rattle.art_control_states.specs.declared.stage.Keys.{Keys}
use Rattle.art_control_states.specs.declared.stage.Finding.{Finding}
use Rattle.art_control_states.specs.declared.stage.Position.{Position}
use Rattle.art_control_states.specs.declared.stage.Down.{Down}
use Rattle.art_control_states.specs.declared.stage.Target.{Target}
use Rattle.art_control_states.specs.declared.stage.Stage.{Stage}
use Rattle.art_control_states.specs.Stages.{row_at, byte_in}
use Rattle.art_control_states.specs.Automaton.{found_at, checked_at, words_at, indexed_at, find_at, arrived_at, entered_at, below_at}

-- once FIND is done and nothing is left to check,
abbrev pub after_found : Setting → Position → Finding → Stage
after_found c p f = found_at (locks c.variant) (is_insert c.call) (releases_early c.variant) c p f

-- once FIND is done,
abbrev pub after_finding : Setting → Position → Finding → Stage
after_finding c p f = checked_at (locks c.variant) (is_insert c.call) (releases_early c.variant) c p f

-- once a row's key words are read,
abbrev pub after_words : Setting → Position → Keys → Stage
after_words c p keys = words_at (locks c.variant) (is_insert c.call) (releases_early c.variant) c p keys

-- once the index word of the byte is read,
abbrev pub after_index : Setting → Position → ℕ → Stage
after_index c p w = indexed_at (locks c.variant) (is_insert c.call) (releases_early c.variant) c p w (slice_index (entries_of w)
    (byte_in c p.row % 8))

-- the stage once FIND's first word is read
abbrev pub after_first : Setting → Position → ℕ → Stage
after_first c p w = find_at (locks c.variant) (is_insert c.call) (releases_early c.variant) p.row.kind c p w

-- the stage once the row below is locked or waited for, and has this version
abbrev pub after_arrival : Setting → Down → ℕ → Stage
after_arrival c d v = arrived_at (locks c.variant) (is_insert c.call) (releases_early c.variant) c d v

-- the stage once the row of a target is locked or waited for, and has this version
abbrev pub after_entry : Setting → Target → ℕ → Stage
after_entry c t v = entered_at (locks c.variant) (is_insert c.call) (releases_early c.variant) c t v

-- the stage once the info of the row below is read
abbrev pub after_info : Setting → Down → HeldRow → Stage
after_info c d m = below_at (locks c.variant) (is_insert c.call) c d m (path_differs_at c (row_at m))
