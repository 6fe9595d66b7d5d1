-- The stage of any call, what is left of the call there, and its stage after a list of words got.
use Rattle.std.specs.Prelude.{ℕ, List, [], ◌∷◌}
use Rattle.events.specs.declared.event.Call.{Call}
use Rattle.events.specs.declared.event.Call.TheVariants.{Scan}
use Rattle.art_control_states.specs.declared.stage.Stage.{Stage}
use Rattle.art_rows.specs.Steps.{Turn, Rest}
use Rattle.art_rows.specs.Rows.{Setting, locks}
use Rattle.art_control_states.specs.Stages.{rest_in}
use Rattle.art_control_states.specs.Automaton.{start_at, turn_at, stage_after}
use Rattle.art_control_states.specs.Scans.{ScanAt, scan_in, scan_turn, scan_start, scan_after}

-- a call on a key, or a scan between two keys
pub data CallAt : Type 0 where
  OnKey : Stage → CallAt
  OnScan : (low high : ℕ) → ScanAt → CallAt

abbrev pub rest_at : Setting → CallAt → Rest
rest_at c (OnKey stage) = rest_in c stage
rest_at c (OnScan low high scan) = scan_in c low high scan

abbrev pub call_turn : Setting → CallAt → Turn
call_turn c (OnKey stage) = turn_at c stage
call_turn c (OnScan low high scan) = scan_turn c scan

abbrev pub call_after : Setting → CallAt → ℕ → CallAt
call_after c (OnKey stage) word = OnKey (stage_after c stage word)
call_after c (OnScan low high scan) word = OnScan low high (scan_after c low high scan word)

abbrev pub begun_as : Call → Setting → CallAt
begun_as (Scan low high) c = OnScan low high (scan_start c)
begun_as call c = OnKey (start_at (locks c.variant))

-- the stage of a call at its beginning, and after a list of words got
abbrev pub call_begun : Setting → CallAt
call_begun c = begun_as c.call c

abbrev pub after_all : Setting → CallAt → List ℕ → CallAt
after_all c at [] = at
after_all c at (word ∷ got) = after_all c (call_after c at word) got

abbrev pub call_after_words : Setting → List ℕ → CallAt
call_after_words c got = after_all c (call_begun c) got
