-- Laws of the work in held rows.
use Rattle.std.specs.Prelude.{◌≡◌, ℕ, ◌≤◌, List, length, false}
use Rattle.art_rows.specs.Table.{table_words}
use Rattle.art_rows.specs.Rows.{Setting, is_scan}
use Rattle.art_control_states.specs.declared.stage.Hold.{Hold}
use Rattle.art_control_states.specs.declared.stage.Work.{Work}
use Rattle.art_control_states.specs.declared.stage.Stage.{Stage}
use Rattle.art_control_states.specs.Automaton.{work_at}
use Rattle.art_control_states.specs.Calls.{OnKey}
use Rattle.art_schedules.specs.versions.Holding.{Knows}
use Rattle.art_schedules.specs.versions.Laws.{IsFull}
use Rattle.art_schedules.specs.work.Solo.{Solo}
use Rattle.art_schedules.specs.work.Works.{RowsOf, FitsWords, IsRelease, IsWorkDone}

-- If the work alone has come to its first release, it has left what its kind says.
abbrev pub WorkIsDone : Type 0
WorkIsDone = (c : Setting) (h : Hold) (work : Work) (w0 words : List ℕ) (at : Stage) → IsFull c.variant → is_scan c.call ≡ false
    → 1 ≤ c.shape.rows256
    → table_words c.shape ≤ length w0 → Knows (RowsOf c.shape) c (OnKey (work_at c h work)) → FitsWords c h work w0
    → Solo c (OnKey (work_at c h work)) w0 (OnKey at) words → IsRelease h at → IsWorkDone c h work w0 at words
