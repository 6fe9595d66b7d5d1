-- What the work leaves, whatever its kind is.
use Rattle.art_schedules.proofs.Common.{◌≡◌, ℕ, ◌≤◌, List, length, false, table_words, Setting, is_scan, Hold, Work, Stage, work_at, OnKey}
use Rattle.art_schedules.proofs.Common.{Knows, IsFull, Solo, RowsOf, FitsWords, IsRelease, IsWorkDone}
use Rattle.art_control_states.specs.declared.stage.Work.TheVariants as work
use Rattle.art_schedules.proofs.work.DoneLemmas.{write-done, put-done}
use Rattle.art_schedules.proofs.work.PairDoneLemmas.{pair-done}
use Rattle.art_schedules.proofs.work.GrowDoneLemmas.{grow-done}

pub work-done : (c : Setting) (h : Hold) (work : Work) (w0 words : List ℕ) (at : Stage) → IsFull c.variant → is_scan c.call ≡ false
    → 1 ≤ c.shape.rows256
    → table_words c.shape ≤ length w0 → Knows (RowsOf c.shape) c (OnKey (work_at c h work)) → FitsWords c h work w0
    → Solo c (OnKey (work_at c h work)) w0 (OnKey at) words → IsRelease h at → IsWorkDone c h work w0 at words
work-done c h (work.Write slot word value) w0 words at full key some long k found solo r =
    (0, tt, write-done c full some key h slot word value w0 words at k solo r)
work-done c h (work.Pair p) w0 words at full key some long k found solo r = pair-done c full some key h p w0 long k found words at solo r
work-done c h (work.Put keys) w0 words at full key some long k found solo r =
    (0, tt, put-done c full some key h keys w0 words at long k found solo r)
work-done c h (work.Grow slot keys) w0 words at full key some long k found solo r =
    grow-done c full some key h slot keys w0 long k found words at solo r
