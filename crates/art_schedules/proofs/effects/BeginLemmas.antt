-- What holds where work begins.
use Rattle.art_schedules.proofs.Common.{◌≡◌, ℕ, List, true, false, refl, sym, inl, inr, none-some, Option, Some, Call, Get, Insert, Remove, Scan}
use Rattle.art_schedules.proofs.Common.{Replace, Child, Empty, Row, Leaf, Setting, is_scan, is_insert, overwriting, Hold, Work, child_on}
use Rattle.art_schedules.proofs.Common.{BeginsWork, IsOverwritten}
use Rattle.art_control_states.specs.declared.stage.Work.TheVariants as work
use Rattle.art_schedules.proofs.work.CallLemmas.{is-insert}

inserts-do-not-scan : (call : Call) → is_insert call ≡ true → is_scan call ≡ false
inserts-do-not-scan (Insert key value) e = refl
inserts-do-not-scan (Get key) e = refl
inserts-do-not-scan (Remove key) e = refl
inserts-do-not-scan (Scan low high) e = sym e
inserts-do-not-scan (Replace key old new) e = refl

overwrites-do-not-scan : (call : Call) (value word : ℕ) → overwriting call value ≡ Some word → is_scan call ≡ false
overwrites-do-not-scan (Insert key v) value word e = refl
overwrites-do-not-scan (Get key) value word e = refl
overwrites-do-not-scan (Remove key) value word e = refl
overwrites-do-not-scan (Scan low high) value word e = absurd (none-some _ e)
overwrites-do-not-scan (Replace key old new) value word e = refl

overwritten : (c : Setting) (word : ℕ) (old : Option ℕ) (child : Child) → IsOverwritten c word old child → is_scan c.call ≡ false
overwritten c word old Empty o = inserts-do-not-scan c.call o.0
overwritten c word old (Leaf key value) o = elim o.2 [
  | inl i ↦ inserts-do-not-scan c.call i.0
  | inr w ↦ overwrites-do-not-scan c.call value word w
]
overwritten c word old (Row base kind) o = absurd o

pub no-scan : (c : Setting) (calm : List ℕ) (h : Hold) (work : Work) → BeginsWork c calm h work → is_scan c.call ≡ false
no-scan c calm h (work.Write slot word old) b = overwritten c word old (child_on c.shape calm h.row.base h.row.kind b.byte) b.finds.2
no-scan c calm h (work.Pair p) b = inserts-do-not-scan c.call (is-insert c.call b.words.0)
no-scan c calm h (work.Put keys) b = inserts-do-not-scan c.call (is-insert c.call b.words.0)
no-scan c calm h (work.Grow slot keys) b = inserts-do-not-scan c.call (is-insert c.call b.words.0)
