-- A get, a remove or a replace that runs alone on a table at rest does what it does on the map.
use Rattle.art_schedules.proofs.Common.{◌≡◌, ℕ, List, Bool, true, false, refl, subst, arith, Call, Get, Insert, Remove, Scan}
use Rattle.std.proofs.Common.{if◌then◌else◌}
use Rattle.art_schedules.proofs.Common.{Replace, Reply, Shape, Variant, Setting, locks, procedure, act, IsAtRest, SameTreesAreOne, WaysLeadToValues}
use Rattle.art_schedules.proofs.Common.{LeavesArePut, LeavesAreRemoved, RunsAlone, is_seek, SeeksAreTheMaps}
use Rattle.art_rows.specs.Coupled as coupled
use Rattle.art_rows.specs.Optimistic as optimistic
use Rattle.art_schedules.proofs.alone.AloneLemmas.{act-comes, if_true-comes, if_false-comes}
use Rattle.art_schedules.proofs.alone.WayLemmas.{WritesWords, Seeks}
use Rattle.art_schedules.proofs.alone.CoupledSeekLemmas.{seeks-coupled}
use Rattle.art_schedules.proofs.alone.OptimisticSeekLemmas.{seeks-optimistic}
use Rattle.art_schedules.proofs.alone.SeekLemmas.{bounds, writes-words}
use Rattle.art_schedules.proofs.alone.SeekEndLemmas.{arrived}

module _ (c : Setting) (n : ℕ) (words : List ℕ) (rest : IsAtRest c.shape n words) (small : WritesWords c.call) where
  -- under the variant's way to go down
  by_variant : (b : Bool) → locks c.variant ≡ b
      → Seeks c.shape words c.call (if locks c.variant then coupled.seek c else optimistic.seek c) words
  by_variant true e =
      let s = seeks-coupled c n words rest small in
      record { reply = s.reply; later = s.later; comes = if_true-comes (optimistic.seek c) e s.comes; arrives = s.arrives }
  by_variant false e =
      let s = seeks-optimistic c n words rest small in
      record { reply = s.reply; later = s.later; comes = if_false-comes (coupled.seek c) e s.comes; arrives = s.arrives }

seeks : (s : Shape) (variant : Variant) (n : ℕ) (words : List ℕ) (call : Call) → is_seek call ≡ true → IsAtRest s n words → WritesWords call
    → Seeks s words call (procedure (record { shape = s; variant = variant; call = call }) call) words
unfolding procedure
seeks s variant n words (Get key) seek rest small =
    by_variant (record { shape = s; variant = variant; call = Get key }) n words rest small (locks variant) refl
seeks s variant n words (Remove key) seek rest small =
    by_variant (record { shape = s; variant = variant; call = Remove key }) n words rest small (locks variant) refl
seeks s variant n words (Replace key old new) seek rest small =
    by_variant (record { shape = s; variant = variant; call = Replace key old new }) n words rest small (locks variant) refl
seeks s variant n words (Insert key value) seek rest small = absurd (grind (arith, seek))
seeks s variant n words (Scan low high) seek rest small = absurd (grind (arith, seek))

pub seeks-are-the-maps : SameTreesAreOne → WaysLeadToValues → LeavesArePut → LeavesAreRemoved → SeeksAreTheMaps
seeks-are-the-maps same ways puts removes s variant n words m call tree seek rest means =
    let b = bounds call tree seek in
    let found = seeks s variant n words call seek rest (writes-words call b) in
    let does = arrived same ways puts removes s n words m rest means call found.reply found.later b seek found.arrives in
    record {
      later = found.later;
      runs = subst (λ (r : Reply). RunsAlone (act s variant call) words found.later r) does.says (act-comes s variant call found.comes);
      rest = does.rests;
      means = does.meant;
    }
