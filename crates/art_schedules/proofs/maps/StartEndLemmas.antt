-- The inserts of starting pairs come to their end, since each insert that runs alone does.
use Rattle.art_schedules.proofs.Common.{◌≡◌, ℕ, ◌+◌, ◌*◌, ◌≤◌, List, [], ◌∷◌, length, arith, refl, ap, All, length-map, All-nil, All-cons}
use Rattle.std.proofs.Common.{IsTrue}
use Rattle.art_schedules.proofs.Common.{All-head, All-tail, Insert, Contents, Shape, opening, Variant, is_tree_call, Plan, State, idle, moved_by}
use Rattle.art_schedules.proofs.Common.{step, inserts, start_plan, IsPlan, TablesOpenAtRest, SameTreesAreOne, SeeksAreTheMaps, ScansAreTheMaps}
use Rattle.art_schedules.proofs.Common.{InsertsAreTheMaps}
use Rattle.std.specs.Prelude.{None}
use Rattle.art_core.specs.Core.{opened}
use Rattle.art_core.specs.Runs.{Gives}
use Rattle.art_schedules.proofs.alone.AloneLemmas.{accesses-once}
use Rattle.art_schedules.proofs.serial.ScriptEndLemmas.{ComesToEnd, IsBrief, sole, ends-script, no-longer}
use Rattle.art_schedules.specs.maps.Ends.{StartsEnd}
use Rattle.art_schedules.proofs.maps.SerialMapLemmas.{IsMap, is-kept}

module _ (opens : TablesOpenAtRest) (same : SameTreesAreOne) (seeks : SeeksAreTheMaps) (scans : ScansAreTheMaps) (puts : InsertsAreTheMaps)
    (shape : Shape) (variant : Variant) (start : Contents) (within : IsPlan (start_plan shape variant start)) where
  abbrev plan : Plan
  plan = start_plan shape variant start

  -- an insert that runs alone where the words are at rest
  brief : (key value : ℕ) → IsTrue (is_tree_call (Insert key value)) → IsBrief shape variant (IsMap shape) (Insert key value)
  brief key value tree n words m few said last reply r =
      let i = puts shape variant (n + 1) words m key value tree within.shape (omega (arith, few)) said.rest said.means in
      let same = accesses-once r i.runs in
      let most = i.few in
      omega (arith, same, most)

  briefs : (pairs : Contents) → All (λ call. IsTrue (is_tree_call call)) (inserts pairs)
      → All (IsBrief shape variant (IsMap shape)) (inserts pairs)
  briefs [] tree = All-nil (IsBrief shape variant (IsMap shape))
  briefs (pair ∷ pairs) tree =
      All-cons (IsBrief shape variant (IsMap shape)) (Insert pair.0 pair.1) (inserts pairs)
      (brief pair.0 pair.1 (All-head (λ call. IsTrue (is_tree_call call)) (Insert pair.0 pair.1) (inserts pairs) tree))
      (briefs pairs (All-tail (λ call. IsTrue (is_tree_call call)) (Insert pair.0 pair.1) (inserts pairs) tree))

  tree : All (λ call. IsTrue (is_tree_call call)) (inserts start)
  tree = All-head (λ script. All (λ call. IsTrue (is_tree_call call)) script) (inserts start) [] within.calls

  end : ComesToEnd shape variant (inserts start) (1002 * length (inserts start)) (opening shape) idle
  end =
      let (rests, means) = opens shape within.shape.root in
      ends-script shape variant (inserts start) (IsMap shape) (is-kept same shape within.shape seeks scans puts variant) (inserts start)
      (opening shape) []
      idle refl refl tree (briefs start tree)
      (let few = within.few_calls in omega (arith, few)) (record { rest = rests; means = means; few = omega arith })

  abbrev last : State
  last = sole shape variant (inserts start) end.last end.to

  over : step plan last 0 ≡ None
  unfolding step
  over = ap (moved_by last 0 end.to) end.over

  few : (schedule : List ℕ) (s : State) → Gives plan (opened plan) schedule s → length schedule ≤ 1002 * length start
  few schedule s gives =
      let shorter = no-longer plan end.leads.schedule schedule (opened plan) last s refl end.leads.gives gives over in
      let long = end.leads.long in
      let most = end.few in
      let calls = length-map start (λ pair. Insert pair.0 pair.1) in
      omega (arith, shorter, long, most, calls)

pub starts-end : TablesOpenAtRest → SameTreesAreOne → SeeksAreTheMaps → ScansAreTheMaps → InsertsAreTheMaps → StartsEnd
starts-end opens same seeks scans puts shape variant start within = few opens same seeks scans puts shape variant start within
