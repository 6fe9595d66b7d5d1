-- Starting words: with no pairs they are the opening words; and a run of the inserts.
use Rattle.art_core.proofs.Common.{◌≡◌, ◌≢◌, ℕ, ◌+◌, ◌<◌, arith, refl, ap, ◌∙◌, List, [], ◌∷◌, length, Option, Some, None, slice_index}
use Rattle.art_core.proofs.Common.{slice_set, replicate, All-nil, same_Some, get_or-set_other, Shape, opening, table_words, Variant, Plan, State}
use Rattle.art_core.proofs.Common.{idle, opened, step, run_on, StartsOn, start_plan}
use Rattle.std.proofs.lemmas.List.{get_or-replicate}
use Rattle.events.specs.declared.event.Reply.TheVariants as replies
use Rattle.art_rows.specs.Table.{info_at, root_base}
use Rattle.art_core.proofs.HistoryLemmas.{all_steps, nowhere, one-step}

-- a run makes as many steps as the schedule has places
pub run-steps : (plan : Plan) (schedule : List ℕ) (first s : State) → run_on plan (Some first) schedule ≡ Some s
    → all_steps s ≡ all_steps first + length schedule
run-steps plan [] first s h = let same = ap all_steps (same_Some first s h) in omega arith
run-steps plan (p ∷ schedule) first s h = go (step plan first p) refl (run-steps plan schedule) h
  where
    go : (o : Option State) → step plan first p ≡ o
        → ((next s : State) → run_on plan (Some next) schedule ≡ Some s → all_steps s ≡ all_steps next + length schedule)
        → run_on plan o schedule ≡ Some s → all_steps s ≡ all_steps first + length (p ∷ schedule)
    go None e later k = absurd (nowhere plan schedule s k)
    go (Some next) e later k = let rest = later next s k in omega (arith, one-step plan first p next e)

not-zero : (n : ℕ) → 0 < n → 0 ≢ n
not-zero n h e = omega arith

pub clock-at-zero : (shape : Shape) → slice_index (opening shape) 0 ≡ 0
clock-at-zero shape =
    let first = not-zero (info_at (root_base shape)) (omega arith) in
    let second = not-zero 4 (omega arith) in
    get_or-set_other (slice_set (replicate (table_words shape) 0) 4 1) (info_at (root_base shape)) 0 3 0 first
    ∙ (get_or-set_other (replicate (table_words shape) 0) 4 0 1 0 second ∙ get_or-replicate (table_words shape) 0 0 0 (omega arith))

set-same : (words : List ℕ) → slice_index words 0 ≡ 0 → words ≡ slice_set words 0 0
set-same [] h = refl
set-same (w ∷ ws) h = ap (λ v. v ∷ ws) h

-- with no pairs there is nothing to insert
pub no-start : (shape : Shape) (variant : Variant) → StartsOn shape variant [] (opening shape)
no-start shape variant = record {
  state = opened (start_plan shape variant []);
  process = idle;
  inserted = record { schedule = []; gives = refl; few_steps = omega arith; is_process = refl };
  all = refl;
  accepted = All-nil (λ reply. reply ≢ replies.Refused);
  leaves = set-same (opening shape) (clock-at-zero shape);
}
