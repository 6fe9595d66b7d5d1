-- The line of a front has no float.
use Rattle.cli_explain.proofs.Common.{◌≡◌, ℕ, false, List, refl, has_float, Operation, Contents, reply_to, pair_data, has_float-reply}
use Rattle.cli_explain.proofs.Common.{items_have_float-map, calls_at, after_calls, event_data, stuck_data, taken_data, next_of, front_data}
use Rattle.cli_explain.proofs.RowLemmas.{has_float-answer}

has_float-stuck : (m : Contents) (a : Operation) → has_float (stuck_data m a) ≡ false
has_float-stuck m a = rw (has_float-answer a.response, has_float-reply (reply_to m a.call)) refl

has_float-taken : (taken : List Operation) (m : Contents) (next : List Operation) → has_float (taken_data taken m next) ≡ false
has_float-taken taken m next =
    let events = items_have_float-map event_data (λ a. refl) taken in
    let pairs = items_have_float-map pair_data (λ pair. refl) m in
    let stuck = items_have_float-map (stuck_data m) (has_float-stuck m) next in
    rw (events, pairs, stuck) refl

pub has_float-front : (start : Contents) (calls : List Operation) (front : List ℕ) → has_float (front_data start calls front) ≡ false
has_float-front start calls front =
    let taken = calls_at calls front in
    has_float-taken taken (after_calls start taken) (next_of taken calls)
