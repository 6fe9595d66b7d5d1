-- The line of a call has no float.
use Rattle.cli_explain.proofs.Common.{◌≡◌, Bool, true, false, List, [], ◌∷◌, map, Option, Some, None, refl, has_float, Event, Operation, Response}
use Rattle.cli_explain.proofs.Common.{HistoryView, operations, has_float-call, has_float-reply, items_have_float-map, Reason, Missed, missed_writes}
use Rattle.cli_explain.proofs.Common.{missed_of, answer_data, kept_data, was_answered, missed_data, missing_line_data, call_line_data}

-- the answer of a call among few has no float
pub has_float-answer : (response : Option Response) → has_float (answer_data response) ≡ false
has_float-answer None = refl
has_float-answer (Some response) = has_float-reply response.reply

-- what counts of the answer of a call that is kept has no float
has_float-kept : (answered : Bool) (response : Option Response) → has_float (kept_data answered response) ≡ false
has_float-kept true None = refl
has_float-kept false None = refl
has_float-kept answered (Some response) = has_float-reply response.reply

-- the calls that one misses have no float
has_float-missed : (events : List Event) (m : Missed) → has_float (missed_data events m) ≡ false
has_float-missed events m = rw (has_float-call m.call) refl

-- no line of a call has a float
has_float-missing : (history : HistoryView) (a : Operation) (missed : List Missed) (reason : Reason)
    → has_float (missing_line_data history a missed reason) ≡ false
has_float-missing history a [] reason =
    rw (has_float-kept (was_answered (operations history.events) a.inv) a.response, has_float-call a.call) refl
has_float-missing history a (m ∷ missed) reason =
    rw (
      has_float-kept (was_answered (operations history.events) a.inv) a.response,
      has_float-call a.call,
      has_float-missed history.events m,
      items_have_float-map (missed_data history.events) (has_float-missed history.events) missed,
    ) refl

pub has_float-row : (history : HistoryView) (a : Operation) (reason : Reason) → has_float (call_line_data history a reason) ≡ false
has_float-row history a reason =
    has_float-missing history a (map missed_of (missed_writes a (operations history.events))) reason
