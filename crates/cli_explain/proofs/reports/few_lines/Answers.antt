use Rattle.cli_explain.proofs.Common.{ℕ, List, ◌++◌, ◌≡◌, string_bytes, ap, ap₂, ◌∙◌, subst, HistoryView, Operation, Reason, Contents, IsLinearizable}
use Rattle.cli_explain.proofs.Common.{AreOriginLines, AreHistoryLines, rows}
use Rattle.cli_explain.proofs.LineLemmas.{few_from}
use Rattle.cli_explain.proofs.reports.few_lines.Goals as goal

-- the lines of calls are those of the same calls
shown_of : (budget : ℕ) (start : Contents) (calls those : List Operation) (bytes : List ℕ) → calls ≡ those
    → (IsLinearizable start those → ⊥) → ((IsLinearizable start calls → ⊥) → AreHistoryLines budget start calls bytes)
    → AreHistoryLines budget start those bytes
shown_of budget start calls those bytes is none lines =
    subst (λ (l : List Operation). AreHistoryLines budget start l bytes) is
    (lines (λ order. none (subst (λ (l : List Operation). IsLinearizable start l) is order)))

origins_of : (history : HistoryView) (start : Contents) (calls those : List Operation) (bytes : List ℕ) → calls ≡ those
    → AreOriginLines history start calls bytes → AreOriginLines history start those bytes
origins_of history start calls those bytes is lines = subst (λ (l : List Operation). AreOriginLines history start l bytes) is lines

pub returns : goal.returns
returns c =
    let history = c.args.history.now in
    let few = c.args.few.now in
    let start = c.args.start.now in
    let outside = string_bytes c.in_ok-outside.outside in
    let small = string_bytes c.in_ok-small.small in
    let calls = c.as_slice-calls.result.now in
    few_from c.args.budget history start few (string_bytes c.in_ok-text.text) outside small
    (string_bytes c.push_str.new.self) (string_bytes c.push_str-2.new.self)
    (c.in_ok-text.ensures
    ∙ ap₂ (λ (l : List Operation) (reasons : List Reason). rows history l reasons) c.as_slice-calls.ensures.value c.deref.ensures.value)
    (origins_of history start calls few.calls.items outside c.as_slice-calls.ensures.value c.in_ok-outside.ensures)
    (shown_of c.args.budget start calls few.calls.items small c.as_slice-calls.ensures.value c.requires.none c.in_ok-small.ensures)
    (c.in_ok-push_str.ensures.bytes ∙ ap (λ (l : List ℕ). string_bytes c.in_ok-text.text ++ l) c.as_str.ensures.value)
    (c.in_ok-push_str-2.ensures.bytes ∙ ap (λ (l : List ℕ). string_bytes c.push_str.new.self ++ l) c.as_str-2.ensures.value)
