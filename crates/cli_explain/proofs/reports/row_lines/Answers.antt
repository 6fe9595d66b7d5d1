use Rattle.cli_explain.proofs.Common.{◌≡◌, ℕ, ◌+◌, ◌<◌, ◌≤◌, List, [], ◌∷◌, ◌++◌, length, drop, refl, sym, ap, ◌∙◌, append_assoc, append-nil}
use Rattle.cli_explain.proofs.Common.{string_bytes, slice_index_or, drop_more, drop_all, Operation, HistoryView, Reason, compact_text, line}
use Rattle.cli_explain.proofs.Common.{call_line_data, rows}
use Rattle.cli_explain.proofs.reports.row_lines.Goals as goal

module _ (history : HistoryView) (calls : List Operation) (reasons : List Reason) (i : ℕ) where
  -- the lines to come begin with that of the next call, which goes after the text
  next_row : (a : Operation) (reason : Reason) (text row new all : List ℕ) → i < length calls → a ≡ slice_index_or calls i a
      → i < length reasons → reason ≡ slice_index_or reasons i reason → row ≡ line (compact_text (call_line_data history a reason))
      → new ≡ text ++ row → text ++ rows history (drop i calls) (drop i reasons) ≡ all
      → new ++ rows history (drop (i + 1) calls) (drop (i + 1) reasons) ≡ all
  next_row a reason text row new all call_below call_is reason_below reason_is row_is new_is so_far =
      let left = rows history (drop (i + 1) calls) (drop (i + 1) reasons) in
      let calls_left : drop i calls ≡ a ∷ drop (i + 1) calls =
      drop_more calls i a call_below ∙ ap (λ b. b ∷ drop (i + 1) calls) (sym call_is) in
      let reasons_left : drop i reasons ≡ reason ∷ drop (i + 1) reasons =
      drop_more reasons i reason reason_below ∙ ap (λ r. r ∷ drop (i + 1) reasons) (sym reason_is) in
      ap (λ t. t ++ left) (new_is ∙ ap (λ t. text ++ t) row_is)
      ∙ (append_assoc text (line (compact_text (call_line_data history a reason))) left
      ∙ (sym (λ j. text ++ rows history (calls_left j) (reasons_left j)) ∙ so_far))

  -- after the last call no line is to come
  no_call : (text all : List ℕ) → length calls ≤ i → text ++ rows history (drop i calls) (drop i reasons) ≡ all → text ≡ all
  no_call text all end so_far =
      sym (ap (λ l. text ++ rows history l (drop i reasons)) (drop_all i calls end) ∙ append-nil text) ∙ so_far

  -- after the last reason no line is to come
  no_rows : (l : List Operation) → rows history l [] ≡ []
  no_rows [] = refl
  no_rows (a ∷ l) = refl

  no_reason : (text all : List ℕ) → length reasons ≤ i → text ++ rows history (drop i calls) (drop i reasons) ≡ all → text ≡ all
  no_reason text all end so_far =
      sym (ap (λ l. text ++ rows history (drop i calls) l) (drop_all i reasons end)
      ∙ (ap (λ l. text ++ l) (no_rows (drop i calls)) ∙ append-nil text)) ∙ so_far

pub loop-number-preserved : goal.loop-number-preserved
loop-number-preserved c =
    let calls = c.args.calls.now in
    let reasons = c.args.reasons.now in
    let number = c.loop-number.number in
    let call = c.index-calls-number.result in
    let found = c.in-Some.ensures.lookup in
    next_row c.args.history.now calls reasons number call c.in-Some.reason.now (string_bytes c.loop-number.text)
    (string_bytes c.in_ok-row.row) (string_bytes c.push_str.new.self) (rows c.args.history.now calls reasons) c.loop-number-test.true
    c.index-calls-number.is found.3.0 found.1 c.in_ok-row.ensures
    (c.in_ok-push_str.ensures.bytes ∙ ap (λ t. string_bytes c.loop-number.text ++ t) c.as_str.ensures.value) c.loop-number.invariant

pub returns-in_default : goal.returns-in_default
returns-in_default c =
    no_reason c.args.history.now c.args.calls.now c.args.reasons.now c.loop-number.number
    (string_bytes c.loop-number.text) _ c.in_default.ensures.lookup.3 c.loop-number.invariant

pub returns : goal.returns
returns c =
    no_call c.args.history.now c.args.calls.now c.args.reasons.now c.loop-number.number
    (string_bytes c.loop-number.text) _ c.loop-number-test.false c.loop-number.invariant
