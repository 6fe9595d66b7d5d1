use Rattle.cli_plans.proofs.Common.{◌≤◌, ℕ, List, [], ◌∷◌, length, string_bytes, inl, inr, refl, sym, subst, arith, length-append, HistoryView}
use Rattle.cli_plans.proofs.Common.{text_limit, Spells, SpellsBetweenWhiteSpace, line}
use Rattle.cli_plans.proofs.drivable.history_line.Goals as goal

-- a text spells what it spells without the line feed after it
with_line_feed : SpellsBetweenWhiteSpace → (text : List ℕ) (history : HistoryView) → length (line text) ≤ text_limit
    → (length text ≤ text_limit → Spells text history) → Spells (line text) history
with_line_feed between text history fits spells =
    between [] text (10 ∷ []) history tt (inr (inr (inl refl)), tt) fits (spells (omega (arith, fits, length-append text (10 ∷ []))))

pub returns-clause-again : goal.returns-clause-again
returns-clause-again c = λ fits.
    let text = c.in_ok-text.text in
    let full = c.in_ok-line_of.field-0 in
    let size : length (string_bytes full) ≤ text_limit = omega (arith, fits, full.bytes.ok.0) in
    subst (λ (bytes : List ℕ). Spells bytes c.args.history.now) (sym c.in_ok-line_of.ensures)
    (with_line_feed c.spells_between_white_space.ensures (string_bytes text) c.args.history.now
    (subst (λ (bytes : List ℕ). length bytes ≤ text_limit) c.in_ok-line_of.ensures size)
    (λ few. c.in_ok-text.ensures.again (omega (arith, few, text.bytes.ok.0))))
