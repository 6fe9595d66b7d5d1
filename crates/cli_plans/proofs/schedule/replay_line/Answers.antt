use Rattle.cli_plans.proofs.Common.{◌≡◌, ◌<◌, ℕ, List, [], ◌∷◌, length, string_bytes, inl, inr, refl, sym, subst, ◌∙◌, arith, length-append}
use Rattle.cli_plans.proofs.Common.{text_limit, line, ReplayView, SpellsReplay, WhiteSpaceTellsNothing}
use Rattle.std.proofs.lemmas.Str.{IsUtf8-string_bytes}
use Rattle.std.specs.Str.{IsUtf8}
use Rattle.plan_text.specs.ReplayViews.{shown}
use Rattle.cli_plans.proofs.schedule.replay_line.Goals as goal

-- a text spells the same replay with a line feed at its end
with_line_feed : WhiteSpaceTellsNothing → (text : List ℕ) (r : ReplayView) → length text < text_limit → IsUtf8 (line text)
    → SpellsReplay text r → SpellsReplay (line text) r
with_line_feed tells text r short utf8 h = record {
  value = h.value;
  json = record {
    fits = omega (arith, short, length-append text (10 ∷ []));
    utf8 = utf8;
    value = tells [] text (10 ∷ []) tt (inr (inr (inl refl)), tt) ∙ h.json.value;
  };
  spelled = h.spelled;
}

pub returns-clause-again : goal.returns-clause-again
returns-clause-again c =
    let text = c.in_ok-text.text in
    let replay = shown c.args.replay.now in
    let same = c.in_ok-line_of.ensures in
    subst (λ (bytes : List ℕ). SpellsReplay bytes replay) (sym same)
    (with_line_feed c.white_space_tells_nothing.ensures (string_bytes text) replay (c.in_ok-text.ensures.short c.requires)
    (subst IsUtf8 same (IsUtf8-string_bytes c.in_ok-line_of.field-0)) (c.in_ok-text.ensures.again c.requires))
