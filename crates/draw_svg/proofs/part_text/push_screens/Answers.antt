use Rattle.std.proofs.Common.{◌≡◌, ℕ, suc, ◌+◌, ◌-◌, ◌<◌, List, ap, arith}
use Rattle.std.specs.Prelude.{string_bytes}
use Rattle.draw_svg.specs.Layout.{names_at}
use Rattle.draw_svg.specs.Parts.{with_names, with_screens}
use Rattle.draw_svg.proofs.part_text.push_screens.Goals as goal

-- one column of names more
screens-more : (text : List ℕ) (width : ℕ) (lanes : List ℕ) (screen screens : ℕ) → screen < screens
    → with_screens text width lanes screen (screens - screen)
    ≡ with_screens (with_names text (names_at width (screen + 1)) 0 lanes) width lanes (screen + 1) (screens - (screen + 1))
screens-more text width lanes screen screens below =
    let next : screens - screen ≡ suc (screens - (screen + 1)) = omega arith in ap (λ more. with_screens text width lanes screen more) next

pub loop-screen-preserved : goal.loop-screen-preserved
loop-screen-preserved c =
    let more = screens-more (string_bytes c.loop-screen.out) c.args.width c.args.lanes.now c.loop-screen.screen c.args.screens
    c.loop-screen-test.true in
    cc (more, c.loop-screen.invariant, c.in_ok-push_names.ensures, c.names_at.ensures)
