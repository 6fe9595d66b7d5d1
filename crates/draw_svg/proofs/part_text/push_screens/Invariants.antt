use Rattle.std.proofs.Common.{◌≡◌, ◌-◌}
use Rattle.std.specs.Prelude.{string_bytes}
use Rattle.draw_svg.specs.Parts.{with_screens}
use Rattle.draw_svg.proofs.part_text.push_screens.Given as goal

abbrev pub invariant-loop-screen : goal.invariant-loop-screen
invariant-loop-screen l =
    with_screens (string_bytes l.fn.out) l.width l.lanes 0 l.screens
    ≡ with_screens (string_bytes l.out) l.width l.lanes l.screen (l.screens - l.screen)
