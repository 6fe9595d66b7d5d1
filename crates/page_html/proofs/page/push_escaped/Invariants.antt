use Rattle.std.proofs.Common.{◌≡◌, ◌++◌, length}
use Rattle.std.specs.Prelude.{string_bytes}
use denote.Text.{Utf8}
use denote.Shadow.{shadow}
use Rattle.page_html.specs.Pages.{escaped}
use Rattle.page_html.proofs.page.push_escaped.Given as goal

abbrev pub invariant-loop-before : goal.invariant-loop-before
invariant-loop-before l =
    (string_bytes l.out ++ escaped l.rest ≡ string_bytes l.fn.out ++ escaped l.text) × shadow (Utf8 l.rest)

abbrev pub decreases-loop-before : goal.decreases-loop-before
decreases-loop-before l = length l.rest
