use Rattle.std.proofs.Common.{rules, ◌∙◌}
use Rattle.std.specs.Prelude.{string_bytes, ◌++◌}
use Rattle.page_html.specs.Pages.{escaped}
use Rattle.page_html.proofs.EscapeLemmas.{found, none, one-more, at-end}
use Rattle.page_html.proofs.page.push_escaped.Goals as goal

pub loop-before-preserved : goal.loop-before-preserved
loop-before-preserved c =
    let (there, before_is, after_is) =
    found c.loop-before.rest.now c.split_once.result (c.in-Some.before, c.in-Some.after) c.split_once.ensures.cases c.in-Some.is in (
      one-more (string_bytes c.loop-before.out) (string_bytes c.push_str.new.self) (string_bytes c.push_str-in-Some.new.self)
          c.in-Some.before.now c.in-Some.after.now c.loop-before.rest.now (string_bytes c.args.out.now ++ escaped c.args.text.now)
          c.in_ok-push_str.ensures.bytes c.in_ok-push_str-2.ensures.bytes there before_is after_is c.loop-before.invariant.0,
      search rules,
    )

pub returns : goal.returns
returns c =
    c.in_ok-push_str-3.ensures.bytes
    ∙ at-end (string_bytes c.loop-before.out) c.loop-before.rest.now (string_bytes c.args.out.now ++ escaped c.args.text.now)
    (none c.loop-before.rest.now c.split_once.result c.split_once.ensures.cases c.in_default.is) c.loop-before.invariant.0
