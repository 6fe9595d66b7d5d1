use Rattle.std.proofs.Common.{List, ℕ, ◌++◌, ap, string_bytes}
use Rattle.page_html.specs.Pages.{page_text}
use Rattle.page_html.specs.declared.template.TheConstants.{BEFORE_HISTORY, BEFORE_JUDGE, BEFORE_LOCATE, BEFORE_EXPLAIN, BEFORE_ORDER, AFTER_ORDER}
use Rattle.page_html.proofs.EscapeLemmas.{five-blocks, last-part}
use Rattle.page_html.proofs.page.push_page.Goals as goal

pub returns : goal.returns
unfolding page_text
returns c =
    last-part c.push_str.result (string_bytes c.push_str.new.self) (string_bytes c.push_block-5.new.page) AFTER_ORDER.now
    (page_text c.args.texts.history.now c.args.texts.judged.now c.args.texts.located.now c.args.texts.explained.now c.args.texts.order.now)
    c.push_str.ensures.bytes
    (ap (λ (s : List ℕ). s ++ AFTER_ORDER.now)
    (five-blocks (string_bytes c.args.page.now) (string_bytes c.push_block.new.page) (string_bytes c.push_block-2.new.page)
    (string_bytes c.push_block-3.new.page) (string_bytes c.push_block-4.new.page) (string_bytes c.push_block-5.new.page)
    BEFORE_HISTORY.now BEFORE_JUDGE.now BEFORE_LOCATE.now BEFORE_EXPLAIN.now BEFORE_ORDER.now
    c.args.texts.history.now c.args.texts.judged.now c.args.texts.located.now c.args.texts.explained.now c.args.texts.order.now
    c.requires c.in_ok-push_block.ensures c.in_ok-push_block-2.ensures c.in_ok-push_block-3.ensures c.in_ok-push_block-4.ensures
    c.in_ok-push_block-5.ensures))
