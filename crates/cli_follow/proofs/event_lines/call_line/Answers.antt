-- The value is that of the event and has no float, so its text is the compact one.
use Rattle.cli_follow.proofs.Common.{ap, ◌∙◌, codes, IfOk-weaker, Data, object, member, no_members, has_float, compact_text, Invoke, number_data}
use Rattle.cli_follow.proofs.Common.{has_float-event}
use Rattle.cli_follow.proofs.event_lines.call_line.Goals as goal

pub returns : goal.returns
returns c =
    let event = λ (d : Data). object (member (codes "invoke") d (member (codes "process") (number_data c.args.process) no_members)) in
    let is = c.in_ok-value.ensures ∙ ap event c.in_ok-call_value.ensures in
    IfOk-weaker c.to_string.result _ _
    (λ line text. text (ap has_float is ∙ has_float-event (Invoke c.args.process c.args.call.now)) ∙ ap compact_text is) c.to_string.ensures.text
