use Rattle.art_scan.proofs.Common.{refl, ap, ◌∙◌, at, frame_of, with_frame, resume_at, setting_of, walk_of}
use Rattle.art_scan.proofs.WayLemmas.{begins_keys, begins_words, begins_full}
use Rattle.art_scan.proofs.walks.begin_row.Goals as goal

pub returns-in-Four-clause-step : goal.returns-in-Four-clause-step
returns-in-Four-clause-step c =
    begins_keys (setting_of c.args.setting.now) c.args.low c.args.high c.args.row (walk_of c.args.lists.now) c.in-Four.is

pub returns-then-not-go_to_word-clause-step : goal.returns-then-not-go_to_word-clause-step
returns-then-not-go_to_word-clause-step c =
    let setting = setting_of c.args.setting.now in
    let walk = walk_of c.args.lists.now in
    begins_words setting c.args.low c.args.high c.args.row walk c.go_to_word.result (at c.go_to_word.new.step walk)
    (at c.resume.new.step (walk_of c.resume.new.lists)) c.in-FortyEight.is
    (c.go_to_word.ensures.next walk (resume_at setting c.args.low c.args.high walk))
    (rw c.if-not-go_to_word.true c.resume.ensures.step)

pub returns-else-not-go_to_word-clause-step : goal.returns-else-not-go_to_word-clause-step
returns-else-not-go_to_word-clause-step c =
    let setting = setting_of c.args.setting.now in
    let walk = walk_of c.args.lists.now in
    begins_words setting c.args.low c.args.high c.args.row walk c.go_to_word.result (at c.go_to_word.new.step walk)
    (at c.go_to_word.new.step walk) c.in-FortyEight.is
    (c.go_to_word.ensures.next walk (resume_at setting c.args.low c.args.high walk))
    (rw c.if-not-go_to_word.false refl)

pub returns-in-Full-clause-step : goal.returns-in-Full-clause-step
returns-in-Full-clause-step c =
    c.go_on.ensures.step
    ∙ (ap (λ f. resume_at (setting_of c.args.setting.now) c.args.low c.args.high (with_frame (walk_of c.args.lists.now) f))
    (c.frame_of.ensures ∙ ap (λ keys. frame_of c.args.row keys 0 0) c.keys_one.ensures)
    ∙ begins_full (setting_of c.args.setting.now) c.args.low c.args.high c.args.row (walk_of c.args.lists.now) c.in-Full.is)
