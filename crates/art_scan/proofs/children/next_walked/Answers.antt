use Rattle.art_scan.proofs.Common.{◌+◌, ◌-◌, ◌∙◌, inr, arith, child_from, words_that_follow, frame_test, frame_slot}
use Rattle.art_scan.proofs.ByteLemmas.{bytes_past}
use Rattle.art_scan.proofs.KeyByteLemmas.{pass_to, pass_all, passed, bytes_within}
use Rattle.art_scan.proofs.NextLemmas.{frame_bytes, bytes_found, not_tested}
use Rattle.art_scan.proofs.children.next_walked.Goals as goal

pub returns-then-ahead-frame-clause-next : goal.returns-then-ahead-frame-clause-next
returns-then-ahead-frame-clause-next c = λ w other.
    frame_bytes c.args.frame.now.row.kind c.args.low c.args.high w c.args.frame.now other
    ∙ pass_all (frame_test c.args.frame.now.row.kind c.args.low c.args.high c.args.frame.now)
    (frame_slot c.args.frame.now.row.kind c.args.frame.now) (child_from w c.args.frame.now) c.args.frame.now.byte c.args.frame.now.left
    (words_that_follow c.args.frame.now.row.kind c.args.low c.args.high c.args.frame.now.row w
    c.args.frame.now.index c.args.frame.now.words other)
    (λ y a b. inr (not_tested c.args.frame.now.row.kind c.args.low c.args.high c.args.frame.now y
    (c.bytes_ahead-ahead.ensures.passed c.args.high y a (omega (arith, b, c.if-ahead-frame.true)))))

pub returns-then-found-end-clause-next : goal.returns-then-found-end-clause-next
returns-then-found-end-clause-next c = λ w other.
    frame_bytes c.args.frame.now.row.kind c.args.low c.args.high w c.args.frame.now other
    ∙ pass_all (frame_test c.args.frame.now.row.kind c.args.low c.args.high c.args.frame.now)
    (frame_slot c.args.frame.now.row.kind c.args.frame.now) (child_from w c.args.frame.now) c.args.frame.now.byte c.args.frame.now.left
    (words_that_follow c.args.frame.now.row.kind c.args.low c.args.high c.args.frame.now.row w
    c.args.frame.now.index c.args.frame.now.words other)
    (λ y a b. passed c.args.low c.args.high c.args.frame.now c.bytes_ahead-ahead.result c.next_slot-found.result.byte
    c.bytes_ahead-ahead.ensures.passed c.next_slot-found.ensures.bare y a
    (omega (arith, b, c.if-found-end.true)))

pub returns-then-all_are_after-clause-next : goal.returns-then-all_are_after-clause-next
returns-then-all_are_after-clause-next c = λ w other.
    frame_bytes c.args.frame.now.row.kind c.args.low c.args.high w c.args.frame.now other
    ∙ (pass_to (frame_test c.args.frame.now.row.kind c.args.low c.args.high c.args.frame.now)
    (frame_slot c.args.frame.now.row.kind c.args.frame.now) (child_from w c.args.frame.now)
    c.args.frame.now.byte c.args.frame.now.left c.next_slot-found.result.byte
    (words_that_follow c.args.frame.now.row.kind c.args.low c.args.high c.args.frame.now.row w
    c.args.frame.now.index c.args.frame.now.words other)
    (omega (arith, c.next_slot-found.ensures.from)) (omega (arith, c.if-found-end.false))
    (passed c.args.low c.args.high c.args.frame.now c.bytes_ahead-ahead.result c.next_slot-found.result.byte
    c.bytes_ahead-ahead.ensures.passed c.next_slot-found.ensures.bare)
    ∙ bytes_past (frame_test c.args.frame.now.row.kind c.args.low c.args.high c.args.frame.now)
    (frame_slot c.args.frame.now.row.kind c.args.frame.now) (child_from w c.args.frame.now)
    c.next_slot-found.result.byte (c.args.frame.now.byte + c.args.frame.now.left - c.next_slot-found.result.byte)
    (words_that_follow c.args.frame.now.row.kind c.args.low c.args.high c.args.frame.now.row w
    c.args.frame.now.index c.args.frame.now.words other)
    (λ y m. not_tested c.args.frame.now.row.kind c.args.low c.args.high c.args.frame.now y
    (c.all_are_after.ensures.behind c.if-all_are_after.true c.args.low y m)))

pub returns-clause-next : goal.returns-clause-next
returns-clause-next c = λ w other.
    frame_bytes c.args.frame.now.row.kind c.args.low c.args.high w c.args.frame.now other
    ∙ (pass_to (frame_test c.args.frame.now.row.kind c.args.low c.args.high c.args.frame.now)
    (frame_slot c.args.frame.now.row.kind c.args.frame.now) (child_from w c.args.frame.now)
    c.args.frame.now.byte c.args.frame.now.left c.next_slot-found.result.byte
    (words_that_follow c.args.frame.now.row.kind c.args.low c.args.high c.args.frame.now.row w
    c.args.frame.now.index c.args.frame.now.words other)
    (omega (arith, c.next_slot-found.ensures.from)) (omega (arith, c.if-found-end.false))
    (passed c.args.low c.args.high c.args.frame.now c.bytes_ahead-ahead.result c.next_slot-found.result.byte
    c.bytes_ahead-ahead.ensures.passed c.next_slot-found.ensures.bare)
    ∙ bytes_found (frame_test c.args.frame.now.row.kind c.args.low c.args.high c.args.frame.now)
    (frame_slot c.args.frame.now.row.kind c.args.frame.now) (child_from w c.args.frame.now)
    c.next_slot-found.result.byte (c.args.frame.now.byte + c.args.frame.now.left - c.next_slot-found.result.byte)
    c.next_slot-found.result.slot
    (words_that_follow c.args.frame.now.row.kind c.args.low c.args.high c.args.frame.now.row w
    c.args.frame.now.index c.args.frame.now.words other)
    (λ e. omega (arith, e, c.if-found-end.false))
    (c.next_slot-found.ensures.walked (omega (arith, c.if-found-end.false, bytes_within c.args.frame.now c.requires)) c.args.low c.args.high
    ∙ (c.bytes_ahead-ahead.ensures.reached (omega (arith, c.if-ahead-frame.false, c.bytes_ahead-ahead.ensures.most))
    c.args.high c.next_slot-found.result.byte
    c.next_slot-found.ensures.from ∙ c.all_are_after.ensures.not c.if-all_are_after.false))
    (c.next_slot-found.ensures.slot (omega (arith, c.if-found-end.false, bytes_within c.args.frame.now c.requires))))
