-- Where a scan begins, and what it has found at the end of its walk.
use Rattle.art_schedules.proofs.Common.{◌≡◌, refl, sym, ◌∙◌, subst, Scan, Coupled, Answers, asks-answers, answers-same, ScanStep, Release}
use Rattle.art_schedules.proofs.Common.{setting, Walk, at, scan_turn, OnScan, call_begun, Alone, WalksAreTheMaps, IsOver, unwaited, rows_of_scan}
use Rattle.art_schedules.proofs.Common.{ScansBegin, WalkedScansFind, FoundScansAnswer}
use Rattle.events.specs.declared.event.Reply.TheVariants as reply
use Rattle.art_control_states.specs.declared.stage.ScanStep.TheVariants.{Over}
use Rattle.art_schedules.specs.coupled.Walks.{here}

pub scans-begin : ScansBegin
scans-begin shape low high calm words long = (
  refl,
  record {
    now = calm;
    alone = here;
    long = long;
    same = λ word of.
        absurd of.1;
    own = tt;
  },
)

walked-unwaited : (step : ScanStep) (w : Walk) → IsOver step → unwaited (at step w) ≡ at step w
walked-unwaited (Release n) w k = refl
walked-unwaited Over w k = refl
walked-unwaited step w k = absurd k

pub walked-scans-find : WalksAreTheMaps → WalkedScansFind
walked-scans-find maps shape low high n calm words m x rest means few k walked =
    let c = setting shape Coupled (Scan low high) in
    record {
      walked = walked;
      is = maps shape low high n calm k.now m (rows_of_scan shape low high x) x rest means few
          (subst (λ y. Alone c (rows_of_scan shape low high x) (call_begun c) calm (OnScan low high y) k.now)
          (walked-unwaited x.step x.walk walked) k.alone) walked;
      own = k.own;
    }

pub found-scans-answer : FoundScansAnswer
found-scans-answer shape low high calm words r answer x k e = go x.step x.walk k.walked k.is e
  where
    go : (step : ScanStep) (w : Walk) → IsOver step → r ≡ reply.Pairs w.pairs
        → scan_turn (setting shape Coupled (Scan low high)) (at step w) ≡ Answers answer → answer ≡ r
    go (Release n) w walked is e = absurd (asks-answers e)
    go Over w walked is e = sym (answers-same e) ∙ sym is
    go step w walked is e = absurd walked
