use Rattle.cli_follow.proofs.Common.{◌≡◌, ℕ, List, length, [], ◌∷◌, ◌++◌, take, refl, sym, ap, ◌∙◌, subst, append_assoc, append-nil, HasTaken, HasEnded}
use Rattle.cli_follow.proofs.AddedLemmas.{lines_of-cut, added_next, added_all, added_last, none_left}
use Rattle.cli_follow.proofs.line_follower.LineFollower.take_lines.Goals as goal

pub loop-count-init : goal.loop-count-init
loop-count-init c = (
  [],
  refl,
  λ budget lines added. subst (λ (ls : List (List ℕ)). HasTaken budget ls c.args.self) (sym (append-nil lines)) added,
  λ ended. refl,
)

pub loop-count-preserved : goal.loop-count-preserved
loop-count-preserved c =
    let l = c.loop-count in
    let at = l.invariant in
    let rest = l.rest.now in
    let line = take c.in-Some.count rest in
    let read = lines_of-cut c.in-Some.count rest c.in-Some.ensures.within c.in-Some.ensures.here c.in-Some.ensures.before in (
      at.0 ++ line ∷ [],
      at.1 ∙ (ap (λ (ls : List (List ℕ)). at.0 ++ ls) read ∙ sym (append_assoc at.0 (line ∷ []) _)),
      λ budget lines added. added_next budget lines at.0 line c.take_line-follower.result
          (c.take_line-follower.ensures.added budget (lines ++ at.0) (at.2 budget lines added)),
      λ ended. c.take_line-follower.ensures.ended (subst HasEnded (sym (at.3 ended)) ended) ∙ at.3 ended,
    )

pub returns-then-is_empty-clause-added : goal.returns-then-is_empty-clause-added
returns-then-is_empty-clause-added c = λ budget lines added.
    let l = c.loop-count in
    let at = l.invariant in
    added_all budget lines at.0 c.args.bytes.now l.rest.now l.follower at.1
    (none_left l.rest.now c.is_empty.result c.is_empty.ensures c.if-is_empty.true) (at.2 budget lines added)

pub returns-else-is_empty-clause-added : goal.returns-else-is_empty-clause-added
returns-else-is_empty-clause-added c = λ budget lines added.
    let l = c.loop-count in
    let at = l.invariant in
    added_last budget lines at.0 c.args.bytes.now l.rest.now c.take_line.result at.1
    (λ (none : length l.rest.now ≡ 0). let t = rw none at c.is_empty.ensures in cc) c.in_default.ensures.none
    (c.take_line.ensures.added budget (lines ++ at.0) (at.2 budget lines added))

pub returns-else-is_empty-clause-ended : goal.returns-else-is_empty-clause-ended
returns-else-is_empty-clause-ended c = λ ended.
    let at = c.loop-count.invariant in c.take_line.ensures.ended (subst HasEnded (sym (at.3 ended)) ended) ∙ at.3 ended

pub returns-then-is_empty-clause-ended : goal.returns-then-is_empty-clause-ended
returns-then-is_empty-clause-ended c = c.loop-count.invariant.3
