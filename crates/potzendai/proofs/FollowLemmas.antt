-- What is written of the follower of a handle.
use Rattle.potzendai.proofs.Common.{◌≡◌, ◌≢◌, ℕ, List, [], Option, Some, None, refl, sym, ◌∙◌, LineFollower, lines_of, Follows, standing_of, IsReportedSoFar}
use Rattle.potzendai.proofs.Common.{SpellLinearizable, BeginUnlinearizable}
use Rattle.std.proofs.Common.{append-nil}
use Rattle.cli_follow.specs.declared.line_follower.LineFollower.TheVariants.{Going, Ended}
use Rattle.cli_follow.specs.Taken.{HasEnded}
use Rattle.cli_follow.specs.Reading.{AreLinesOf}
use Rattle.cli_follow.specs.StreamTexts.{BeginsWith}
use Rattle.potzendai.proofs.StreamLemmas.{yes_has_order, no_has_none}

-- a text with these lines begins with them
pub all_begin : (text : Option (List ℕ)) (lines : List (List ℕ)) → AreLinesOf text lines → BeginsWith text lines
all_begin None lines are = tt
all_begin (Some text) lines are = ([], are ∙ sym (append-nil lines))

-- a follower has ended if its status is not 0
pub has_ended : (f : LineFollower) → standing_of (Some f) ≢ 0 → HasEnded f
has_ended (Going followed lines given) other = absurd (other refl)
has_ended (Ended outcome) other = tt

-- the status of no, of what is followed, is that of lines without an order
pub standing_no : (budget : ℕ) (all : List ℕ) (follows : Option LineFollower) → Follows budget (lines_of all) follows
    → standing_of follows ≡ 1 → BeginUnlinearizable (lines_of all)
standing_no budget all None follows is = absurd follows
standing_no budget all (Some (Going followed lines given)) follows is = cc
standing_no budget all (Some (Ended outcome)) follows is =
    no_has_none budget all outcome (follows (Some all) (all_begin (Some all) (lines_of all) refl)) is

-- the same of what is written of a follower, and of yes
pub reported_yes : (budget : ℕ) (all before after : List ℕ) (size status : ℕ) → IsReportedSoFar budget (lines_of all) before after size status
    → status ≡ 0 → SpellLinearizable (lines_of all)
reported_yes budget all before after size status reported is =
    yes_has_order budget all reported.outcome (reported.comes (Some all) refl) (sym reported.status_is ∙ is)

pub reported_no : (budget : ℕ) (all before after : List ℕ) (size status : ℕ) → IsReportedSoFar budget (lines_of all) before after size status
    → status ≡ 1 → BeginUnlinearizable (lines_of all)
reported_no budget all before after size status reported is =
    no_has_none budget all reported.outcome (reported.comes (Some all) refl) (sym reported.status_is ∙ is)
