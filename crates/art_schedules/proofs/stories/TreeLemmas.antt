-- How calm's tree goes on in a step of a run with a tale.
use Rattle.art_schedules.proofs.Common.{ℕ, ◌+◌, List, length, arith, slice_index, None, Contents, Four, Sixteen, FortyEight, Full, Plan, State}
use Rattle.art_schedules.proofs.Common.{IsFull, HasFewClaims, KeepsTree, KeptTreesFollow, Trace, IsTraceStep, TreeGoesOn}

-- at most this many claims of each kind were made
abbrev pub all_claims : List ℕ → ℕ
all_claims words = slice_index words 1 + slice_index words 2 + slice_index words 3 + slice_index words 4

pub few-claims : (words : List ℕ) → HasFewClaims (all_claims words) words
few-claims words Four = omega arith
few-claims words Sixteen = omega arith
few-claims words FortyEight = omega arith
few-claims words Full = omega arith

module _ (plan : Plan) (full : IsFull plan.variant) (start : Contents) (words schedule : List ℕ) (tale : Trace) (p : ℕ) (s t : State)
    (calm after : List ℕ)
    (told : IsTraceStep plan start words schedule tale p s t calm after) where
  -- if the rows of the tree say the same, calm's tree goes on by no effect
  pub tree-kept : KeptTreesFollow → KeepsTree plan.shape calm after
      → TreeGoesOn plan.shape t.words calm after (tale.pairs (length schedule)) None
  tree-kept trees keeps = record {
    claims = all_claims after;
    follows = trees plan.shape told.claims (all_claims after) calm after (tale.pairs (length schedule)) told.rests told.means keeps
        (few-claims after);
    gone = λ b gone. absurd gone;
  }
