use Rattle.memo.proofs.Common.{◌≡◌, ◌∙◌, Bool, sym, ⊎_elim, Decides, both_ways, cases_Bool, is_same, Decides-is_same}
use Rattle.memo.proofs.config.ConfigPartialEq.eq.Goals as goal

-- two tests of one fact are the same
same_tests : (a b : Bool) (P : Type 0) → Decides a P → Decides b P → a ≡ b
same_tests a b P first second =
    ⊎_elim (λ yes. yes ∙ sym (second.1 (first.0 yes)))
    (λ no. ⊎_elim (λ yes. absurd (both_ways a no (first.1 (second.0 yes)))) (λ other_no. no ∙ sym other_no) (cases_Bool b)) (cases_Bool a)

pub returns-clause-value : goal.returns-clause-value
returns-clause-value c =
    same_tests c.is_equal.result (is_same c.args.self.now c.args.other.now) (c.args.self.now ≡ c.args.other.now) c.is_equal.ensures
    (Decides-is_same c.args.self.now c.args.other.now)
