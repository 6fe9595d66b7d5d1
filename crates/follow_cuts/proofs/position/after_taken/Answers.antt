use Rattle.std.specs.Cmp.{booleans_Decides}
use Rattle.std.proofs.Math.ListN.{replicate}
use Rattle.std.proofs.lemmas.List.{get_or-drop, get_or-take, get_or-replicate}
use Rattle.std.proofs.lemmas.Slice.Eq.{slice_eq-Decides}
use Rattle.std.specs.Prelude.{◌-◌}
use Rattle.follow_cuts.proofs.Common.{◌≡◌, ℕ, ◌+◌, ◌<◌, ◌≤◌, Bool, List, true, false, length, drop, take, get_or, ap, sym, ◌∙◌, ⊎_elim, arith, cases_lt}
use Rattle.follow_cuts.specs.Positions.{AreTaken}
use Rattle.follow_cuts.proofs.position.after_taken.Goals as goal

-- so many calls more that are taken
taken_more : (taken : List Bool) (place end many : ℕ) → end + many ≤ length taken → take (end + many - end) (drop end taken) ≡ replicate many true
    → AreTaken taken place end → AreTaken taken place (end + many)
taken_more taken place end many within same so_far = record {
  later = omega (arith, so_far.later);
  within = within;
  each = λ n from to. ⊎_elim
      (λ lt. so_far.each n from lt)
      (λ ge. at n ge to)
      (cases_lt n end);
}
  where
    at : (n : ℕ) → end ≤ n → n < end + many → get_or taken n false ≡ true
    at n ge to =
        ap (λ (m : ℕ). get_or taken m false) (omega (arith, ge))
        ∙ (sym (get_or-drop end taken (n - end) false)
        ∙ (sym (get_or-take (end + many - end) (drop end taken) (n - end) false (omega (arith, ge, to)))
        ∙ (ap (λ (l : List Bool). get_or l (n - end) false) same
        ∙ get_or-replicate many (n - end) true false (omega (arith, ge, to)))))

pub loop-end-preserved : goal.loop-end-preserved
loop-end-preserved c =
    taken_more c.args.taken.now c.args.place c.loop-end.end 16 c.loop-end-test.true
    ((slice_eq-Decides booleans_Decides _ _ _ c.eq.ensures).0 c.if-eq.true) c.loop-end.invariant
