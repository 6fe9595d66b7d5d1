use Rattle.memo.proofs.Common.{◌≡◌, ◌∙◌, ◌<◌, ◌-◌, ℕ, Some, length, drop, get_or, refl, is_none, sym, ap, subst, arith, AllPairs-filter, drop_all}
use Rattle.memo.proofs.Common.{Contents, IsRising, value_at, with_value, put_all, pairs_from}
use Rattle.std.proofs.Common.{filter}
use Rattle.memo.proofs.ValueLemmas.{with_value-rises}
use Rattle.memo.proofs.DifferenceLemmas.{put_next}
use Rattle.memo.proofs.differences.pairs_from.Goals as goal

pub loop-at-init : goal.loop-at-init
loop-at-init c =
    let left = filter (λ (pair : ℕ × ℕ). is_none (value_at c.args.gone.now pair.0)) c.args.start.now in
    record {
      within = omega arith;
      rising = subst IsRising (sym c.in_ok-pairs.ensures)
          (AllPairs-filter (λ (a : ℕ × ℕ) (b : ℕ × ℕ). a.0 < b.0) (λ (pair : ℕ × ℕ). is_none (value_at c.args.gone.now pair.0)) c.args.start.now
          c.requires.start);
      is = c.in_ok-pairs.ensures
          ∙ ap (λ (ps : Contents). put_all ps left) (sym (drop_all (length c.args.put.now) c.args.put.now (omega arith)));
    }

pub loop-at-preserved : goal.loop-at-preserved
loop-at-preserved c =
    let pair : ℕ × ℕ = get_or c.args.put.now (c.loop-at.at - 1) (0, 0) in
    let left = filter (λ (pair : ℕ × ℕ). is_none (value_at c.args.gone.now pair.0)) c.args.start.now in
    let is : c.in_ok-pairs-2.pairs.items ≡ with_value pair.0 (Some pair.1) c.loop-at.pairs.items =
    c.in_ok-pairs-2.ensures ∙ ap (with_value pair.0 (Some pair.1)) c.deref.ensures.value in
    record {
      within = omega (arith, c.loop-at.invariant.within);
      rising = subst IsRising (sym is) (with_value-rises pair.0 c.loop-at.pairs.items c.loop-at.invariant.rising (Some pair.1));
      is = put_next c.args.put.now left c.loop-at.pairs.items c.in_ok-pairs-2.pairs.items c.loop-at.at (0, 0) pair c.loop-at-test.true
          c.loop-at.invariant.within refl c.loop-at.invariant.is is;
    }

pub returns : goal.returns
unfolding pairs_from
returns c =
    let none : c.loop-at.at ≡ 0 = omega (arith, c.loop-at-test.false) in
    c.loop-at.invariant.is
    ∙ ap (λ (n : ℕ). put_all (drop n c.args.put.now) (filter (λ (pair : ℕ × ℕ). is_none (value_at c.args.gone.now pair.0)) c.args.start.now)) none
