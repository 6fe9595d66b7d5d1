use Rattle.orders.proofs.Common.{◌≡◌, ℕ, ◌+◌, ◌<◌, ◌≤◌, ◌&&◌, false, nat_le, List, [], ◌∷◌, ◌++◌, length, take, get_or, refl, arith, le-leb, lt-leb}
use Rattle.orders.proofs.Common.{append-nil, filter_more, within}
use Rattle.std.proofs.lemmas.Bool.Decides.{nat_tests}
use Rattle.orders.proofs.segment.pairs_within.Goals.{then-lo-pair+then-pair-hi+in_ok-push, else-lo-pair, else-lo-pair-via-then-lo-pair+else-pair-hi}
use Rattle.orders.proofs.segment.pairs_within.Goals.{else-lo-pair-via-else-lo-pair}
use Rattle.orders.proofs.segment.pairs_within.Goals as goal

-- the pairs of a range, one pair further: a pair of the range is one more, and another is left out
module _ (lo hi : ℕ) (pairs : List (ℕ × ℕ)) (i : ℕ) (inside : i < length pairs) where
  kept : lo ≤ (get_or pairs i (0, 0)).0 → (get_or pairs i (0, 0)).0 ≤ hi
      → within lo hi (take (i + 1) pairs) ≡ within lo hi (take i pairs) ++ get_or pairs i (0, 0) ∷ []
  kept above below =
      rw (filter_more (λ pair. nat_le lo pair.0 && nat_le pair.0 hi) pairs i (0, 0) inside, le-leb lo _ above, le-leb _ hi below) refl

  left_out : (nat_le lo (get_or pairs i (0, 0)).0 && nat_le (get_or pairs i (0, 0)).0 hi) ≡ false
      → within lo hi (take (i + 1) pairs) ≡ within lo hi (take i pairs)
  left_out outside =
      rw (filter_more (λ pair. nat_le lo pair.0 && nat_le pair.0 hi) pairs i (0, 0) inside, outside)
      (append-nil (within lo hi (take i pairs)))

below_range : (lo hi key : ℕ) → key < lo → (nat_le lo key && nat_le key hi) ≡ false
below_range lo hi key below = rw (lt-leb lo key below) refl

above_range : (lo hi key : ℕ) → hi < key → (nat_le lo key && nat_le key hi) ≡ false
above_range lo hi key above = grind (arith, nat_tests)

pub loop-pair-preserved : goal.loop-pair-preserved
loop-pair-preserved c =
    let lo = c.args.lo in
    let hi = c.args.hi in
    let pairs = c.args.pairs.now in
    let i = c.loop-pair.pair-index in
    let inside = c.loop-pair-test.true in
    let so_far = c.loop-pair.invariant in
    elim c.if-lo-pair.branch [
      | then-lo-pair+then-pair-hi+in_ok-push w ↦ let more = kept lo hi pairs i inside w.if-lo-pair.true w.if-pair-hi.true in
          rw (more, w.taken-is, w.in_ok-push.ensures.items, so_far) refl
      | else-lo-pair w ↦ elim w.else-lo-pair.branch [
        | else-lo-pair-via-then-lo-pair+else-pair-hi w2 ↦ rw (w.taken-is, left_out lo hi pairs i inside (above_range lo hi _ w2.if-pair-hi.false)) so_far
        | else-lo-pair-via-else-lo-pair w2 ↦ rw (w.taken-is, left_out lo hi pairs i inside (below_range lo hi _ w2.if-lo-pair.false)) so_far
      ]
    ]
