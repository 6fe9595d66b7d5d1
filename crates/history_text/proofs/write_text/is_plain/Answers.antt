use Rattle.history_text.proofs.Common.{◌≡◌, ℕ, ◌==◌, true, false, List, [], ◌∷◌, length, refl, sym, ap, ◌∙◌, arith, nat_tests, has_no_pairs}
use Rattle.history_text.proofs.write_text.is_plain.Goals as goal

-- there are no pairs where they are none
no_pairs_by_count : (pairs : List (ℕ × ℕ)) → (length pairs == 0) ≡ has_no_pairs pairs
no_pairs_by_count [] = refl
no_pairs_by_count (pair ∷ pairs) = let some : (length (pair ∷ pairs) == 0) ≡ false = grind (arith, nat_tests) in some

pub returns-then-is_empty : goal.returns-then-is_empty
returns-then-is_empty c =
    let pairs = c.args.history.now.start in
    let none : has_no_pairs pairs ≡ true = sym (no_pairs_by_count pairs) ∙ (ap (λ ps. length ps == 0) (sym c.start.ensures.start) ∙ sym
    c.if-is_empty.ensures) in
    rw none (rw (← c.events.ensures.events) c.are_plain_events.ensures)

pub returns-else-is_empty : goal.returns-else-is_empty
returns-else-is_empty c =
    let pairs = c.args.history.now.start in
    let some : has_no_pairs pairs ≡ false = sym (no_pairs_by_count pairs) ∙ (ap (λ ps. length ps == 0) (sym c.start.ensures.start) ∙ sym
    c.if-is_empty.ensures) in
    rw some c.if-is_empty.false
