use Rattle.memo.proofs.Common.{◌*◌, ◌/◌, ◌%◌, ◌^◌, ◌-◌, ◌∙◌, ◌++◌, ◌∷◌, [], ℕ, List, get_or, sym, ap₂, arith, bit_or, map-range_with_len_more}
use Rattle.memo.proofs.Common.{shifted_word}
use Rattle.memo.proofs.words.shift_down.Goals as goal

-- a word and the one above it
abbrev joined : List ℕ → ℕ → ℕ → ℕ → ℕ
joined words count at above = bit_or (get_or words at 0 / 2 ^ count / 2) (above * 2 ^ (63 - count) % 2 ^ 64)

pub loop-at-preserved : goal.loop-at-preserved
loop-at-preserved c =
    c.in_ok-push.ensures.items
    ∙ ap₂ (λ (xs : List ℕ) (above : ℕ). xs ++ joined c.args.words.now c.args.count c.loop-at.at above ∷ [])
    c.loop-at.invariant c.word_at.ensures
    ∙ sym (map-range_with_len_more (shifted_word c.args.words.now c.args.count) 0 c.loop-at.at c.loop-at.at (omega arith))
