use Rattle.memo.proofs.Common.{◌≡◌, ◌∙◌, ◌-◌, ◌++◌, ℕ, List, Option, Some, length, get_or, sym, ap, arith, slice_get, vec_len, slice_get_within}
use Rattle.memo.proofs.Common.{get_or_from_slice_get, bit_of}
use Rattle.std.specs.Option.{option_to_list}
use Rattle.memo.proofs.BitLemmas.{bit_of-push_zero}
use Rattle.memo.proofs.words.without_zeros.Goals as goal

-- the last word is 0
last : (c : goal.After-pop-zero) → slice_get c.loop-words.words.items (length c.loop-words.words.items - 1) ≡ Some 0
last c =
    ap (λ (words : List ℕ). slice_get words (length words - 1)) (sym c.deref.ensures.value)
    ∙ sym c.in-Some-eq0.ensures.value
    ∙ ap Some c.in-Some-eq0.field-0-test

-- it is the one taken away
popped : (c : goal.After-pop-zero) → c.pop-zero.result ≡ Some 0
popped c =
    let items = c.loop-words.words.items in
    let len : length items ≡ vec_len c.loop-words.words = ap length (sym c.deref.ensures.value) ∙ c.deref.ensures.len in
    c.pop-zero.ensures.value 0 (omega (arith, len, slice_get_within items (length items - 1) 0 (last c)))
    ∙ ap (λ (n : ℕ). Some (get_or items (n - 1) 0)) (sym len)
    ∙ ap Some (get_or_from_slice_get items (length items - 1) 0 0 (last c))

pub loop-words-preserved : goal.loop-words-preserved
loop-words-preserved c n =
    sym (bit_of-push_zero c.pop-zero.new.self.items n)
    ∙ ap (λ (last : Option ℕ). bit_of (c.pop-zero.new.self.items ++ option_to_list last) n) (sym (popped c))
    ∙ ap (λ (words : List ℕ). bit_of words n) (sym c.pop-zero.ensures.items)
    ∙ c.loop-words.invariant n
