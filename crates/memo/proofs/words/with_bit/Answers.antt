use Rattle.memo.proofs.Common.{◌≡◌, ◌/◌, ◌%◌, ◌*◌, ◌^◌, ◌+◌, ◌-◌, ◌++◌, ◌∙◌, ℕ, List, length, take, replicate, get_or, set, max, ap, arith, bit_or}
use Rattle.memo.proofs.Common.{vec_len, get_or_read, bit_of}
use Rattle.memo.proofs.BitLemmas.{grown_alike, length-grown, set_same, set_other, set_trimmed, set_each}
use Rattle.memo.proofs.words.with_bit.Goals as goal

-- the words are copied first
copied : (c : goal.After-set-5-1) → vec_len c.extend_from_slice.new.self ≡ length c.args.words.now
copied c = omega (arith, c.in_ok-extend_from_slice.ensures.len, c.in_ok-set.ensures.len)

-- zeros are put after the words
padded : (c : goal.After-set-5-1) → c.resize.new.self.items ≡ take c.max-count.result (c.in_ok-set.set.items ++ c.args.words.now)
    ++ replicate (c.max-count.result - vec_len c.extend_from_slice.new.self) 0
padded c = c.in_ok-resize.ensures.items
    ∙ ap (λ (xs : List ℕ). take c.max-count.result xs ++ replicate (c.max-count.result - vec_len c.extend_from_slice.new.self) 0)
    c.in_ok-extend_from_slice.ensures.items

-- they read as the words
alike : (c : goal.After-set-5-1) → (k : ℕ) → get_or c.resize.new.self.items k 0 ≡ get_or c.args.words.now k 0
alike c =
    grown_alike c.resize.new.self.items c.args.words.now c.in_ok-set.set.items c.max-count.result (vec_len c.extend_from_slice.new.self)
    (padded c) c.in_ok-set.ensures.items (copied c) (omega (arith, c.max-count.ensures))

-- there are as many as the bit needs
size : (c : goal.After-set-5-1) → length c.resize.new.self.items ≡ max (length c.args.words.now) (c.args.bit / 64 + 1)
size c =
    length-grown c.resize.new.self.items c.args.words.now c.in_ok-set.set.items c.max-count.result (vec_len c.extend_from_slice.new.self)
    (padded c) c.in_ok-set.ensures.items (copied c) (omega (arith, c.max-count.ensures)) ∙ c.max-count.ensures

-- the word read is the one at the bit
read : (c : goal.After-set-5-1) → c.index_mut.result.now ≡ get_or c.resize.new.self.items (c.args.bit / 64) 0
read c = get_or_read c.resize.new.self.items (c.args.bit / 64) c.index_mut.result.now (omega (arith, size c)) c.index_mut.ensures.value 0

-- what is set
abbrev as_set : (c : goal.After-set-5-1) (n : ℕ) → List ℕ
as_set c n = set c.resize.new.self.items (c.args.bit / 64) (bit_or n (1 * 2 ^ (c.args.bit % 64) % 2 ^ 64))

pub returns-clause-set : goal.returns-clause-set
returns-clause-set c =
    ap (λ (n : ℕ). bit_of (as_set c n) c.args.bit) (read c)
    ∙ set_same c.args.words.now c.resize.new.self.items c.args.bit (alike c) (omega (arith, size c))

pub returns-clause-others : goal.returns-clause-others
returns-clause-others c n other =
    ap (λ (m : ℕ). bit_of (as_set c m) n) (read c)
    ∙ set_other c.args.words.now c.resize.new.self.items c.args.bit (alike c) (omega (arith, size c)) n other

pub returns-clause-trimmed : goal.returns-clause-trimmed
returns-clause-trimmed c =
    rw (read c) (set_trimmed c.args.words.now c.resize.new.self.items c.args.bit (alike c) (omega (arith, size c)) (size c) c.requires)

pub returns-clause-each : goal.returns-clause-each
returns-clause-each c =
    rw (read c) (set_each c.args.words.now c.resize.new.self.items c.args.bit (alike c) (omega (arith, size c))
    (λ k. omega (arith, c.type_inv.words k)))
