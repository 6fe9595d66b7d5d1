-- What the hands of one counter hold, and the rule of its word. The word is how many numbers were
-- drawn. Each number below it was drawn once, by one hand. Each draw of the quota that is left
-- belongs to one hand.
use Rattle.std.specs.Prelude.{◌≡◌, ℕ, ◌+◌, ◌-◌, ◌^◌, ◌<◌, ◌≤◌, List, [], ◌∷◌, ◌++◌, length, slice_index, max, sum_by, All}
use Rattle.atomic_table.specs.Table.{State, Me, Step}
use Rattle.tickets.specs.declared.rule.Holding.{Holding}
use Rattle.tickets.specs.Numbers.{times_in}

-- a holding by its fields
abbrev pub holding : List ℕ → ℕ → ℕ → ℕ → Holding
holding drawn left floor set_aside = record { drawn = drawn; left = left; floor = floor; set_aside = set_aside }

-- how many numbers a hand drew
abbrev pub drawn_count : Holding → ℕ
drawn_count h = length h.drawn

-- how many numbers a hand may still draw
abbrev pub left_count : Holding → ℕ
left_count h = h.left

-- how often a hand drew a number
abbrev pub times_drawn : ℕ → Holding → ℕ
times_drawn x h = times_in h.drawn x

-- the word counts the draws; the holdings share the numbers below it and the rest of the quota
pub record IsSharedOut (quota word : ℕ) (holdings : List Holding) : Type 0 where
  pub small : quota ≤ 2 ^ 61
  pub drawn : sum_by drawn_count holdings ≡ word
  pub left : word + sum_by left_count holdings ≡ quota
  pub below : (x : ℕ) → x < word → sum_by (times_drawn x) holdings ≡ 1
  pub others : (x : ℕ) → word ≤ x → sum_by (times_drawn x) holdings ≡ 0
  pub floors : All (λ h. h.floor ≤ word) holdings

-- the rule, for a quota: there is one word, and it is shared out
abbrev pub KeepsCount : ℕ → State (Unit {0}) Holding → Type 0
KeepsCount quota s = (length s.words ≡ 1) × IsSharedOut quota (slice_index s.words 0) s.views

-- a hand in the table: its holding, and no slots
abbrev pub Place : Type 0
Place = Me (Unit {0}) Holding

-- a holding after a draw of the number n
abbrev pub after_draw : Holding → ℕ → Holding
after_draw h n = holding (h.drawn ++ n ∷ []) (h.left - 1) (n + 1) 0

-- a draw of the number n, which is not below the floor
abbrev pub Draws : Step (Unit {0}) → Place → ℕ → Place → Type 0
Draws step hand n new = (new ≡ (after_draw hand.0 n, hand.1)) × (hand.0.floor ≤ n)

-- a note of how many draws to give away
abbrev pub noted : Holding → ℕ → Holding
noted h part = holding h.drawn h.left h.floor part

-- the step's first number is noted in the hand
abbrev pub SetsAside : Step (Unit {0}) → Place → ℕ → Place → Type 0
SetsAside step hand n new = new ≡ (noted hand.0 step.first, hand.1)

-- nothing changes, and what the hand holds is within the bound
abbrev pub StaysWithin : Step (Unit {0}) → Place → ℕ → Place → Type 0
StaysWithin step hand n new = (new ≡ hand) × (drawn_count hand.0 + left_count hand.0 ≤ 2 ^ 61)

-- the part that a hand keeps at a split
abbrev pub kept_part : Holding → Holding
kept_part h = holding h.drawn (h.left - h.set_aside) h.floor 0

-- the part that a hand gives away at a split
abbrev pub given_part : Holding → Holding
given_part h = holding [] h.set_aside h.floor 0

-- two holdings put together
abbrev pub both_parts : Holding → Holding → Holding
both_parts h k = holding (h.drawn ++ k.drawn) (h.left + k.left) (max h.floor k.floor) 0

-- what is left of a hand that was joined to another
abbrev pub no_part : Holding
no_part = holding [] 0 0 0
