use Rattle.memo.proofs.Common.{◌≡◌, ◌+◌, ◌-◌, ◌-◌, ◌*◌, ◌^◌, ◌<◌, ◌∙◌, ℕ, List, drop, sym, subst, ap, arith, ◌↔◌, ◌⊎◌, Contains, take_rest}
use Rattle.memo.proofs.Common.{with_place, bit_of, places_of, ArePlaces}
use Rattle.memo.proofs.BitLemmas.{bit_of-drop}
use Rattle.memo.proofs.PlacesLemmas.{places_of-with, ArePlaces-with, IsAmong-set, IsAmong-run, place_above}
use Rattle.memo.proofs.WordLemmas.{IsAmong, places_of-rises, run_small}
use Rattle.memo.proofs.places.Places.with_in.Goals as goal

-- a bit is set above the least missing place
set : (c : goal.In_ok-words) → (n : ℕ) → IsAmong c.self.inside.least c.in_ok-words.words.items n
    ↔ (IsAmong c.self.inside.least c.self.inside.words.items n ⊎ (n ≡ c.args.place))
set c =
    IsAmong-set c.self.inside.least c.self.inside.words.items c.args.place c.in_ok-words.words.items c.if-place-self.true
    c.in_ok-words.ensures.set
    (λ n other. c.in_ok-words.ensures.others n other ∙ ap (λ (words : List ℕ). bit_of words n) c.deref.ensures.value)

pub invariant_of-result : goal.invariant_of-result
invariant_of-result c =
    ArePlaces-with c.self.inside.least c.self.inside.words.items c.args.place c.self.inside.least c.in_ok-words.words.items
    (set c) c.self.invariant
    c.requires.small c.in_ok-words.ensures.each c.in_ok-words.ensures.trimmed

pub returns-then-place-self-clause-is : goal.returns-then-place-self-clause-is
returns-then-place-self-clause-is c =
    rw (← c.self.view_is) (places_of-with c.self.inside.least c.self.inside.words.items c.args.place c.self.inside.least
    c.in_ok-words.words.items (set c))

pub returns-then-place-self-clause-rising : goal.returns-then-place-self-clause-rising
returns-then-place-self-clause-rising c = places_of-rises c.self.inside.least c.in_ok-words.words.items

-- the bits from the lowest on that are set
abbrev run : goal.In_ok-words-2 → ℕ
run c = 64 * c.ones_of-full.result.0 + c.ones_of-full.result.1

ones : (c : goal.In_ok-words-2) → (n : ℕ) → n < run c → bit_of c.self.inside.words.items n ≡ 1
ones c n within = ap (λ (words : List ℕ). bit_of words n) (sym c.deref-2.ensures.value) ∙ c.ones_of-full.ensures.ones n within

-- the next is not
zero : (c : goal.In_ok-words-2) → bit_of c.self.inside.words.items (run c) ≡ 0
zero c = ap (λ (words : List ℕ). bit_of words (run c)) (sym c.deref-2.ensures.value) ∙ c.ones_of-full.ensures.zero

-- the others are kept
kept : (c : goal.In_ok-words-2) → (n : ℕ) → bit_of c.in_ok-words-2.words.items n ≡ bit_of c.self.inside.words.items (n + (run c + 1))
kept c n =
    let full = c.ones_of-full.result.0 in
    let count = c.ones_of-full.result.1 in
    c.in_ok-words-2.ensures.bits n
    ∙ ap (λ (words : List ℕ). bit_of words (n + (count + 1))) (take_rest c.deref-3.result.now full)
    ∙ ap (λ (words : List ℕ). bit_of (drop full words) (n + (count + 1))) c.deref-3.ensures.value
    ∙ bit_of-drop c.self.inside.words.items full (n + (count + 1))
    ∙ ap (bit_of c.self.inside.words.items) (omega arith)

-- the place is the least missing one
at_least : (c : goal.In_ok-words-2) → c.args.place ≡ c.self.inside.least
at_least c = place_above c.self.inside.least c.self.inside.words.items c.args.place
    (λ h. c.requires.new (subst (λ (places : List ℕ). Contains places c.args.place) c.self.view_is h)) c.if-place-self.false

-- they are few
few : (c : goal.In_ok-words-2) → c.self.inside.least + run c < 2 ^ 64 - 1
few c = run_small c.self.inside.least c.self.inside.words.items (run c) (omega (arith, at_least c, c.requires.small)) c.self.invariant.small (ones c)

-- the least missing place is put in
filled : (c : goal.In_ok-words-2) → (n : ℕ) → IsAmong (c.self.inside.least + run c + 1) c.in_ok-words-2.words.items n
    ↔ (IsAmong c.self.inside.least c.self.inside.words.items n ⊎ (n ≡ c.args.place))
filled c = rw (at_least c) (IsAmong-run c.self.inside.least c.self.inside.words.items (run c) c.in_ok-words-2.words.items (ones c)
    (zero c) (kept c))

-- the sum as it is computed
sum_is : (c : goal.In_ok-words-2) → c.self.inside.least + run c + 1 ≡ c.self.inside.least + 64 * c.ones_of-full.result.0
    + c.ones_of-full.result.1 + 1
sum_is c = omega arith

pub overflow_mul-least : goal.overflow_mul-least
overflow_mul-least c = omega (arith, few c)

pub overflow_add-least : goal.overflow_add-least
overflow_add-least c = omega (arith, few c)

pub overflow_add-least-2 : goal.overflow_add-least-2
overflow_add-least-2 c = omega (arith, few c)

pub overflow_add-least-3 : goal.overflow_add-least-3
overflow_add-least-3 c = omega (arith, few c)

pub invariant_of-result-2 : goal.invariant_of-result-2
invariant_of-result-2 c =
    subst (λ (least : ℕ). ArePlaces least c.in_ok-words-2.words.items) (sum_is c)
    (ArePlaces-with c.self.inside.least c.self.inside.words.items c.args.place (c.self.inside.least + run c + 1)
    c.in_ok-words-2.words.items (filled c)
    c.self.invariant c.requires.small c.in_ok-words-2.ensures.each c.in_ok-words-2.ensures.trimmed)

pub returns-clause-is : goal.returns-clause-is
returns-clause-is c =
    ap (λ (least : ℕ). places_of least c.in_ok-words-2.words.items) (sym (sum_is c))
    ∙ places_of-with c.self.inside.least c.self.inside.words.items c.args.place (c.self.inside.least + run c + 1)
    c.in_ok-words-2.words.items (filled c)
    ∙ ap (λ (places : List ℕ). with_place places c.args.place) c.self.view_is

pub returns-clause-rising : goal.returns-clause-rising
returns-clause-rising c =
    places_of-rises (c.self.inside.least + 64 * c.ones_of-full.result.0 + c.ones_of-full.result.1 + 1) c.in_ok-words-2.words.items
