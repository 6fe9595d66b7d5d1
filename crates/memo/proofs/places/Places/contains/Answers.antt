use Rattle.memo.proofs.Common.{◌≡◌, ◌+◌, ◌-◌, ◌<◌, ◌≤◌, ◌∙◌, ℕ, List, subst, sym, ap, refl, inl, inr, arith, ltb-true, ◌↔◌, Contains, bit_of}
use Rattle.memo.proofs.Common.{places_of}
use Rattle.memo.proofs.WordLemmas.{IsAmong, Contains-places_of}
use Rattle.memo.proofs.places.Places.contains.Goals as goal

-- what is among the numbers of a form is in the set
among : (least : ℕ) (words : List ℕ) (now : List ℕ) (place : ℕ) → places_of least words ≡ now → Contains now place ↔ IsAmong least words place
among least words now place is = (
  λ h. (Contains-places_of least words place).0 (subst (λ (places : List ℕ). Contains places place) (sym is) h),
  λ h. subst (λ (places : List ℕ). Contains places place) is ((Contains-places_of least words place).1 h),
)

-- a number above the least missing one is among them where its bit is set
bit_above : (least : ℕ) (words : List ℕ) (place : ℕ) → least < place → IsAmong least words place → bit_of words (place - (least + 1)) ≡ 1
bit_above least words place above (inl low) = absurd (omega (arith, above, low))
bit_above least words place above (inr high) = high.1

-- no number is among them that is neither below the least missing one nor above it
not_among : (least : ℕ) (words : List ℕ) (place : ℕ) → least ≤ place → place ≤ least → IsAmong least words place → ⊥
not_among least words place ge le (inl low) = omega (arith, ge, low)
not_among least words place ge le (inr high) = omega (arith, le, high.0)

pub returns-then-place-self : goal.returns-then-place-self
returns-then-place-self c = (
  λ yes. (among c.self.inside.least c.self.inside.words.items c.args.self.now c.args.place c.self.view_is).1 (inl c.if-place-self.true),
  λ h. refl,
)

pub returns-then-place-self-2 : goal.returns-then-place-self-2
returns-then-place-self-2 c =
    let least = c.self.inside.least in
    let words = c.self.inside.words.items in
    let bit = c.args.place - (least + 1) in
    let same = ap (λ (ws : List ℕ). bit_of ws bit) c.deref.ensures.value in (
      λ yes. (among least words c.args.self.now c.args.place c.self.view_is).1
          (inr (c.if-place-self-2.true, sym same ∙ c.is_set.ensures.0 yes)),
      λ h. c.is_set.ensures.1 (same ∙ bit_above least words c.args.place c.if-place-self-2.true
          ((among least words c.args.self.now c.args.place c.self.view_is).0 h)),
    )

pub returns-else-place-self-2 : goal.returns-else-place-self-2
returns-else-place-self-2 c = (
  λ yes. absurd (let above = ltb-true c.self.inside.least c.args.place yes in omega (arith, above, c.if-place-self-2.false)),
  λ h. absurd (not_among c.self.inside.least c.self.inside.words.items c.args.place (omega (arith, c.if-place-self.false))
      (omega (arith, c.if-place-self-2.false))
      ((among c.self.inside.least c.self.inside.words.items c.args.self.now c.args.place c.self.view_is).0 h)),
)
