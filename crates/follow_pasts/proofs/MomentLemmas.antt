-- When pending reads began.
use Rattle.follow_pasts.proofs.Common.{◌≡◌, ℕ, ◌<◌, ◌≤◌, ◌+◌, false, List, [], ◌∷◌, ◌++◌, length, get_or, take, Option, None, Some, sym, subst, ⊎_elim}
use Rattle.follow_pasts.proofs.Common.{arith, MatchOption, IfSome, take_more, Contains-push_cases, covered, AreBegunAfter, HaveNoRead, Range}
use Rattle.follow_pasts.specs.declared.moments.OpenRead.{OpenRead}

-- none of these reads is of the ranges, or they began no earlier than the first
abbrev pub IsFirst : List Range → List OpenRead → Option ℕ → Type 0
IsFirst ranges reads first = MatchOption first (HaveNoRead ranges reads) (AreBegunAfter ranges reads)

module _ (ranges : List Range) where
  pub is_first : (reads : List OpenRead) (first : Option ℕ) (inv : ℕ) → first ≡ Some inv → AreBegunAfter ranges reads inv
      → IsFirst ranges reads first
  is_first reads first inv is after = subst (λ (o : Option ℕ). IsFirst ranges reads o) (sym is) after

  pub was_first : (reads : List OpenRead) (first : Option ℕ) (inv : ℕ) → first ≡ Some inv → IsFirst ranges reads first
      → AreBegunAfter ranges reads inv
  was_first reads first inv is had = subst (λ (o : Option ℕ). IsFirst ranges reads o) is had

  pub was_none : (reads : List OpenRead) (first : Option ℕ) → first ≡ None → IsFirst ranges reads first → HaveNoRead ranges reads
  was_none reads first is had = subst (λ (o : Option ℕ). IsFirst ranges reads o) is had

  -- an earlier moment, and any moment if there are no reads
  pub begun_earlier : (reads : List OpenRead) (moment earlier : ℕ) → AreBegunAfter ranges reads moment → earlier ≤ moment
      → AreBegunAfter ranges reads earlier
  begun_earlier reads moment earlier after less read there before = after read there (omega arith)

  pub begun_of_none : (reads : List OpenRead) (moment : ℕ) → HaveNoRead ranges reads → AreBegunAfter ranges reads moment
  begun_of_none reads moment none read there before = none read there

  pub any_moment : (reads : List OpenRead) (moment : Option ℕ) → HaveNoRead ranges reads → IfSome moment (AreBegunAfter ranges reads)
  any_moment reads None none = tt
  any_moment reads (Some moment) none = begun_of_none reads moment none

  -- a read of these keys that began no earlier
  begun_push : (reads : List OpenRead) (read : OpenRead) (moment : ℕ) → AreBegunAfter ranges reads moment → moment ≤ read.inv
      → AreBegunAfter ranges (reads ++ read ∷ []) moment
  begun_push reads read moment after least other there before = ⊎_elim
      (λ old. after other old before)
      (λ same. absurd (omega (arith, subst (λ (r : OpenRead). moment ≤ r.inv) same least)))
      (Contains-push_cases reads read other there)

  pub begun_more : (reads : List OpenRead) (i : ℕ) (d : OpenRead) (moment : ℕ) → i < length reads → AreBegunAfter ranges (take i reads) moment
      → moment ≤ (get_or reads i d).inv → AreBegunAfter ranges (take (i + 1) reads) moment
  begun_more reads i d moment within after least =
      subst (λ (rs : List OpenRead). AreBegunAfter ranges rs moment) (sym (take_more reads i d within))
      (begun_push (take i reads) (get_or reads i d) moment after least)

  -- a read of other keys
  beside_push : (reads : List OpenRead) (read : OpenRead) (first : Option ℕ)
      → ((key : ℕ) → read.low ≤ key → key ≤ read.high → covered ranges key ≡ false) → IsFirst ranges reads first
      → IsFirst ranges (reads ++ read ∷ []) first
  beside_push reads read None beside none = λ other there. ⊎_elim
      (λ old. none other old)
      (λ same. subst (λ (r : OpenRead). (key : ℕ) → r.low ≤ key → key ≤ r.high → covered ranges key ≡ false) same beside)
      (Contains-push_cases reads read other there)
  beside_push reads read (Some inv) beside after = λ other there before. ⊎_elim
      (λ old. after other old before)
      (λ same. subst (λ (r : OpenRead). (key : ℕ) → r.low ≤ key → key ≤ r.high → covered ranges key ≡ false) same beside)
      (Contains-push_cases reads read other there)

  pub beside_more : (reads : List OpenRead) (i : ℕ) (d : OpenRead) (first : Option ℕ) → i < length reads
      → ((key : ℕ) → (get_or reads i d).low ≤ key → key ≤ (get_or reads i d).high → covered ranges key ≡ false)
      → IsFirst ranges (take i reads) first → IsFirst ranges (take (i + 1) reads) first
  beside_more reads i d first within beside had =
      subst (λ (rs : List OpenRead). IsFirst ranges rs first) (sym (take_more reads i d within))
      (beside_push (take i reads) (get_or reads i d) first beside had)
