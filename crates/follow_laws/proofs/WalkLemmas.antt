-- What is left of calls that are answered later concerns the same keys.
use Rattle.follow_laws.proofs.Common.{◌≡◌, ℕ, Bool, false, not, ◌&&◌, sym, subst, KeyedCall, IsLater, Choice, rest_of, Keys, IsWithin, IsOutside}

pub within_later : (keys : Keys) (place : ℕ) (w : Choice) (a b : KeyedCall) → IsLater place a b → IsWithin keys (rest_of w a) → IsWithin keys (rest_of w b)
within_later keys place w a b later within key is =
    subst (λ (name : ℕ). (not (w.taken name key) && b.concerns key) ≡ false) (sym later.inv)
    (subst (λ (c : Bool). (not (w.taken a.inv key) && c) ≡ false) (sym (later.concerns key)) (within key is))

pub outside_later : (keys : Keys) (place : ℕ) (w : Choice) (a b : KeyedCall) → IsLater place a b → IsOutside keys (rest_of w a)
    → IsOutside keys (rest_of w b)
outside_later keys place w a b later outside key is =
    subst (λ (name : ℕ). (not (w.taken name key) && b.concerns key) ≡ false) (sym later.inv)
    (subst (λ (c : Bool). (not (w.taken a.inv key) && c) ≡ false) (sym (later.concerns key)) (outside key is))
