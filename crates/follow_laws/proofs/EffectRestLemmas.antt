-- What is left of calls by a choice.
use Rattle.follow_laws.proofs.Common.{◌≡◌, ℕ, Bool, true, false, cond, Option, Some, None, refl, sym, subst, ⊎_elim, is_some, KeyedCall, Effect}
use Rattle.follow_laws.proofs.Common.{no_effect, IsNoEffect, IsFormed, ends_before, LeaveTheSame, IsAnsweredAs, IsLater, Choice, rest_of}
use Rattle.follow_laws.proofs.TurnLemmas.{StandsFor, HasNone}

-- no effect is none
pub none_none : IsNoEffect no_effect
none_none = record { fits = λ value. refl; leaves = λ value. refl }

pub none_or : (t : Bool) (e : Effect) → IsNoEffect e → IsNoEffect (cond t no_effect e)
none_or true e none = none_none
none_or false e none = none

-- nothing is left of a refused call
pub refused_none : (w : Choice) (a : KeyedCall) → IsFormed a → a.refused ≡ true → HasNone (rest_of w a)
refused_none w a formed refused key = none_or (w.taken a.inv key) (a.effect key) (formed.refusal refused key)

-- a pending call is not before any place
pub pending_never : (res : Option ℕ) (place : ℕ) → is_some res ≡ false → ends_before res place ≡ true → ⊥
pending_never None place pending before = cc
pending_never (Some res) place pending before = cc

fits_or : (t : Bool) (e : Effect) → ((value : Option ℕ) → e.fits value ≡ true) → (value : Option ℕ) → (cond t no_effect e).fits value ≡ true
fits_or true e fits value = refl
fits_or false e fits value = fits value

leaves_or : (t : Bool) (e f : Effect) → LeaveTheSame e f → (value : Option ℕ) → (cond t no_effect e).leaves value ≡ (cond t no_effect f).leaves value
leaves_or true e f same value = refl
leaves_or false e f same value = sym (same value)

-- what was left of a call while it was pending may replace what is left of it
pub pending_stands : (place : ℕ) (w : Choice) (a b : KeyedCall) → b.inv ≡ a.inv → IsAnsweredAs place a b → b.refused ≡ false
    → StandsFor (rest_of w b) (rest_of w a)
pending_stands place w a b inv answered accepted = record {
  inv = sym inv;
  ends = λ at before. absurd (pending_never a.res at answered.pending before);
  fits = λ key value fit. fits_or (w.taken a.inv key) (a.effect key) (answered.fits key) value;
  leaves = λ key value fit.
      subst (λ (name : ℕ). (cond (w.taken a.inv key) no_effect (a.effect key)).leaves value
      ≡ (cond (w.taken name key) no_effect (b.effect key)).leaves value) (sym inv)
      (leaves_or (w.taken a.inv key) (a.effect key) (b.effect key) (answered.does accepted key) value);
}

pub stands_itself : (a : KeyedCall) → StandsFor a a
stands_itself a = record {
  inv = refl;
  ends = λ place before. before;
  fits = λ key value fit. fit;
  leaves = λ key value fit. refl;
}

-- what is left of a call later may replace what was left of it, unless it was refused since
pub later_stands : (place : ℕ) (w : Choice) (a b : KeyedCall) → IsLater place a b → b.refused ≡ false → StandsFor (rest_of w b) (rest_of w a)
later_stands place w a b later accepted =
    ⊎_elim (λ same. subst (λ (c : KeyedCall). StandsFor (rest_of w c) (rest_of w a)) (sym same) (stands_itself (rest_of w a)))
    (λ answered. pending_stands place w a b later.inv answered accepted) later.response
