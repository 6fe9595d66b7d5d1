-- Versions as they are written.
use Rattle.art_schedules.proofs.Common.{◌≡◌, ℕ, ◌+◌, ◌-◌, ◌/◌, ◌%◌, ◌^◌, ap, true, false, arith, eq-eqb, is_locked, is_obsolete, locked_word}
use Rattle.art_schedules.proofs.Common.{released_word, obsolete_word}
use Rattle.std.specs.Prelude.{◌==◌}

is_one : (n : ℕ) → n ≡ 1 → (n == 1) ≡ true
is_one n e = ap (λ k. k == 1) e

pub free-even : (v : ℕ) → is_locked v ≡ false → (v / 2) % 2 ≡ 0
free-even v h = grind (arith, h)

pub locked_locked : (v : ℕ) → is_locked v ≡ false → is_locked (locked_word v) ≡ true
locked_locked v h = is_one (((v + 2) % 2 ^ 64 / 2) % 2) (omega (arith, free-even v h))

pub obsolete_locked : (v : ℕ) → is_obsolete (locked_word v) ≡ is_obsolete v
obsolete_locked v = ap (λ k. k == 1) same
  where
    same : ((v + 2) % 2 ^ 64) % 2 ≡ v % 2
    same = omega arith

pub locked_released : (v : ℕ) → is_locked (released_word v) ≡ is_locked v
locked_released v = ap (λ k. k == 1) same
  where
    same : ((v + 4) % 2 ^ 64 / 2) % 2 ≡ (v / 2) % 2
    same = omega arith

pub obsolete_released : (v : ℕ) → is_obsolete (released_word v) ≡ is_obsolete v
obsolete_released v = ap (λ k. k == 1) same
  where
    same : ((v + 4) % 2 ^ 64) % 2 ≡ v % 2
    same = omega arith

pub locked_obsolete : (v : ℕ) → is_locked (obsolete_word v) ≡ is_locked v
locked_obsolete v = ap (λ k. k == 1) same
  where
    same : (((v - v % 2) + 5) % 2 ^ 64 / 2) % 2 ≡ (v / 2) % 2
    same = omega arith

pub obsolete_obsolete : (v : ℕ) → is_obsolete (obsolete_word v) ≡ true
obsolete_obsolete v = is_one ((((v - v % 2) + 5) % 2 ^ 64) % 2) (omega arith)

pub even-free : (v : ℕ) → (v / 2) % 2 ≡ 0 → is_locked v ≡ false
even-free v h = grind (arith, h)

pub taken-locked : (v : ℕ) → (v / 2) % 2 ≡ 0 → is_locked (v + 2) ≡ true
taken-locked v e = eq-eqb (((v + 2) / 2) % 2) 1 (omega (arith, e))
