-- What a version says after it was locked and released.
use Rattle.art_schedules.proofs.Common.{◌≡◌, ℕ, ◌%◌, ◌<◌, false, arith, is_locked, is_obsolete, locked_word, released_word}
use Rattle.art_schedules.proofs.words.VersionLemmas.{free-even, even-free}

live-even : (v : ℕ) → is_obsolete v ≡ false → v % 2 ≡ 0
live-even v h = grind (arith, h)

even-live : (v : ℕ) → v % 2 ≡ 0 → is_obsolete v ≡ false
even-live v h = grind (arith, h)

pub locked-live : (v : ℕ) → is_obsolete v ≡ false → is_obsolete (locked_word v) ≡ false
locked-live v h = let e = live-even v h in even-live (locked_word v) (omega (arith, e))

pub released-live : (v : ℕ) → is_obsolete v ≡ false → is_obsolete (released_word v) ≡ false
released-live v h = let e = live-even v h in even-live (released_word v) (omega (arith, e))

pub released-free : (v : ℕ) → is_locked v ≡ false → is_locked (released_word v) ≡ false
released-free v h = let e = free-even v h in even-free (released_word v) (omega (arith, e))

pub locked-small : (v : ℕ) → locked_word v < 18446744073709551616
locked-small v = omega arith

pub released-small : (v : ℕ) → released_word v < 18446744073709551616
released-small v = omega arith
