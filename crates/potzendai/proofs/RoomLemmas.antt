-- A room after a text was copied to its front and a zero byte was put behind it.
use Rattle.potzendai.proofs.Common.{◌≡◌, ◌≢◌, ℕ, suc, ◌+◌, ◌-◌, ◌<◌, List, [], ◌∷◌, ◌++◌, length, take, drop, min, refl, sym, ap, ◌∙◌, append_assoc}
use Rattle.potzendai.proofs.Common.{arith, slice_set, drop-cons, drop-append_seam, take-append_seam, take-append-add, take-length, set-append_right}
use Rattle.potzendai.proofs.Common.{length-append, length-drop, length-take, drop-drop, written}

-- a zero byte is written at the first place behind a front
set_behind : (front rest : List ℕ) (n : ℕ) → length front ≡ n → n < length rest
    → slice_set (front ++ drop n rest) n 0 ≡ front ++ 0 ∷ drop (suc n) rest
set_behind front rest n at within =
    set-append_right front (drop n rest) n n 0 at (omega arith)
    ∙ (let gone : n - n ≡ 0 = omega arith in
    rw (gone, drop-cons rest n 0 within) refl)

-- what is copied to the front of a room that has bytes, with a zero byte behind it, is what the room has to hold
pub written-is : (text room front : List ℕ) (n : ℕ) → length room ≢ 0 → n ≡ min (length text) (length room - 1) → front ≡ take n text
    → slice_set (front ++ drop n room) n 0 ≡ written text room
written-is text [] front n some at is = absurd (some refl)
written-is text (byte ∷ rest) front n some at is =
    let same : n ≡ min (length text) (length rest) = omega (arith, at) in
    let within : n < length (byte ∷ rest) = omega (arith, same) in
    let long : length (take n text) ≡ n = omega (arith, same, length-take {A = ℕ} n text) in
    ap (λ (start : List ℕ). slice_set (start ++ drop n (byte ∷ rest)) n 0) is
    ∙ set_behind (take n text) (byte ∷ rest) n long within
    ∙ ap (λ (k : ℕ). take k text ++ 0 ∷ drop k rest) same

-- behind a text that leaves place another one is written as if both were one
pub written-more : (text more room first last : List ℕ) (n : ℕ) → n ≡ length text → n < length room → first ≡ written text room
    → last ≡ written more (drop n first) → take n first ++ last ≡ written (text ++ more) room
written-more text more [] first last n at within is rest = absurd (omega (arith, within))
written-more text more (byte ∷ room) first last n at within is rest =
    let k = length text in
    let tail = drop k room in
    let m = min (length more) (length tail) in
    let whole : min k (length room) ≡ k = omega (arith, at, within) in
    let front : first ≡ text ++ 0 ∷ tail =
    is ∙ ap (λ (i : ℕ). take i text ++ 0 ∷ drop i room) whole ∙ ap (λ (t : List ℕ). t ++ 0 ∷ tail) (take-length text) in
    let before : take n first ≡ text =
    ap (λ (i : ℕ). take i first) at ∙ ap (λ (l : List ℕ). take k l) front ∙ take-append_seam text (0 ∷ tail) in
    let behind : drop n first ≡ 0 ∷ tail =
    ap (λ (i : ℕ). drop i first) at ∙ ap (λ (l : List ℕ). drop k l) front ∙ drop-append_seam text (0 ∷ tail) in
    let size : min (length (text ++ more)) (length room) ≡ k + m =
    omega (arith, at, within, length-append text more, length-drop k room) in
    ap (λ (l : List ℕ). l ++ last) before
    ∙ ap (λ (l : List ℕ). text ++ l) (rest ∙ ap (λ (l : List ℕ). written more l) behind)
    ∙ sym (append_assoc text (take m more) (0 ∷ drop m tail))
    ∙ ap (λ (l : List ℕ). (text ++ take m more) ++ 0 ∷ l) (drop-drop m k room)
    ∙ ap (λ (l : List ℕ). l ++ 0 ∷ drop (k + m) room) (sym (take-append-add text more m))
    ∙ sym (ap (λ (i : ℕ). take i (text ++ more) ++ 0 ∷ drop i room) size)
