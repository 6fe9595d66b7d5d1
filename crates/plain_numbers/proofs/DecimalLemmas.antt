-- A number in plain decimal, digit by digit.
use Rattle.std.proofs.Common.{◌≡◌, ℕ, suc, ◌+◌, ◌-◌, ◌*◌, ◌/◌, ◌%◌, ◌^◌, ◌<◌, List, [], ◌∷◌, ◌++◌, length, decimal, take, drop, get_or, refl}
use Rattle.std.proofs.Common.{sym, ap, ap₂, ◌∙◌, arith, take-append-drop}
use Rattle.std.proofs.lemmas.Fmt.{decimal_digit, decimal_step}
use Rattle.std.proofs.lemmas.List.{take_more, take_rest}

-- one digit more
pub decimal_more : (n d : ℕ) → 0 < n → d < 10 → n * 10 + d < 2 ^ 64 → decimal (n * 10 + d) ≡ decimal n ++ (48 + d) ∷ []
decimal_more n d some digit fits =
    let front : (n * 10 + d) / 10 ≡ n = omega arith in
    let last : (n * 10 + d) % 10 ≡ d = omega arith in
    decimal_step (n * 10 + d) (omega arith) fits ∙ rw (front, last) refl

-- the number 0 is one digit
pub zero_front : (text : List ℕ) → 0 < length text → get_or text 0 0 ≡ 48 → text ≡ decimal 0 ++ take (length text - 1) (drop 1 text)
zero_front [] some zero_is = absurd (omega arith)
zero_front (b ∷ text) some zero_is =
    let all : take (length (b ∷ text) - 1) (drop 1 (b ∷ text)) ≡ text = take_rest (b ∷ text) 1 in
    ap (λ (x : ℕ). x ∷ text) zero_is ∙ sym (ap₂ (λ (xs ys : List ℕ). xs ++ ys) (decimal_digit 0 (omega arith)) all)

pub first_digit : (text : List ℕ) (n : ℕ) → 0 < length text → get_or text 0 0 ≡ 48 + n → n < 10 → take 1 text ≡ decimal n
first_digit [] n some is small = absurd (omega arith)
first_digit (b ∷ text) n some is small = ap (λ x. x ∷ []) is ∙ sym (decimal_digit n small)

pub next_digit : (text : List ℕ) (i n d : ℕ) → i < length text → take i text ≡ decimal n → 0 < n → get_or text i 0 ≡ 48 + d → d < 10
    → n * 10 + d < 2 ^ 64 → take (i + 1) text ≡ decimal (n * 10 + d)
next_digit text i n d within so_far some is small fits =
    take_more text i 0 within ∙ (ap₂ (λ (xs : List ℕ) (x : ℕ). xs ++ x ∷ []) so_far is ∙ sym (decimal_more n d some small fits))

-- where the digits end
pub digits_end : (text : List ℕ) (i n : ℕ) → take i text ≡ decimal n → text ≡ decimal n ++ take (length text - i) (drop i text)
digits_end text i n so_far =
    sym (take-append-drop i text) ∙ ap₂ (λ (xs ys : List ℕ). xs ++ ys) so_far (sym (take_rest text i))
