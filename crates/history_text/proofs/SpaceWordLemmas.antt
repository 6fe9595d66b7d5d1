-- White space after a text changes no word in it: a number or a literal ends there, as at the end.
use Rattle.history_text.proofs.Common.{◌≡◌, ℕ, zero, suc, ◌+◌, ◌-◌, ◌≤◌, Bool, true, false, cond, ◌&&◌, ◌||◌, ◌==◌, nat_eq, List, [], ◌∷◌, ◌++◌}
use Rattle.history_text.proofs.Common.{length, take, drop, Option, Some, None, option_map, option_and_then, inl, inr, refl, ap, ap₂, ◌∙◌, arith}
use Rattle.history_text.proofs.Common.{length-append, is_ascii_digit, Token, bad, IsWhiteSpace, AreWhiteSpace, prefix_len, starts_with}
use Rattle.history_text.proofs.Common.{take-append-le, drop-append-le}
use Rattle.json.specs.Token.{number, boolean, null}
use lib.Pointwise.{pointwise}
use Rattle.json.specs.Word.{is_operator, is_space, head, ends_word, after_digits, after_minus, after_sign, after_whole, after_fraction}
use Rattle.json.specs.Word.{after_exponent, after_number, number_before, literal, word}
use Rattle.json.specs.Ascii as ascii

-- what holds of a space, a tab, a line feed and a carriage return
pub of_white_space : (P : ℕ → Type 0) (byte : ℕ) → IsWhiteSpace byte → P 32 → P 9 → P 10 → P 13 → P byte
of_white_space P byte (inl is) a b c d = rw is a
of_white_space P byte (inr (inl is)) a b c d = rw is b
of_white_space P byte (inr (inr (inl is))) a b c d = rw is c
of_white_space P byte (inr (inr (inr is))) a b c d = rw is d

-- a word has ended if white space or nothing follows
ended : (ws : List ℕ) → AreWhiteSpace ws → ends_word ws ≡ true
ended [] h = refl
ended (w ∷ ws) h = of_white_space (λ x. (is_operator x || is_space x) ≡ true) w h.0 refl refl refl refl

-- the first byte after the end of a text is none of a number or of a literal
abbrev IsSpaceTo : ℕ → Type 0
IsSpaceTo byte = (ws : List ℕ) → AreWhiteSpace ws → (head ws == byte) ≡ false

no_digit : (ws : List ℕ) → AreWhiteSpace ws → prefix_len is_ascii_digit ws ≡ 0
no_digit [] h = refl
no_digit (w ∷ ws) h = of_white_space (λ x. cond (is_ascii_digit x) (1 + prefix_len is_ascii_digit ws) 0 ≡ 0) w h.0 refl refl refl refl

prefix_below : (xs : List ℕ) → prefix_len is_ascii_digit xs ≤ length xs
prefix_below [] = omega arith
prefix_below (x ∷ xs) = go (prefix_below xs) (is_ascii_digit x)
  where
    go : prefix_len is_ascii_digit xs ≤ length xs → (b : Bool) → cond b (1 + prefix_len is_ascii_digit xs) 0 ≤ suc (length xs)
    go below true = omega (arith, below)
    go below false = omega arith

-- ---- parts of a number

module _ (ws : List ℕ) (white : AreWhiteSpace ws) where
  -- what is left of a text, with the white space after it
  abbrev with : Option (List ℕ) → Option (List ℕ)
  with rest = option_map (λ r. r ++ ws) rest

  none : (byte : ℕ) → (32 == byte) ≡ false → (9 == byte) ≡ false → (10 == byte) ≡ false → (13 == byte) ≡ false → (head ws == byte) ≡ false
  none byte a b c d = go ws white
    where
      go : IsSpaceTo byte
      go [] h = a
      go (x ∷ xs) h = of_white_space (λ y. (y == byte) ≡ false) x h.0 a b c d

  same_prefix : (xs : List ℕ) → prefix_len is_ascii_digit (xs ++ ws) ≡ prefix_len is_ascii_digit xs
  same_prefix [] = no_digit ws white
  same_prefix (x ∷ xs) = ap (λ n. cond (is_ascii_digit x) (1 + n) 0) (same_prefix xs)

  digits : (xs : List ℕ) → after_digits (xs ++ ws) ≡ with (after_digits xs)
  digits xs =
      ap (λ n. cond (n == 0) None (Some (drop n (xs ++ ws)))) (same_prefix xs)
      ∙ ap (λ r. cond (prefix_len is_ascii_digit xs == 0) None (Some r)) (drop-append-le (prefix_len is_ascii_digit xs) xs ws (prefix_below xs))
      ∙ either (prefix_len is_ascii_digit xs == 0)
    where
      either : (b : Bool) → cond b None (Some (drop (prefix_len is_ascii_digit xs) xs ++ ws))
          ≡ with (cond b None (Some (drop (prefix_len is_ascii_digit xs) xs)))
      either true = refl
      either false = refl

  -- a sign is passed over or not
  passed : (b : Bool) (x : ℕ) (xs : List ℕ) → cond b (xs ++ ws) (x ∷ xs ++ ws) ≡ cond b xs (x ∷ xs) ++ ws
  passed true x xs = refl
  passed false x xs = refl

  minus : (xs : List ℕ) → after_minus (xs ++ ws) ≡ after_minus xs ++ ws
  minus [] = ap (λ b. cond b (drop 1 ws) ws) (none 45 refl refl refl refl)
  minus (x ∷ xs) = passed (x == 45) x xs

  sign : (xs : List ℕ) → after_sign (xs ++ ws) ≡ after_sign xs ++ ws
  sign [] = ap₂ (λ b c. cond (b || c) (drop 1 ws) ws) (none 45 refl refl refl refl) (none 43 refl refl refl refl)
  sign (x ∷ xs) = passed ((x == 45) || (x == 43)) x xs

  whole : (xs : List ℕ) → after_whole (xs ++ ws) ≡ with (after_whole xs)
  whole [] = ap (λ b. cond b (Some (drop 1 ws)) (after_digits ws)) (none 48 refl refl refl refl) ∙ digits []
  whole (x ∷ xs) = ap (λ r. cond (x == 48) (Some (xs ++ ws)) r) (digits (x ∷ xs)) ∙ either (x == 48)
    where
      either : (b : Bool) → cond b (Some (xs ++ ws)) (with (after_digits (x ∷ xs))) ≡ with (cond b (Some xs) (after_digits (x ∷ xs)))
      either true = refl
      either false = refl

  fraction : (xs : List ℕ) → after_fraction (xs ++ ws) ≡ with (after_fraction xs)
  fraction [] = ap (λ b. cond b (after_digits (drop 1 ws)) (Some ws)) (none 46 refl refl refl refl)
  fraction (x ∷ xs) = ap (λ r. cond (x == 46) r (Some (x ∷ xs ++ ws))) (digits xs) ∙ either (x == 46)
    where
      either : (b : Bool) → cond b (with (after_digits xs)) (Some (x ∷ xs ++ ws)) ≡ with (cond b (after_digits xs) (Some (x ∷ xs)))
      either true = refl
      either false = refl

  exponent : (xs : List ℕ) → after_exponent (xs ++ ws) ≡ with (after_exponent xs)
  exponent [] =
      ap₂ (λ b c. cond (b || c) (after_digits (after_sign (drop 1 ws))) (Some ws))
      (none 101 refl refl refl refl) (none 69 refl refl refl refl)
  exponent (x ∷ xs) =
      ap (λ r. cond ((x == 101) || (x == 69)) r (Some (x ∷ xs ++ ws))) (ap after_digits (sign xs) ∙ digits (after_sign xs))
      ∙ either ((x == 101) || (x == 69))
    where
      either : (b : Bool) → cond b (with (after_digits (after_sign xs))) (Some (x ∷ xs ++ ws))
          ≡ with (cond b (after_digits (after_sign xs)) (Some (x ∷ xs)))
      either true = refl
      either false = refl

  -- one part after another
  then : (f : List ℕ → Option (List ℕ)) → ((xs : List ℕ) → f (xs ++ ws) ≡ with (f xs)) → (rest : Option (List ℕ))
      → option_and_then f (with rest) ≡ with (option_and_then f rest)
  then f same None = refl
  then f same (Some xs) = same xs

  number_ends : (xs : List ℕ) → after_number (xs ++ ws) ≡ with (after_number xs)
  unfolding after_number
  number_ends xs =
      ap (λ o. option_and_then after_exponent (option_and_then after_fraction o)) (ap after_whole (minus xs) ∙ whole (after_minus xs))
      ∙ ap (option_and_then after_exponent) (then after_fraction fraction (after_whole (after_minus xs)))
      ∙ then after_exponent exponent (option_and_then after_fraction (after_whole (after_minus xs)))

  -- ---- words

  ends : (xs : List ℕ) → ends_word (xs ++ ws) ≡ ends_word xs
  ends [] = ended ws white
  ends (x ∷ xs) = refl

  later : (n : ℕ) (xs : List ℕ) → AreWhiteSpace xs → ends_word (drop n xs) ≡ true
  later zero xs h = ended xs h
  later (suc n) [] h = refl
  later (suc n) (x ∷ xs) h = later n xs h.1

  ends-drop : (n : ℕ) (xs : List ℕ) → ends_word (drop n (xs ++ ws)) ≡ ends_word (drop n xs)
  ends-drop zero xs = ends xs
  ends-drop (suc n) [] = later (suc n) ws white
  ends-drop (suc n) (x ∷ xs) = ends-drop n xs

  -- the number at the beginning of a text, and what is left after it
  before_rest : (xs : List ℕ) (rest : Option (List ℕ)) → number_before (xs ++ ws) (with rest) ≡ number_before xs rest
  before_rest xs None = refl
  before_rest xs (Some r) =
      ap₂ (λ b n. cond b (number (take n (xs ++ ws))) bad) (ends r) size
      ∙ ap (λ s. cond (ends_word r) (number s) bad) (take-append-le (length xs - length r) xs ws (omega arith))
    where
      size : length (xs ++ ws) - length (r ++ ws) ≡ length xs - length r
      size = omega (arith, length-append xs ws, length-append r ws)

  -- a literal's name has no white space in it
  abbrev NamesLetters : List ℕ → Type 0
  NamesLetters [] = Unit {0}
  NamesLetters (c ∷ cs) = (nat_eq c 32 ≡ false) × (nat_eq c 9 ≡ false) × (nat_eq c 10 ≡ false) × (nat_eq c 13 ≡ false) × NamesLetters cs

  named : (name xs : List ℕ) → NamesLetters name
      → starts_with nat_eq (xs ++ ws) name ≡ starts_with nat_eq xs name
  named [] xs h = refl
  named (c ∷ cs) (x ∷ xs) h = ap (λ b. nat_eq c x && b) (named cs xs h.4)
  named (c ∷ cs) [] h = go ws white
    where
      go : (bytes : List ℕ) → AreWhiteSpace bytes → starts_with nat_eq bytes (c ∷ cs) ≡ false
      go [] k = refl
      go (y ∷ ys) k =
          ap (λ b. b && pointwise nat_eq cs (take (length cs) ys))
          (of_white_space (λ z. nat_eq c z ≡ false) y k.0 h.0 h.1 h.2 h.3)

  literal_ends : (name : List ℕ) (t : Token) (xs : List ℕ) → NamesLetters name → literal name t (xs ++ ws) ≡ literal name t xs
  literal_ends name t xs h = ap₂ (λ a b. cond (a && b) t bad) (named name xs h) (ends-drop (length name) xs)

  -- the word at the beginning of a text that begins with this byte
  abbrev by_byte : ℕ → Token → Token → Token → Token → Token
  by_byte x a b c d = cond (x == 116) a (cond (x == 102) b (cond (x == 110) c d))

  -- a word is the same
  pub word_ends : (x : ℕ) (xs : List ℕ) → word (x ∷ xs ++ ws) ≡ word (x ∷ xs)
  unfolding word
  word_ends x xs =
      ap₂ (λ a b. by_byte x a b (literal ascii.null_text null (x ∷ xs ++ ws)) (number_before (x ∷ xs ++ ws) (after_number (x ∷ xs ++ ws))))
      (literal_ends ascii.true_text (boolean true) (x ∷ xs) letters_true) (literal_ends ascii.false_text (boolean false) (x ∷ xs) letters_false)
      ∙ ap₂ (by_byte x (literal ascii.true_text (boolean true) (x ∷ xs)) (literal ascii.false_text (boolean false) (x ∷ xs)))
      (literal_ends ascii.null_text null (x ∷ xs) letters_null)
      (ap (number_before (x ∷ xs ++ ws)) (number_ends (x ∷ xs)) ∙ before_rest (x ∷ xs) (after_number (x ∷ xs)))
    where
      letters_true : NamesLetters ascii.true_text
      letters_true = (refl, refl, refl, refl, (refl, refl, refl, refl, (refl, refl, refl, refl, (refl, refl, refl, refl, tt))))

      letters_false : NamesLetters ascii.false_text
      letters_false = (refl, refl, refl, refl, (refl, refl, refl, refl, (refl, refl, refl, refl, (refl, refl, refl, refl, (refl, refl, refl, refl, tt)))))

      letters_null : NamesLetters ascii.null_text
      letters_null = (refl, refl, refl, refl, (refl, refl, refl, refl, (refl, refl, refl, refl, (refl, refl, refl, refl, tt))))
