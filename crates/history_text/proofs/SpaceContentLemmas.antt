-- White space after a text ends no string in it.
use Rattle.history_text.proofs.Common.{◌≡◌, ℕ, ◌+◌, ◌*◌, Bool, true, false, cond, ◌&&◌, ◌==◌, nat_lt, List, [], ◌∷◌, ◌++◌, Option, Some, None}
use Rattle.history_text.proofs.Common.{option_and_then, refl, ap, ap₂, ◌∙◌, is_digit, digit_value, encode_utf8, code_unit, short_escape}
use Rattle.history_text.proofs.Common.{is_high_surrogate, is_low_surrogate, surrogate_pair, Within, plain, after_backslash, after_u, after_high}
use Rattle.history_text.proofs.Common.{prepend, content, IsWhiteSpace, AreWhiteSpace}
use Rattle.history_text.proofs.SpaceWordLemmas.{of_white_space}

-- a code unit has no white space among its digits

abbrev unit_value : ℕ → ℕ → ℕ → ℕ → ℕ
unit_value a b c d = digit_value a * 4096 + digit_value b * 256 + digit_value c * 16 + digit_value d

abbrev unit_of : Bool → Bool → Bool → Bool → Option ℕ → Option ℕ
unit_of p q r s u = cond (p && q && r && s) u None

no_unit-2 : (p r s : Bool) (u : Option ℕ) → unit_of p false r s u ≡ None
no_unit-2 true r s u = refl
no_unit-2 false r s u = refl

no_unit-3 : (p q s : Bool) (u : Option ℕ) → unit_of p q false s u ≡ None
no_unit-3 true true s u = refl
no_unit-3 true false s u = refl
no_unit-3 false q s u = refl

no_unit-4 : (p q r : Bool) (u : Option ℕ) → unit_of p q r false u ≡ None
no_unit-4 true true true u = refl
no_unit-4 true true false u = refl
no_unit-4 true false r u = refl
no_unit-4 false q r u = refl

no_digit : (w : ℕ) → IsWhiteSpace w → is_digit w 16 ≡ false
no_digit w h = of_white_space (λ x. is_digit x 16 ≡ false) w h refl refl refl refl

white-2 : (a b c d : ℕ) → IsWhiteSpace b → code_unit a b c d ≡ None
unfolding code_unit
white-2 a b c d h = ap (λ q. unit_of (is_digit a 16) q (is_digit c 16) (is_digit d 16) (Some (unit_value a b c d))) (no_digit b h)
    ∙ no_unit-2 (is_digit a 16) (is_digit c 16) (is_digit d 16) (Some (unit_value a b c d))

white-3 : (a b c d : ℕ) → IsWhiteSpace c → code_unit a b c d ≡ None
unfolding code_unit
white-3 a b c d h = ap (λ q. unit_of (is_digit a 16) (is_digit b 16) q (is_digit d 16) (Some (unit_value a b c d))) (no_digit c h)
    ∙ no_unit-3 (is_digit a 16) (is_digit b 16) (is_digit d 16) (Some (unit_value a b c d))

white-4 : (a b c d : ℕ) → IsWhiteSpace d → code_unit a b c d ≡ None
unfolding code_unit
white-4 a b c d h = ap (λ q. unit_of (is_digit a 16) (is_digit b 16) (is_digit c 16) q (Some (unit_value a b c d))) (no_digit d h)
    ∙ no_unit-4 (is_digit a 16) (is_digit b 16) (is_digit c 16) (Some (unit_value a b c d))

white-1 : (a b c d : ℕ) → IsWhiteSpace a → code_unit a b c d ≡ None
unfolding code_unit
white-1 a b c d h = ap (λ q. unit_of q (is_digit b 16) (is_digit c 16) (is_digit d 16) (Some (unit_value a b c d))) (no_digit a h)

-- what follows a code unit, where there is none
abbrev unit_after : List ℕ → ℕ → Option (List ℕ)
unit_after xs u = cond (is_high_surrogate u) (content (after_high u) xs) (cond (is_low_surrogate u) None (prepend (encode_utf8 u) (content plain xs)))

abbrev low_then : ℕ → Option (List ℕ) → ℕ → Option (List ℕ)
low_then h rest l = cond (is_low_surrogate l) (prepend (encode_utf8 (surrogate_pair h l)) rest) None

abbrev low_after : ℕ → List ℕ → ℕ → Option (List ℕ)
low_after h xs l = low_then h (content plain xs) l

-- a byte outside of escapes, with what comes after it
abbrev plain_byte : ℕ → Option (List ℕ) → Option (List ℕ) → Option (List ℕ)
plain_byte x escaped rest = cond (x == 34) (Some []) (cond (x == 92) escaped (cond (nat_lt x 32) None (prepend (x ∷ []) rest)))

either : (b : Bool) (o : Option (List ℕ)) → o ≡ None → cond b o None ≡ None
either true o h = h
either false o h = refl

-- white space alone is no end of a string
in_white_space : (w : Within) (ws : List ℕ) → AreWhiteSpace ws → content w ws ≡ None
unfolding content short_escape
in_white_space plain [] h = refl
in_white_space plain (x ∷ xs) h =
    of_white_space (λ y. plain_byte y (content after_backslash xs) (content plain xs) ≡ None) x h.0
    (ap (prepend (32 ∷ [])) (in_white_space plain xs h.1)) refl refl refl
in_white_space after_backslash [] h = refl
in_white_space after_backslash (x ∷ xs) h =
    of_white_space (λ y. cond (y == 117) (content after_u xs) (option_and_then (λ c. prepend (c ∷ []) (content plain xs)) (short_escape y)) ≡ None)
    x h.0 refl refl refl refl
in_white_space after_u [] h = refl
in_white_space after_u (a ∷ []) h = refl
in_white_space after_u (a ∷ b ∷ []) h = refl
in_white_space after_u (a ∷ b ∷ c ∷ []) h = refl
in_white_space after_u (a ∷ b ∷ c ∷ d ∷ xs) h = ap (option_and_then (unit_after xs)) (white-1 a b c d h.0)
in_white_space (after_high u) [] h = refl
in_white_space (after_high u) (s ∷ []) h = refl
in_white_space (after_high u) (s ∷ t ∷ []) h = refl
in_white_space (after_high u) (s ∷ t ∷ a ∷ []) h = refl
in_white_space (after_high u) (s ∷ t ∷ a ∷ b ∷ []) h = refl
in_white_space (after_high u) (s ∷ t ∷ a ∷ b ∷ c ∷ []) h = refl
in_white_space (after_high u) (s ∷ t ∷ a ∷ b ∷ c ∷ d ∷ xs) h =
    either ((s == 92) && (t == 117)) _ (ap (option_and_then (low_after u xs)) (white-1 a b c d h.1.1.0))

-- an escape that the end of the text cuts off is none with white space after it

cut-u1 : (a : ℕ) (ws : List ℕ) → AreWhiteSpace ws → content after_u (a ∷ ws) ≡ None
unfolding content
cut-u1 a [] h = refl
cut-u1 a (b ∷ []) h = refl
cut-u1 a (b ∷ c ∷ []) h = refl
cut-u1 a (b ∷ c ∷ d ∷ xs) h = ap (option_and_then (unit_after xs)) (white-2 a b c d h.0)

cut-u2 : (a b : ℕ) (ws : List ℕ) → AreWhiteSpace ws → content after_u (a ∷ b ∷ ws) ≡ None
unfolding content
cut-u2 a b [] h = refl
cut-u2 a b (c ∷ []) h = refl
cut-u2 a b (c ∷ d ∷ xs) h = ap (option_and_then (unit_after xs)) (white-3 a b c d h.0)

cut-u3 : (a b c : ℕ) (ws : List ℕ) → AreWhiteSpace ws → content after_u (a ∷ b ∷ c ∷ ws) ≡ None
unfolding content
cut-u3 a b c [] h = refl
cut-u3 a b c (d ∷ xs) h = ap (option_and_then (unit_after xs)) (white-4 a b c d h.0)

module _ (u s : ℕ) where
  no_low : (t a b c d : ℕ) (xs : List ℕ) → code_unit a b c d ≡ None → content (after_high u) (s ∷ t ∷ a ∷ b ∷ c ∷ d ∷ xs) ≡ None
  unfolding content
  no_low t a b c d xs h = either ((s == 92) && (t == 117)) _ (ap (option_and_then (low_after u xs)) h)

  cut-high1 : (ws : List ℕ) → AreWhiteSpace ws → content (after_high u) (s ∷ ws) ≡ None
  unfolding content
  cut-high1 [] h = refl
  cut-high1 (t ∷ []) h = refl
  cut-high1 (t ∷ a ∷ []) h = refl
  cut-high1 (t ∷ a ∷ b ∷ []) h = refl
  cut-high1 (t ∷ a ∷ b ∷ c ∷ []) h = refl
  cut-high1 (t ∷ a ∷ b ∷ c ∷ d ∷ xs) h = no_low t a b c d xs (white-1 a b c d h.1.0)

  cut-high2 : (t : ℕ) (ws : List ℕ) → AreWhiteSpace ws → content (after_high u) (s ∷ t ∷ ws) ≡ None
  unfolding content
  cut-high2 t [] h = refl
  cut-high2 t (a ∷ []) h = refl
  cut-high2 t (a ∷ b ∷ []) h = refl
  cut-high2 t (a ∷ b ∷ c ∷ []) h = refl
  cut-high2 t (a ∷ b ∷ c ∷ d ∷ xs) h = no_low t a b c d xs (white-1 a b c d h.0)

  cut-high3 : (t a : ℕ) (ws : List ℕ) → AreWhiteSpace ws → content (after_high u) (s ∷ t ∷ a ∷ ws) ≡ None
  unfolding content
  cut-high3 t a [] h = refl
  cut-high3 t a (b ∷ []) h = refl
  cut-high3 t a (b ∷ c ∷ []) h = refl
  cut-high3 t a (b ∷ c ∷ d ∷ xs) h = no_low t a b c d xs (white-2 a b c d h.0)

  cut-high4 : (t a b : ℕ) (ws : List ℕ) → AreWhiteSpace ws → content (after_high u) (s ∷ t ∷ a ∷ b ∷ ws) ≡ None
  unfolding content
  cut-high4 t a b [] h = refl
  cut-high4 t a b (c ∷ []) h = refl
  cut-high4 t a b (c ∷ d ∷ xs) h = no_low t a b c d xs (white-3 a b c d h.0)

  cut-high5 : (t a b c : ℕ) (ws : List ℕ) → AreWhiteSpace ws → content (after_high u) (s ∷ t ∷ a ∷ b ∷ c ∷ ws) ≡ None
  unfolding content
  cut-high5 t a b c [] h = refl
  cut-high5 t a b c (d ∷ xs) h = no_low t a b c d xs (white-4 a b c d h.0)

-- a code unit is followed by the same
by_unit : (xs ys : List ℕ) (o : Option ℕ) → ((u : ℕ) → content (after_high u) ys ≡ content (after_high u) xs)
    → content plain ys ≡ content plain xs → option_and_then (unit_after ys) o ≡ option_and_then (unit_after xs) o
by_unit xs ys None high low = refl
by_unit xs ys (Some u) high low =
    ap₂ (λ p q. cond (is_high_surrogate u) p (cond (is_low_surrogate u) None (prepend (encode_utf8 u) q))) (high u) low

-- the bytes of a string are the same
pub content_ends : (w : Within) (xs ws : List ℕ) → AreWhiteSpace ws → content w (xs ++ ws) ≡ content w xs
unfolding content
content_ends plain [] ws h = in_white_space plain ws h
content_ends plain (x ∷ xs) ws h =
    ap₂ (plain_byte x) (content_ends after_backslash xs ws h) (content_ends plain xs ws h)
content_ends after_backslash [] ws h = in_white_space after_backslash ws h
content_ends after_backslash (x ∷ xs) ws h =
    ap₂ (λ a b. cond (x == 117) a (option_and_then (λ c. prepend (c ∷ []) b) (short_escape x)))
    (content_ends after_u xs ws h) (content_ends plain xs ws h)
content_ends after_u [] ws h = in_white_space after_u ws h
content_ends after_u (a ∷ []) ws h = cut-u1 a ws h
content_ends after_u (a ∷ b ∷ []) ws h = cut-u2 a b ws h
content_ends after_u (a ∷ b ∷ c ∷ []) ws h = cut-u3 a b c ws h
content_ends after_u (a ∷ b ∷ c ∷ d ∷ xs) ws h =
    by_unit xs (xs ++ ws) (code_unit a b c d) (λ u. content_ends (after_high u) xs ws h) (content_ends plain xs ws h)
content_ends (after_high u) [] ws h = in_white_space (after_high u) ws h
content_ends (after_high u) (s ∷ []) ws h = cut-high1 u s ws h
content_ends (after_high u) (s ∷ t ∷ []) ws h = cut-high2 u s t ws h
content_ends (after_high u) (s ∷ t ∷ a ∷ []) ws h = cut-high3 u s t a ws h
content_ends (after_high u) (s ∷ t ∷ a ∷ b ∷ []) ws h = cut-high4 u s t a b ws h
content_ends (after_high u) (s ∷ t ∷ a ∷ b ∷ c ∷ []) ws h = cut-high5 u s t a b c ws h
content_ends (after_high u) (s ∷ t ∷ a ∷ b ∷ c ∷ d ∷ xs) ws h =
    ap (λ r. cond ((s == 92) && (t == 117)) (option_and_then (low_then u r) (code_unit a b c d)) None)
    (content_ends plain xs ws h)
