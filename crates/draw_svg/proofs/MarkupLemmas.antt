-- An escaped content has no markup.
use Rattle.std.proofs.Common.{◌≡◌, ℕ, ◌==◌, ◌&&◌, if◌then◌else◌, Bool, true, false, not, List, [], ◌∷◌, refl, sym, subst, ap, ◌∙◌}
use Rattle.std.specs.Prelude.{◌≢◌, codes, nat_le}
use Rattle.std.specs.List.{list_all}
use Rattle.std.proofs.lemmas.Bool.{false≢true, and_parts}
use Rattle.std.proofs.lemmas.List.Elements.{All-nil, All-cons, All-append}
use Rattle.draw_svg.specs.Content.{escaped_byte, escaped, HasNoMarkup, EscapedHasNoMarkup}

-- a byte that is no part of the markup
abbrev IsPlain : ℕ → Type 0
IsPlain byte = (byte ≢ 60) × (byte ≢ 62) × (byte ≢ 34) × (byte ≢ 39)

-- a byte is another one where it is not equal to it
differs : (byte other : ℕ) → not (byte == other) ≡ true → not (other == other) ≡ false → byte ≢ other
differs byte other h itself = λ is. false≢true (sym itself ∙ subst (λ b. not (b == other) ≡ true) is h)

-- the test of it
abbrev is_plain : ℕ → Bool
is_plain byte = not (byte == 60) && (not (byte == 62) && (not (byte == 34) && not (byte == 39)))

plain : (byte : ℕ) → not (byte == 60) ≡ true → not (byte == 62) ≡ true → not (byte == 34) ≡ true → not (byte == 39) ≡ true → IsPlain byte
plain byte a b c d = (differs byte 60 a refl, differs byte 62 b refl, differs byte 34 c refl, differs byte 39 d refl)

-- a text of plain bytes
plain_text : (xs : List ℕ) → list_all is_plain xs ≡ true → HasNoMarkup xs
plain_text [] h = All-nil IsPlain
plain_text (x ∷ xs) h =
    let (first, others) = and_parts (is_plain x) (list_all is_plain xs) h in
    let (less, behind) = and_parts (not (x == 60)) (not (x == 62) && (not (x == 34) && not (x == 39))) first in
    let (greater, quotes) = and_parts (not (x == 62)) (not (x == 34) && not (x == 39)) behind in
    let (double, single) = and_parts (not (x == 34)) (not (x == 39)) quotes in
    All-cons IsPlain x xs (plain x less greater double single) (plain_text xs others)

-- either of two texts
one_of : (test : Bool) (xs ys : List ℕ) → (test ≡ true → HasNoMarkup xs) → (test ≡ false → HasNoMarkup ys)
    → HasNoMarkup (if test then xs else ys)
one_of true xs ys first second = first refl
one_of false xs ys first second = second refl

escaped_byte-plain : (byte : ℕ) → HasNoMarkup (escaped_byte byte)
escaped_byte-plain byte = one_of (byte == 60) _ _ (λ is. plain_text (codes "&lt;") refl) (λ a.
    one_of (byte == 62) _ _ (λ is. plain_text (codes "&gt;") refl) (λ b.
    one_of (byte == 38) _ _ (λ is. plain_text (codes "&amp;") refl) (λ c.
    one_of (byte == 34) _ _ (λ is. plain_text (codes "&quot;") refl) (λ d.
    one_of (byte == 39) _ _ (λ is. plain_text (codes "&#39;") refl) (λ e.
    one_of (nat_le 32 byte && nat_le byte 126) _ _
    (λ is. All-cons IsPlain byte [] (plain byte (ap not a) (ap not b) (ap not d) (ap not e)) (All-nil IsPlain)) (λ is. plain_text (codes "?") refl))))))

pub escaped-plain : EscapedHasNoMarkup
escaped-plain [] = All-nil IsPlain
escaped-plain (byte ∷ content) = All-append IsPlain (escaped_byte byte) (escaped content) (escaped_byte-plain byte) (escaped-plain content)
