-- The first line of a text.
use Rattle.std.proofs.Common.{◌≡◌, ◌≢◌, ℕ, zero, suc, ◌<◌, ◌==◌, false, List, [], ◌∷◌, length, take, get_or, refl, sym, ap, subst, arith}
use Rattle.std.proofs.lemmas.Bool.Decides.{nat_tests}
use Rattle.std.proofs.lemmas.List.Elements.{All-head, All-tail}
use Rattle.stream_text.specs.Cuts.{line_feed, HasNoLineFeed}
use Rattle.cli_judge.specs.Refusals.{first_line}

other_byte : (byte : ℕ) → byte ≢ line_feed → (byte == line_feed) ≡ false
other_byte byte h = grind (arith, nat_tests)

-- a byte that ends no line
longer : (byte : ℕ) (bytes line : List ℕ) → byte ≢ line_feed → first_line bytes ≡ line → first_line (byte ∷ bytes) ≡ byte ∷ line
longer byte bytes line other is = rw (other_byte byte other) (ap (λ (l : List ℕ). byte ∷ l) is)

-- all of them where none ends a line
pub first-all : (bytes : List ℕ) → HasNoLineFeed bytes → first_line bytes ≡ bytes
first-all [] none = refl
first-all (byte ∷ bytes) none =
    longer byte bytes bytes (All-head (λ b. b ≢ line_feed) byte bytes none)
    (first-all bytes (All-tail (λ b. b ≢ line_feed) byte bytes none))

-- the first line is the bytes before the first line feed
pub first-fed : (count : ℕ) (bytes : List ℕ) → count < length bytes → get_or bytes count 0 ≡ line_feed → HasNoLineFeed (take count bytes)
    → first_line bytes ≡ take count bytes
first-fed count [] within here before = absurd (omega arith)
first-fed zero (byte ∷ bytes) within here before = subst (λ (b : ℕ). first_line (b ∷ bytes) ≡ []) (sym here) refl
first-fed (suc count) (byte ∷ bytes) within here before =
    longer byte bytes (take count bytes) (All-head (λ b. b ≢ line_feed) byte (take count bytes) before)
    (first-fed count bytes (omega arith) here (All-tail (λ b. b ≢ line_feed) byte (take count bytes) before))
