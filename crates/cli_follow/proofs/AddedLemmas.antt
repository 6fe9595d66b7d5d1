-- The outcomes of lines that are passed.
use Rattle.cli_follow.proofs.Common.{◌≡◌, ◌≢◌, ℕ, zero, suc, ◌+◌, ◌-◌, ◌<◌, ◌≤◌, ◌==◌, Bool, true, false, List, [], ◌∷◌, ◌++◌, length, take, drop}
use Rattle.cli_follow.proofs.Common.{Option, Some, None, get_or, refl, sym, ap, ◌∙◌, subst, inr, append_assoc, append-nil, length-drop, arith}
use Rattle.cli_follow.proofs.Common.{string_bytes, nat_tests, take_all, All-head, All-tail, line_feed, HasNoLineFeed, lines_of, CommandOutcome}
use Rattle.cli_follow.proofs.Common.{Answered, Noted, Refused, Memory, Words, Failed, Followed, LineFollower, Going, Ended, HasTaken}
use Rattle.cli_follow.proofs.Common.{IsManyRefusal, IsStreamOutcome, too_many_name, most_lines, BeginsWith}
use Rattle.cli_follow.proofs.ReadingLemmas.{with_byte}
use Rattle.cli_follow.proofs.RefusalLemmas.{refusal_of, next_of, numbered}

-- ---- bytes, cut at their first line feed

cut_more : (byte : ℕ) (rest line : List ℕ) (lines : List (List ℕ)) → byte ≢ line_feed → lines_of rest ≡ line ∷ lines
    → lines_of (byte ∷ rest) ≡ (byte ∷ line) ∷ lines
cut_more byte rest line lines other is = with_byte byte rest (line ∷ lines) other is

-- the first line of bytes that have a line feed
lines_of-fed : (count : ℕ) (bytes : List ℕ) → count < length bytes → get_or bytes count 0 ≡ line_feed
    → HasNoLineFeed (take count bytes) → lines_of bytes ≡ take count bytes ∷ lines_of (drop (suc count) bytes)
lines_of-fed count [] within here before = absurd (omega arith)
lines_of-fed zero (byte ∷ bytes) within here before =
    subst (λ (b : ℕ). lines_of (b ∷ bytes) ≡ [] ∷ lines_of bytes) (sym here) refl
lines_of-fed (suc count) (byte ∷ bytes) within here before =
    cut_more byte bytes (take count bytes) (lines_of (drop (suc count) bytes))
    (All-head (λ b. b ≢ line_feed) byte (take count bytes) before)
    (lines_of-fed count bytes (omega arith) here (All-tail (λ b. b ≢ line_feed) byte (take count bytes) before))

drop_one : (count : ℕ) (bytes : List ℕ) → drop (suc count) bytes ≡ drop 1 (drop count bytes)
drop_one zero bytes = refl
drop_one (suc count) [] = refl
drop_one (suc count) (byte ∷ bytes) = drop_one count bytes

-- the bytes from a place on, as a slice gives them
abbrev from : ℕ → List ℕ → List ℕ
from place bytes = take (length bytes - place) (drop place bytes)

from_is : (place : ℕ) (bytes : List ℕ) → from place bytes ≡ drop place bytes
from_is place bytes =
    let rest = length-drop place bytes in
    take_all (length bytes - place) (drop place bytes) (omega (arith, rest))

pub lines_of-cut : (count : ℕ) (bytes : List ℕ) → count < length bytes → get_or bytes count 0 ≡ line_feed
    → HasNoLineFeed (take count bytes) → lines_of bytes ≡ take count bytes ∷ lines_of (from 1 (from count bytes))
lines_of-cut count bytes within here before =
    lines_of-fed count bytes within here before
    ∙ ap (λ (rest : List ℕ). take count bytes ∷ lines_of rest)
    (drop_one count bytes ∙ (sym (from_is 1 (drop count bytes)) ∙ ap (λ (rest : List ℕ). from 1 rest) (sym (from_is count bytes))))

-- the only line of bytes that have no line feed
lines_of-unfed : (byte : ℕ) (bytes : List ℕ) → HasNoLineFeed (byte ∷ bytes) → lines_of (byte ∷ bytes) ≡ (byte ∷ bytes) ∷ []
lines_of-unfed byte [] whole = with_byte byte [] [] (All-head (λ b. b ≢ line_feed) byte [] whole) refl
lines_of-unfed byte (next ∷ bytes) whole =
    cut_more byte (next ∷ bytes) (next ∷ bytes) [] (All-head (λ b. b ≢ line_feed) byte (next ∷ bytes) whole)
    (lines_of-unfed next bytes (All-tail (λ b. b ≢ line_feed) byte (next ∷ bytes) whole))

-- ---- a line more

-- there are too many lines
pub added_many : (budget given count number : ℕ) (lines : List (List ℕ)) (line : List ℕ) (f : Followed) (outcome : CommandOutcome)
    → HasTaken budget lines (Going f count given) → most_lines ≤ count → number ≡ most_lines + 1 → IsManyRefusal number outcome
    → HasTaken budget (lines ++ line ∷ []) (Ended outcome)
added_many budget given count number lines line f outcome added many numbers is = λ known begins. refused known outcome begins is
  where
    counted : count ≡ length lines
    counted = added.1

    most : length lines ≡ most_lines
    most = let top = added.2 in omega (arith, counted, many, top)

    refused : (known : Option (List ℕ)) (outcome : CommandOutcome) → BeginsWith known (lines ++ line ∷ []) → IsManyRefusal number outcome
        → IsStreamOutcome budget known outcome
    refused known Memory begins is = tt
    refused known (Answered answer bytes) begins is = absurd is
    refused known (Noted answer bytes note) begins is = absurd is
    refused known (Words bytes) begins is = absurd is
    refused known Failed begins is = absurd is
    refused None (Refused bytes hint) begins is = tt
    refused (Some text) (Refused bytes hint) begins is =
        refusal_of text lines (line ∷ begins.0) f too_many_name (string_bytes bytes) (string_bytes hint) added.3 (next_of text lines begins.0 line begins.1)
        (inr (inr (record { count = most; name_is = refl; hint_is = is.1 })))
        (numbered (length lines + 1) number too_many_name (string_bytes bytes) (ap (λ n. n + 1) most ∙ sym numbers) is.0)

-- ---- lines more

-- the follower of some lines more, after one more
pub added_next : (budget : ℕ) (lines read : List (List ℕ)) (line : List ℕ) (f : LineFollower)
    → HasTaken budget ((lines ++ read) ++ line ∷ []) f → HasTaken budget (lines ++ (read ++ line ∷ [])) f
added_next budget lines read line f added =
    subst (λ (ls : List (List ℕ)). HasTaken budget ls f) (append_assoc lines read (line ∷ [])) added

pub none_left : (rest : List ℕ) (empty : Bool) → empty ≡ (length rest == 0) → empty ≡ true → length rest ≡ 0
none_left [] empty is right = refl
none_left (byte ∷ rest) empty is right =
    let more : (length (byte ∷ rest) == 0) ≡ false = grind (arith, nat_tests) in
    let t = is ∙ more in cc

-- no bytes are left
pub added_all : (budget : ℕ) (lines read : List (List ℕ)) (bytes rest : List ℕ) (f : LineFollower)
    → lines_of bytes ≡ read ++ lines_of rest → length rest ≡ 0 → HasTaken budget (lines ++ read) f
    → HasTaken budget (lines ++ lines_of bytes) f
added_all budget lines read bytes [] f parts none added =
    subst (λ (ls : List (List ℕ)). HasTaken budget (lines ++ ls) f) (sym (append-nil read) ∙ sym parts) added
added_all budget lines read bytes (byte ∷ rest) f parts none added = absurd (omega (arith, none))

-- those that are left are the last line
pub added_last : (budget : ℕ) (lines read : List (List ℕ)) (bytes rest : List ℕ) (f : LineFollower)
    → lines_of bytes ≡ read ++ lines_of rest → length rest ≢ 0 → HasNoLineFeed rest → HasTaken budget ((lines ++ read) ++ rest ∷ []) f
    → HasTaken budget (lines ++ lines_of bytes) f
added_last budget lines read bytes [] f parts some whole added = absurd (some refl)
added_last budget lines read bytes (byte ∷ rest) f parts some whole added =
    subst (λ (ls : List (List ℕ)). HasTaken budget (lines ++ ls) f)
    (ap (λ (ls : List (List ℕ)). read ++ ls) (sym (lines_of-unfed byte rest whole)) ∙ sym parts)
    (added_next budget lines read (byte ∷ rest) f added)

-- all lines of a text were passed
pub ended_with : (budget : ℕ) (text : List ℕ) (outcome : CommandOutcome) → HasTaken budget (lines_of text) (Ended outcome)
    → IsStreamOutcome budget (Some text) outcome
ended_with budget text outcome added = added (Some text) ([], sym (append-nil (lines_of text)))
