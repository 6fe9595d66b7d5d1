-- How far the lines of a source were read, with one line more.
use Rattle.cli_follow.proofs.Common.{◌≡◌, ◌≢◌, ℕ, ◌+◌, ◌<◌, ◌≤◌, ◌==◌, Bool, true, false, List, [], ◌∷◌, ◌++◌, length, Option, Some, None, Result}
use Rattle.cli_follow.proofs.Common.{Ok, Err, IfOk, refl, sym, ap, ◌∙◌, subst, inl, inr, append_assoc, append-nil, arith, string_bytes, IsAtEnd}
use Rattle.cli_follow.proofs.Common.{Consumes, nat_tests, All-head, All-tail, TextVersion, line_limit, line_feed, HasNoLineFeed, lines_of}
use Rattle.cli_follow.proofs.Common.{before_lines, Advances, TakesLine, FindsEnd, BeginsTooLong, CommandOutcome, Answered, Noted, Refused, Memory}
use Rattle.cli_follow.proofs.Common.{Words, Failed, Followed, IsFollowed, BeginsWith, HasRead, AreLinesOf, line_fault_name, line_fault_hint}
use Rattle.cli_follow.proofs.Common.{too_many_name, IsLineFaultAfter, IsHintAfter, stream_fault_line, most_lines, IsLineRefusal, IsManyRefusal}
use Rattle.cli_follow.proofs.Common.{IsStreamOutcome, IsFollowOutcome}
use Rattle.std.proofs.Common.{IfErr}
use Rattle.stream_text.specs.LineLaws.{TakesFirstLine}
use Rattle.cli_follow.proofs.RefusalLemmas.{refusal_of}
use Rattle.stream_text.specs.declared.line_fault.LineFault.TheVariants as faults

-- what was read, and what is to come
more_of : TakesFirstLine → (text : List ℕ) (lines : List (List ℕ)) (rest line : List ℕ) (new : Option (List ℕ))
    → lines_of text ≡ lines ++ lines_of rest
    → TakesLine (Some rest) line new → HasRead (Some text) (lines ++ line ∷ []) new
more_of law text lines rest line None is taken = elim taken.taken [ inl fed ↦ absurd fed | inr last ↦ absurd last.1 ]
more_of law text lines rest line (Some more) is taken = (
  more,
  refl,
  is ∙ (ap (λ (ls : List (List ℕ)). lines ++ ls) (law rest line more taken) ∙ sym (append_assoc lines (line ∷ [])
      (lines_of more))),
)

pub HasRead-more : TakesFirstLine → (known : Option (List ℕ)) (lines : List (List ℕ)) (old new : Option (List ℕ)) (line : List ℕ)
    → HasRead known lines old
    → TakesLine old line new → HasRead known (lines ++ line ∷ []) new
HasRead-more law None lines old new line read taken = tt
HasRead-more law (Some text) lines old new line read taken =
    more_of law text lines read.0 line new read.2 (subst (λ (o : Option (List ℕ)). TakesLine o line new) read.1 taken)

-- the lines read are the first ones
pub BeginsWith-read : (known : Option (List ℕ)) (lines : List (List ℕ)) (new : Option (List ℕ)) → HasRead known lines new
    → BeginsWith known lines
BeginsWith-read None lines new read = tt
BeginsWith-read (Some text) lines new read = (lines_of read.0, read.2)

-- the lines read are all of them, if nothing is to come
pub AreLinesOf-end : (known : Option (List ℕ)) (lines : List (List ℕ)) (old new : Option (List ℕ)) (line : List ℕ) → HasRead known lines old
    → FindsEnd old line new
    → AreLinesOf known lines
AreLinesOf-end None lines old new line read end = tt
AreLinesOf-end (Some text) lines old new line read end =
    let none : read.0 ≡ [] = subst IsAtEnd read.1 end.before in
    read.2 ∙ (ap (λ (rest : List ℕ). lines ++ lines_of rest) none ∙ append-nil lines)

-- a line was taken, or there was none
pub took : (old new : Option (List ℕ)) (line : List ℕ) (found : Bool) (given : List ℕ) → found ≡ true → line ≡ given
    → Advances found old given new
    → TakesLine old line new
took old new line found given is same h =
    let taken : TakesLine old given new = subst (λ (b : Bool). Advances b old given new) is h in
    subst (λ (l : List ℕ). TakesLine old l new) (sym same) taken

pub ended : (old new : Option (List ℕ)) (found : Bool) (given : List ℕ) → found ≡ false → Advances found old given new
    → FindsEnd old given new
ended old new found given is h = subst (λ (b : Bool). Advances b old given new) is h

-- ---- a line that is too long

-- the first line begins with these bytes
record BeginsLong (bytes : List ℕ) (count : ℕ) : Type 0 where
  next : List ℕ
  rest : List (List ℕ)
  parts : lines_of bytes ≡ next ∷ rest
  long : count ≤ length next

other_byte : (byte : ℕ) → byte ≢ line_feed → (byte == line_feed) ≡ false
other_byte byte h = grind (arith, nat_tests)

pub with_byte : (byte : ℕ) (bytes : List ℕ) (lines : List (List ℕ)) → byte ≢ line_feed → lines_of bytes ≡ lines
    → lines_of (byte ∷ bytes) ≡ before_lines byte lines
with_byte byte bytes lines h is = rw (other_byte byte h) (ap (before_lines byte) is)

long_last : (byte : ℕ) (bytes : List ℕ) (lines : List (List ℕ)) → byte ≢ line_feed → lines_of bytes ≡ lines → BeginsLong (byte ∷ bytes) 1
long_last byte bytes [] h is = record { next = byte ∷ []; rest = []; parts = with_byte byte bytes [] h is; long = omega arith }
long_last byte bytes (line ∷ lines) h is = record {
  next = byte ∷ line;
  rest = lines;
  parts = with_byte byte bytes (line ∷ lines) h is;
  long = omega arith;
}

long_more : (byte : ℕ) (bytes : List ℕ) (count : ℕ) → byte ≢ line_feed → BeginsLong bytes count → BeginsLong (byte ∷ bytes) (count + 1)
long_more byte bytes count h long =
    let size = long.long in
    record {
      next = byte ∷ long.next;
      rest = long.rest;
      parts =
          with_byte byte bytes (long.next ∷ long.rest) h long.parts;
      long = omega arith;
    }

long_front : (byte : ℕ) (front rest : List ℕ) → HasNoLineFeed (byte ∷ front) → BeginsLong (byte ∷ front ++ rest) (length (byte ∷ front))
long_front byte [] rest h = long_last byte rest (lines_of rest) (All-head (λ b. b ≢ line_feed) byte [] h) refl
long_front byte (next ∷ front) rest h =
    let more = long_front next front rest (All-tail (λ b. b ≢ line_feed) byte (next ∷ front) h) in
    let this = long_more byte (next ∷ front ++ rest) (length (next ∷ front)) (All-head (λ b. b ≢ line_feed) byte (next ∷ front) h) more in
    record { next = this.next; rest = this.rest; parts = this.parts; long = let size = this.long in omega arith }

long_line : (front rest : List ℕ) → HasNoLineFeed front → line_limit < length front → BeginsLong (front ++ rest) (length front)
long_line [] rest h long = absurd (omega arith)
long_line (byte ∷ front) rest h long = long_front byte front rest h

too_long : (bytes : List ℕ) → BeginsTooLong (Some bytes) → BeginsLong bytes (line_limit + 1)
too_long bytes h = by_rest h.rest h.first
  where
    by_rest : (rest : Option (List ℕ)) → Consumes (Some bytes) rest h.front → BeginsLong bytes (line_limit + 1)
    by_rest None first = absurd first
    by_rest (Some rest) first =
        let long = long_line h.front rest h.whole h.long in
        let size = long.long in
        let some = h.long in
        record { next = long.next; rest = long.rest; parts = ap lines_of first ∙ long.parts; long = omega arith }

is_too_long : (read : List (List ℕ)) (version : TextVersion) (next : List ℕ) → line_limit < length next
    → IsLineFaultAfter read version next faults.TooLong
is_too_long [] version next long = inl long
is_too_long (line ∷ read) version next long = inl long

-- the hint on it, after whichever lines
long_hint : (read : List (List ℕ)) (next hint : List ℕ) → hint ≡ line_fault_hint next faults.TooLong → IsHintAfter read next faults.TooLong hint
long_hint [] next hint is = is
long_hint (line ∷ read) next hint is = is

pub long_at : (budget : ℕ) (known : Option (List ℕ)) (read : List (List ℕ)) (f : Followed) (number : ℕ) (old : Option (List ℕ))
    (outcome : CommandOutcome) → IsFollowed read f
    → length read + 1 ≡ number → HasRead known read old → BeginsTooLong old → IsLineRefusal number [] faults.TooLong outcome
    → IsStreamOutcome budget known outcome
long_at budget known read f number old Memory followed count has long is = tt
long_at budget known read f number old (Answered answer bytes) followed count has long is = absurd is
long_at budget known read f number old (Noted answer bytes note) followed count has long is = absurd is
long_at budget known read f number old (Words bytes) followed count has long is = absurd is
long_at budget known read f number old Failed followed count has long is = absurd is
long_at budget None read f number old (Refused bytes hint) followed count has long is = tt
long_at budget (Some text) read f number old (Refused bytes hint) followed count has long is =
    let begins = too_long has.0 (subst BeginsTooLong has.1 long) in
    let size = begins.long in
    refusal_of text read (begins.next ∷ begins.rest) f (line_fault_name faults.TooLong) (string_bytes bytes) (string_bytes hint) followed
    (has.2 ∙ ap (λ (ls : List (List ℕ)). read ++ ls) begins.parts)
    (inl (record {
      next = begins.next;
      rest = begins.rest;
      parts = refl;
      fault = faults.TooLong;
      is_fault = is_too_long read f.version begins.next (omega arith);
      not_memory = is.0;
      name_is = refl;
      hint_is = long_hint read begins.next (string_bytes hint) is.2;
    })) (is.1 ∙ ap (λ (n : ℕ). stream_fault_line n (line_fault_name faults.TooLong)) (sym count))

-- ---- too many lines

pub many_at : (budget : ℕ) (known : Option (List ℕ)) (read : List (List ℕ)) (f : Followed) (number : ℕ) (new : Option (List ℕ))
    (outcome : CommandOutcome) → IsFollowed read f
    → length read ≡ most_lines → length read + 1 ≡ number → HasRead known read new → IsManyRefusal number outcome
    → IsStreamOutcome budget known outcome
many_at budget known read f number new Memory followed many count has is = tt
many_at budget known read f number new (Answered answer bytes) followed many count has is = absurd is
many_at budget known read f number new (Noted answer bytes note) followed many count has is = absurd is
many_at budget known read f number new (Words bytes) followed many count has is = absurd is
many_at budget known read f number new Failed followed many count has is = absurd is
many_at budget None read f number new (Refused bytes hint) followed many count has is = tt
many_at budget (Some text) read f number new (Refused bytes hint) followed many count has is =
    refusal_of text read (lines_of has.0) f too_many_name (string_bytes bytes) (string_bytes hint) followed has.2
    (inr (inr (record { count = many; name_is = refl; hint_is = is.1 })))
    (is.0 ∙ ap (λ (n : ℕ). stream_fault_line n too_many_name) (sym count))

-- ---- the next line was taken, or was not

pub went_on : (known : Option (List ℕ)) (read : List (List ℕ)) (line : List ℕ) (new : Option (List ℕ)) (r : Result Followed CommandOutcome)
    → HasRead known (read ++ line ∷ []) new → IfOk r (IsFollowed (read ++ line ∷ []))
    → IfOk r (λ f. (line : List ℕ) × IsFollowed (read ++ line ∷ []) f × HasRead known (read ++ line ∷ []) new)
went_on known read line new (Ok f) has followed = (line, followed, has)
went_on known read line new (Err outcome) has followed = tt

pub came_out : (budget : ℕ) (known : Option (List ℕ)) (before after : ℕ) (new : Option (List ℕ))
    (r : Result Followed CommandOutcome) → after ≡ before
    → IfErr r (IsStreamOutcome budget known)
    → IfErr r (IsFollowOutcome budget (record {
      old = record { bytes = known; failures = before };
      new = record
          { bytes = new; failures = after };
    }))
came_out budget known before after new (Ok f) sound stopped = tt
came_out budget known before after new (Err outcome) sound stopped = inr (sound, stopped)
