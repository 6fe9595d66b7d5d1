-- Bisection finds one thing in a history, and the judge's verdicts on the same events have one word.
use Rattle.explain_locate.proofs.Common.{◌≡◌, ℕ, ◌<◌, List, [], ◌∷◌, length, take, Option, Some, inl, inr, refl, sym, subst, arith, IsSomeAnd, take_all}
use Rattle.explain_locate.proofs.Common.{none-some, IsSomeAnd-within, Event, Operation, HistoryView, IsHistory, operations, Contents, IsLinearizable}
use Rattle.explain_locate.proofs.Common.{IsLinearizableHistory, PrefixesAreHistories, prefix_of, IsAnswerOf, OneExactVerdict, found, spent, upper, lower}
use Rattle.explain_locate.proofs.Common.{IsYes, IsNo, IsUndecided, IsJudged, IsJudgedWhole, IsBisected, IsLeftOpen, IsRefutedWith, IsLostBetween}
use Rattle.std.proofs.lemmas.List.Elements.{All-nil}
use Rattle.judge.specs.declared.verdict.Verdict.{Verdict}
use Rattle.judge.specs.declared.verdict.Verdict.TheVariants.{Yes, No, Undecided}
use Rattle.judge.specs.Exact.{AreSameVerdict, IsExactVerdict}
use Rattle.judge.specs.Shown.{IsShown}

-- all first events of a history are its events
pub whole_events : (history : HistoryView) → take (length history.events) history.events ≡ history.events
whole_events history = take_all (length history.events) history.events (omega arith)

-- a verdict on a history is one on all of its first events
pub judged_whole : (HasWord : Verdict → Type 0) (budget : ℕ) (history : HistoryView) (verdict : Verdict) → HasWord verdict
    → IsExactVerdict history.start budget (operations history.events) verdict → IsJudgedWhole HasWord budget history
judged_whole HasWord budget history verdict word exact = record {
  verdict = verdict;
  exact = subst (λ (events : List Event). IsExactVerdict history.start budget (operations events) verdict) (sym (whole_events history)) exact;
  word = word;
}

-- what a verdict shows
module _ (budget : ℕ) (start : Contents) (calls : List Operation) where
  pub shown_yes : (verdict : Verdict) → IsYes verdict → IsShown start budget calls verdict → IsLinearizable start calls
  shown_yes (Yes order) word shown = (order.items, shown.is_order)
  shown_yes (No segment) word shown = absurd word
  shown_yes (Undecided segment) word shown = absurd word

  pub shown_no : (verdict : Verdict) → IsNo verdict → IsShown start budget calls verdict → IsLinearizable start calls → ⊥
  shown_no (Yes order) word shown = absurd word
  shown_no (No segment) word shown = shown.no_order
  shown_no (Undecided segment) word shown = absurd word

-- no events have an order
no_events : (start : Contents) → IsLinearizable start (operations [])
no_events start = (
  [],
  record {
    legal_order = record {
      known = All-nil (λ n. n < 0);
      distinct = λ i j d before inside. absurd (omega arith);
      precedence = λ i j d before inside. absurd (omega arith);
      legal = tt;
    };
    complete = λ n completed. absurd completed;
  },
)

-- a history without order loses its orders between no events and all of them
pub lost_in_whole : (history : HistoryView) → (IsLinearizableHistory history → ⊥) → IsLostBetween history 0 (length history.events)
lost_in_whole history none = record {
  apart = some history.events none;
  within = omega arith;
  before = no_events history.start;
  after = λ has. none (subst (λ (events : List Event). IsLinearizable history.start (operations events)) (whole_events history) has);
}
  where
    some : (events : List Event) → (IsLinearizable history.start (operations events) → ⊥) → 0 < length events
    some [] none = absurd (none (no_events history.start))
    some (e ∷ events) none = omega arith

-- verdicts that are the same have one word
yes_no : (a b : Verdict) → AreSameVerdict a b → IsYes a → IsNo b → ⊥
yes_no (Yes v) (Yes w) same y n = n
yes_no (Yes v) (No w) same y n = same
yes_no (Yes v) (Undecided w) same y n = same
yes_no (No v) b same y n = y
yes_no (Undecided v) b same y n = y

yes_undecided : (a b : Verdict) → AreSameVerdict a b → IsYes a → IsUndecided b → ⊥
yes_undecided (Yes v) (Yes w) same y und = und
yes_undecided (Yes v) (No w) same y und = und
yes_undecided (Yes v) (Undecided w) same y und = same
yes_undecided (No v) b same y und = y
yes_undecided (Undecided v) b same y und = y

no_undecided : (a b : Verdict) → AreSameVerdict a b → IsNo a → IsUndecided b → ⊥
no_undecided (No v) (Yes w) same n und = und
no_undecided (No v) (No w) same n und = und
no_undecided (No v) (Undecided w) same n und = same
no_undecided (Yes v) b same n und = n
no_undecided (Undecided v) b same n und = n

module _ (one_verdict : OneExactVerdict) (prefixes : PrefixesAreHistories) (budget : ℕ) (history : HistoryView) (is : IsHistory history) where
  -- two verdicts on the same number of first events do not say different words
  same_word : (A B : Verdict → Type 0) → ((a b : Verdict) → AreSameVerdict a b → A a → B b → ⊥) → (count : ℕ)
      → IsJudged A budget history count → IsJudged B budget history count → ⊥
  same_word A B apart count first second =
      apart first.verdict second.verdict
      (one_verdict budget (prefix_of history count) first.verdict second.verdict (prefixes history count is) first.exact second.exact)
      first.word second.word

  pub not_yes_and_no : {count : ℕ} → IsJudged IsYes budget history count → IsJudged IsNo budget history count → ⊥
  not_yes_and_no {count = count} y n = same_word IsYes IsNo yes_no count y n

  pub not_yes_and_undecided : {count : ℕ} → IsJudged IsYes budget history count → IsJudged IsUndecided budget history count → ⊥
  not_yes_and_undecided {count = count} y und = same_word IsYes IsUndecided yes_undecided count y und

  pub not_no_and_undecided : {count : ℕ} → IsJudged IsNo budget history count → IsJudged IsUndecided budget history count → ⊥
  not_no_and_undecided {count = count} n und = same_word IsNo IsUndecided no_undecided count n und

  -- bisection finds one thing
  pub one_bisected : {low high : ℕ} {a b : Option ℕ} → IsBisected budget history low high a → IsBisected budget history low high b → a ≡ b
  one_bisected (found next) (found again) = refl
  one_bisected (found next) (spent wide und) = absurd (omega arith)
  one_bisected (found next) (upper wide y rest) = absurd (omega arith)
  one_bisected (found next) (lower wide n rest) = absurd (omega arith)
  one_bisected (spent wide und) (found next) = absurd (omega arith)
  one_bisected (spent wide und) (spent again und2) = refl
  one_bisected (spent wide und) (upper again y rest) = absurd (not_yes_and_undecided y und)
  one_bisected (spent wide und) (lower again n rest) = absurd (not_no_and_undecided n und)
  one_bisected (upper wide y rest) (found next) = absurd (omega arith)
  one_bisected (upper wide y rest) (spent again und) = absurd (not_yes_and_undecided y und)
  one_bisected (upper wide y rest) (upper again yes2 rest2) = one_bisected rest rest2
  one_bisected (upper wide y rest) (lower again n rest2) = absurd (not_yes_and_no y n)
  one_bisected (lower wide n rest) (found next) = absurd (omega arith)
  one_bisected (lower wide n rest) (spent again und) = absurd (not_no_and_undecided n und)
  one_bisected (lower wide n rest) (upper again y rest2) = absurd (not_yes_and_no y n)
  one_bisected (lower wide n rest) (lower again no2 rest2) = one_bisected rest rest2

  -- the judge's verdicts leave nothing open if the history is judged a yes
  pub open_but_yes : IsLeftOpen budget history → IsJudgedWhole IsYes budget history → ⊥
  open_but_yes (inl und) y = not_yes_and_undecided y und
  open_but_yes (inr refuted) y = not_yes_and_no y refuted.refuted

  -- or if bisection finds an event
  pub open_but_found : (event : ℕ) → IsLeftOpen budget history → IsRefutedWith budget history (Some event) → ⊥
  open_but_found event (inl und) here = not_no_and_undecided here.refuted und
  open_but_found event (inr refuted) here =
      none-some event (one_bisected refuted.bisected here.bisected)

-- the answer of a call is at one of the calls
pub answer_within : (events : List Event) (number event : ℕ) → IsAnswerOf events number event → number < length (operations events)
answer_within events number event is =
    IsSomeAnd-within (operations events) number (λ a. IsSomeAnd a.response (λ response. response.res ≡ event)) is
