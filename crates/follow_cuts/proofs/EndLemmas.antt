-- The first answer of the calls that are left, and whether keys are tied to others, call by call.
use Rattle.follow_cuts.proofs.Common.{◌≡◌, ℕ, ◌+◌, ◌<◌, ◌≤◌, Bool, true, false, List, length, get_or, Option, Some, None, Vec, Global, inl, inr, refl}
use Rattle.follow_cuts.proofs.Common.{sym, ap, ◌∙◌, subst, ⊎_elim, arith, ◌⊎◌, All, AllPairs, Contains, IfSome, MatchOption, slice_get, le-ltb}
use Rattle.follow_cuts.proofs.Common.{cases_lt, both_ways, same_Some, slice_get_within, All-at, All-from_contains, AllPairs-at, Operation, Response}
use Rattle.follow_cuts.proofs.Common.{is_before, NonePrecedesItself, precedes, Contents, concerns_key, place_of, left_of, IsLeftAt, IsFirstEnded}
use Rattle.follow_cuts.proofs.Common.{EndsFirst, AreTaken, DoesNotTie, AreBranchKeys, IsBranching, HasBranchKey, IsBranchAt, MayComeAt, IsReadAt, kept_at}
use Rattle.follow_cuts.proofs.Common.{Branching, Position, IsRead}
use Rattle.follow_cuts.proofs.LeftLemmas.{left_there, left_in}
use Rattle.follow_cuts.proofs.StepLemmas.{before_less}

pub last_or_before : (n size : ℕ) → n < size + 1 → (n < size) ⊎ (n ≡ size)
last_or_before n size h = ⊎_elim (λ lt. inl lt) (λ ge. inr (omega (arith, h, ge))) (cases_lt n size)

-- calls at later places began later
pub begins_later : (calls : List Operation) (n m : ℕ) (a o : Operation) → AllPairs (λ a b. a.inv < b.inv) calls → n ≤ m
    → slice_get calls n ≡ Some a → slice_get calls m ≡ Some o → a.inv ≤ o.inv
begins_later calls n m a o rising le here there = ⊎_elim
    (λ (less : n < m).
    let later : a.inv < o.inv = AllPairs-at (λ (a b : Operation). a.inv < b.inv) calls n m a o rising less here there in omega (arith, later))
    (λ (ge : m ≤ n).
    let same_place : n ≡ m = omega (arith, le, ge) in
    let same : a ≡ o = same_Some a o (sym here ∙ (ap (slice_get calls) same_place ∙ there)) in
    let inv_same : a.inv ≡ o.inv = ap (λ (p : Operation). p.inv) same in omega (arith, inv_same))
    (cases_lt n m)

-- what is found among the calls so far
pub record IsFoundAt (calls : List Operation) (taken : List Bool) (moment earliest place answered : ℕ) : Type 0 where
  pub call : Operation
  pub is_left : IsLeftAt calls taken place call
  pub answer : place_of call.response ≡ Some answered
  pub early : answered < moment
  pub same : earliest ≡ answered

pub record EndsSoFar (calls : List Operation) (taken : List Bool) (moment size earliest : ℕ) (first : Option (ℕ × ℕ)) : Type 0 where
  pub within : earliest ≤ moment
  pub before : (n : ℕ) (o : Operation) → n < size → IsLeftAt calls taken n o → is_before o.response earliest ≡ false
  pub is : MatchOption first (earliest ≡ moment) (λ found. IsFoundAt calls taken moment earliest found.0 found.1)

pub ends_skip : (calls : List Operation) (taken : List Bool) (moment size earliest : ℕ) (first : Option (ℕ × ℕ))
    → ((o : Operation) → IsLeftAt calls taken size o → is_before o.response earliest ≡ false)
    → EndsSoFar calls taken moment size earliest first → EndsSoFar calls taken moment (size + 1) earliest first
ends_skip calls taken moment size earliest first late so_far = record {
  within = so_far.within;
  before = λ n o less is_left. ⊎_elim
      (λ lt. so_far.before n o lt is_left)
      (λ same. late o (subst (λ (m : ℕ). IsLeftAt calls taken m o) same is_left))
      (last_or_before n size less);
  is = so_far.is;
}

-- none of the calls that are taken is left
pub none_left_there : (calls : List Operation) (taken : List Bool) (from to n : ℕ) (o : Operation) → AreTaken taken from to → from ≤ n → n < to
    → IsLeftAt calls taken n o → ⊥
none_left_there calls taken from to n o are ge less is_left = both_ways (get_or taken n false) is_left.free (are.each n ge less)

pub ends_taken : (calls : List Operation) (taken : List Bool) (moment size to earliest : ℕ) (first : Option (ℕ × ℕ))
    → AreTaken taken size to → EndsSoFar calls taken moment size earliest first → EndsSoFar calls taken moment to earliest first
ends_taken calls taken moment size to earliest first are so_far = record {
  within = so_far.within;
  before = λ n o less is_left. ⊎_elim
      (λ lt. so_far.before n o lt is_left)
      (λ ge. absurd (none_left_there calls taken size to n o are ge less is_left))
      (cases_lt n size);
  is = so_far.is;
}

not_before_itself : (r : Option Response) (answered : ℕ) → place_of r ≡ Some answered → is_before r answered ≡ false
not_before_itself None answered is = refl
not_before_itself (Some response) answered is =
    let same : response.res ≡ answered = same_Some response.res answered is in le-ltb response.res answered (omega (arith, same))

pub ends_take : (calls : List Operation) (taken : List Bool) (moment size earliest : ℕ) (first : Option (ℕ × ℕ)) (a : Operation) (answered : ℕ)
    → IsLeftAt calls taken size a → place_of a.response ≡ Some answered → answered < earliest
    → EndsSoFar calls taken moment size earliest first → EndsSoFar calls taken moment (size + 1) answered (Some (size, answered))
ends_take calls taken moment size earliest first a answered is_left answer less so_far = record {
  within = omega (arith, less, so_far.within);
  before = λ n o within o_left. ⊎_elim
      (λ lt. before_less o.response earliest answered (omega (arith, less)) (so_far.before n o lt o_left))
      (λ same.
      let one : a ≡ o = same_Some a o (sym is_left.here ∙ (ap (slice_get calls) (sym same) ∙ o_left.here)) in
      subst (λ (p : Operation). is_before p.response answered ≡ false) one (not_before_itself a.response answered answer))
      (last_or_before n size within);
  is = record { call = a; is_left = is_left; answer = answer; early = omega (arith, less, so_far.within); same = refl };
}

-- if all others are late, the answer is known
ends_are : (calls : List Operation) (taken : List Bool) (moment size earliest : ℕ) (first : Option (ℕ × ℕ))
    → ((n : ℕ) (o : Operation) → size ≤ n → IsLeftAt calls taken n o → is_before o.response earliest ≡ false)
    → EndsSoFar calls taken moment size earliest first
    → MatchOption first ((n : ℕ) (o : Operation) → IsLeftAt calls taken n o → is_before o.response moment ≡ false)
    (λ found. IsFirstEnded calls taken found.0 found.1 × (found.1 < moment))
ends_are calls taken moment size earliest first late so_far = by_first first so_far.is
  where
    all_late : (n : ℕ) (o : Operation) → IsLeftAt calls taken n o → is_before o.response earliest ≡ false
    all_late n o is_left = ⊎_elim (λ lt. so_far.before n o lt is_left) (λ ge. late n o ge is_left) (cases_lt n size)

    by_first : (first : Option (ℕ × ℕ)) → MatchOption first (earliest ≡ moment) (λ found. IsFoundAt calls taken moment earliest found.0 found.1)
        → MatchOption first ((n : ℕ) (o : Operation) → IsLeftAt calls taken n o → is_before o.response moment ≡ false)
        (λ found. IsFirstEnded calls taken found.0 found.1 × (found.1 < moment))
    by_first None same = λ n o is_left. subst (λ (m : ℕ). is_before o.response m ≡ false) same (all_late n o is_left)
    by_first (Some found) is = (
      record {
        call = is.call;
        is_left = is.is_left;
        answer = is.answer;
        first = λ n o is_left. subst (λ (m : ℕ). is_before o.response m ≡ false) is.same (all_late n o is_left);
      },
      is.early,
    )

pub ends_here : (calls : List Operation) (taken : List Bool) (moment size earliest : ℕ) (first : Option (ℕ × ℕ)) (a : Operation)
    → AllPairs (λ a b. a.inv < b.inv) calls → NonePrecedesItself calls → slice_get calls size ≡ Some a → earliest ≤ a.inv
    → EndsSoFar calls taken moment size earliest first
    → MatchOption first ((n : ℕ) (o : Operation) → IsLeftAt calls taken n o → is_before o.response moment ≡ false)
    (λ found. IsFirstEnded calls taken found.0 found.1 × (found.1 < moment))
ends_here calls taken moment size earliest first a rising apart here less =
    ends_are calls taken moment size earliest first (λ n o ge is_left.
    let later : a.inv ≤ o.inv = begins_later calls size n a o rising ge here is_left.here in
    before_less o.response o.inv earliest (omega (arith, less, later)) (All-at (λ (p : Operation). precedes p p ≡ false) calls n o apart is_left.here))

pub ends_all : (calls : List Operation) (taken : List Bool) (moment size earliest : ℕ) (first : Option (ℕ × ℕ)) → length calls ≤ size
    → EndsSoFar calls taken moment size earliest first
    → MatchOption first ((n : ℕ) (o : Operation) → IsLeftAt calls taken n o → is_before o.response moment ≡ false)
    (λ found. IsFirstEnded calls taken found.0 found.1 × (found.1 < moment))
ends_all calls taken moment size earliest first whole =
    ends_are calls taken moment size earliest first (λ n o ge is_left.
    let within : n < length calls = slice_get_within calls n o is_left.here in absurd (omega (arith, within, ge, whole)))

-- ---- keys

-- none of the calls so far ties keys to others
abbrev pub NoneTies : List Operation → List Bool → ℕ → ℕ → List ℕ → Contents → Type 0
NoneTies calls taken size answered keys pairs =
    (n : ℕ) (o : Operation) → n < size → IsLeftAt calls taken n o → o.inv ≤ answered → DoesNotTie keys pairs o

pub not_tied_more : (calls : List Operation) (taken : List Bool) (size answered : ℕ) (keys : List ℕ) (pairs : Contents) (a : Operation)
    → slice_get calls size ≡ Some a → DoesNotTie keys pairs a → NoneTies calls taken size answered keys pairs
    → NoneTies calls taken (size + 1) answered keys pairs
not_tied_more calls taken size answered keys pairs a here alone so_far n o less is_left early = ⊎_elim
    (λ lt. so_far n o lt is_left early)
    (λ same.
    let one : a ≡ o = same_Some a o (sym here ∙ (ap (slice_get calls) (sym same) ∙ is_left.here)) in
    subst (DoesNotTie keys pairs) one alone)
    (last_or_before n size less)

pub not_tied_taken : (calls : List Operation) (taken : List Bool) (size to answered : ℕ) (keys : List ℕ) (pairs : Contents)
    → AreTaken taken size to → NoneTies calls taken size answered keys pairs → NoneTies calls taken to answered keys pairs
not_tied_taken calls taken size to answered keys pairs are so_far n o less is_left early = ⊎_elim
    (λ lt. so_far n o lt is_left early)
    (λ ge. absurd (none_left_there calls taken size to n o are ge less is_left))
    (cases_lt n size)

pub not_tied_after : (calls : List Operation) (taken : List Bool) (size answered : ℕ) (keys : List ℕ) (pairs : Contents) (a : Operation)
    → AllPairs (λ a b. a.inv < b.inv) calls → slice_get calls size ≡ Some a → answered < a.inv → NoneTies calls taken size answered keys pairs
    → (n : ℕ) (o : Operation) → IsLeftAt calls taken n o → o.inv ≤ answered → DoesNotTie keys pairs o
not_tied_after calls taken size answered keys pairs a rising here late so_far n o is_left early = ⊎_elim
    (λ lt. so_far n o lt is_left early)
    (λ ge. let later : a.inv ≤ o.inv = begins_later calls size n a o rising ge here is_left.here in absurd (omega (arith, late, later, early)))
    (cases_lt n size)

-- ---- where a walk branches

pub cut_left : (moment : ℕ) (calls : List Operation) (taken : List Bool)
    → ((n : ℕ) (o : Operation) → IsLeftAt calls taken n o → is_before o.response moment ≡ false)
    → All (λ o. is_before o.response moment ≡ false) (left_of calls taken)
cut_left moment calls taken late =
    All-from_contains (λ (o : Operation). is_before o.response moment ≡ false) (left_of calls taken)
    (λ o o_in. let (n, is) = left_there calls taken o o_in in late n o is)

pub ends_first : (calls : List Operation) (taken : List Bool) (place answered : ℕ) → (found : IsFirstEnded calls taken place answered)
    → EndsFirst answered (left_of calls taken) found.call
ends_first calls taken place answered found = record {
  is_left = left_in calls taken place found.call found.is_left.here found.is_left.free;
  answer = found.answer;
  first = λ o o_in. let (n, is) = left_there calls taken o o_in in found.first n o is;
}

-- no call that is left, and began before that answer, ties keys to others
abbrev pub NotTied : List Operation → Position → ℕ → List ℕ → Type 0
NotTied calls position answered keys =
    (n : ℕ) (o : Operation) → IsLeftAt calls position.taken.items n o → o.inv ≤ answered → DoesNotTie keys position.map o

pub are_branch_keys : (calls : List Operation) (position : Position) (answered : ℕ) (ended : Operation) (key : ℕ) (keys : List ℕ)
    → concerns_key ended.call key ≡ true → Contains keys key → NotTied calls position answered keys
    → AreBranchKeys answered (kept_at calls position) ended keys
are_branch_keys calls position answered ended key keys concerned key_in none = record {
  concerned = (key, key_in, concerned);
  untied = λ o o_in early. let (n, is) = left_there calls position.taken.items o o_in in none n o is early;
}

pub branches_there : (calls : List Operation) (position : Position) (place answered : ℕ) (o : Operation) (keys : Option (Vec ℕ Global))
    → IsFirstEnded calls position.taken.items place answered → slice_get calls place ≡ Some o
    → IfSome keys (λ v. AreBranchKeys answered (kept_at calls position) o v.items)
    → IsBranching (kept_at calls position) (record { answered = answered; keys = keys })
branches_there calls position place answered o keys first here are = record {
  ended = o;
  first = subst (EndsFirst answered (left_of calls position.taken.items)) (same_Some first.call o (sym first.is_left.here ∙ here))
      (ends_first calls position.taken.items place answered first);
  at_keys = are;
}

-- a read that may come next
pub read_at : (answered : ℕ) (calls : List Operation) (position : Position) (n : ℕ) (a : Operation) → slice_get calls n ≡ Some a → IsRead a
    → MayComeAt answered calls position n → IsReadAt answered calls position n
read_at answered calls position n a here quiet may = record {
  may = may;
  quiet = subst IsRead (same_Some a may.call (sym here ∙ may.is_left.here)) quiet;
}

-- a call that may come next at the keys at which a walk branches
pub branch_at : (b : Branching) (calls : List Operation) (position : Position) (n : ℕ) (a : Operation) → slice_get calls n ≡ Some a
    → HasBranchKey b a → MayComeAt b.answered calls position n → IsBranchAt b calls position n
branch_at b calls position n a here of_key may = record {
  may = may;
  of_key = subst (HasBranchKey b) (same_Some a may.call (sym here ∙ may.is_left.here)) of_key;
}

pub branch_key_at : (b : Branching) (calls : List Operation) (position : Position) (n : ℕ) (a : Operation) → slice_get calls n ≡ Some a
    → IsBranchAt b calls position n → HasBranchKey b a
branch_key_at b calls position n a here is = subst (HasBranchKey b) (same_Some is.may.call a (sym is.may.is_left.here ∙ here)) is.of_key
