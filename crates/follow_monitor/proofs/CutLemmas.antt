-- An order of the calls of a whole, cut to the calls of its first events.
use Rattle.events.specs.declared.event.Reply.TheVariants as replies
use Rattle.follow_monitor.proofs.Common.{IsExtendedResponse, IsExtended, AreRelatedAs, AllPairs-from_filter_map, AllPairs-filter_map, AllPairs-weaker}
use Rattle.follow_monitor.proofs.Common.{AllPairs-nil, AllPairs-head, AllPairs-tail, Contains-first, Contains-later, Contains-nil, Contains-cases}
use Rattle.follow_monitor.proofs.Common.{All-from_contains, slice_get-below, some_at, is_completed, is_before, precedes, Call, Reply, Operation}
use Rattle.follow_monitor.proofs.Common.{Response, Contents, after, after_reply, after_call, IsLegalCall, IsLegal, calls_at, KeepsPrecedence}
use Rattle.follow_monitor.proofs.Common.{IsCompletedAt, IsOrder, ◌≡◌, ℕ, ◌<◌, ◌≤◌, Bool, true, false, cond, List, [], ◌∷◌, length, Option, Some, None}
use Rattle.follow_monitor.proofs.Common.{refl, sym, ap, ◌∙◌, subst, ⊎_elim, inr, IsTrue, arith, lt-ltb, false≢true, All-nil, All-cons, All-head}
use Rattle.follow_monitor.proofs.Common.{All-tail, All-contains, none-some, slice_get_within, ◌⊎◌, slice_get, IsSomeAnd, All, AllPairs, Contains}
use Rattle.std.proofs.lemmas.List.Kept.{AllPairs-cons}
use Rattle.std.specs.Prelude.{◌≢◌, is_some}

-- whether a reply is `refused`
abbrev pub is_refused : Reply → Bool
is_refused replies.None = false
is_refused (replies.Some value) = false
is_refused (replies.Pairs pairs) = false
is_refused replies.Refused = true
is_refused replies.Done = false
is_refused replies.Found = false
is_refused replies.Other = false

-- whether a call without a response is refused in the whole
abbrev pub is_refused_later : Option Response → Option Response → Bool
is_refused_later None None = false
is_refused_later None (Some response) = is_refused response.reply
is_refused_later (Some response) whole = false

-- the number of a call, before those that are kept of the numbers after it
abbrev pub keep_first : ℕ → Option Operation → Option Operation → List ℕ → List ℕ
keep_first n None whole rest = []
keep_first n (Some a) None rest = []
keep_first n (Some a) (Some b) rest = cond (is_refused_later a.response b.response) rest (n ∷ rest)

-- the numbers up to the first that the part does not have, without the calls that are refused later
abbrev pub kept : List Operation → List Operation → List ℕ → List ℕ
kept part whole [] = []
kept part whole (n ∷ order) = keep_first n (slice_get part n) (slice_get whole n) (kept part whole order)

-- what is kept after a number is that number or was kept before
from_first : (n : ℕ) (a b : Option Operation) (rest : List ℕ) (x : ℕ) → Contains (keep_first n a b rest) x → (n ≡ x) ⊎ Contains rest x
from_first n None b rest x h = absurd (Contains-nil x h)
from_first n (Some a) None rest x h = absurd (Contains-nil x h)
from_first n (Some a) (Some b) rest x h = by_case (is_refused_later a.response b.response) h
  where
    by_case : (c : Bool) → Contains (cond c rest (n ∷ rest)) x → (n ≡ x) ⊎ Contains rest x
    by_case true k = inr k
    by_case false k = Contains-cases n rest x k

-- what is kept of a list is in it
Contains-from_kept : (part whole : List Operation) (order : List ℕ) (x : ℕ) → Contains (kept part whole order) x → Contains order x
Contains-from_kept part whole [] x h = h
Contains-from_kept part whole (n ∷ order) x h =
    ⊎_elim (λ is. subst (Contains (n ∷ order)) is (Contains-first n order))
    (λ later. Contains-later n order x (Contains-from_kept part whole order x later))
    (from_first n (slice_get part n) (slice_get whole n) (kept part whole order) x h)

-- a number of the part comes before numbers of the part
known_first : (count n : ℕ) (a b : Option Operation) (rest : List ℕ) → (a ≢ None → n < count) → All (λ x. x < count) rest
    → All (λ x. x < count) (keep_first n a b rest)
known_first count n None b rest here known = All-nil (λ x. x < count)
known_first count n (Some a) None rest here known = All-nil (λ x. x < count)
known_first count n (Some a) (Some b) rest here known = by_case (is_refused_later a.response b.response)
  where
    by_case : (c : Bool) → All (λ x. x < count) (cond c rest (n ∷ rest))
    by_case true = known
    by_case false = All-cons (λ x. x < count) n rest (here (λ e. none-some a (sym e))) known

-- what is there is in reach
within_part : (part : List Operation) (n : ℕ) (o : Option Operation) → slice_get part n ≡ o → o ≢ None → n < length part
within_part part n None is some = absurd (some refl)
within_part part n (Some a) is some = slice_get_within part n a is

kept-known : (part whole : List Operation) (order : List ℕ) → All (λ n. n < length part) (kept part whole order)
kept-known part whole [] = All-nil (λ n. n < length part)
kept-known part whole (n ∷ order) =
    known_first (length part) n (slice_get part n) (slice_get whole n) (kept part whole order)
    (within_part part n (slice_get part n) refl) (kept-known part whole order)

-- what holds of each two numbers of a list holds of those that are kept
pairs_first : (R : ℕ → ℕ → Type 0) (n : ℕ) (a b : Option Operation) (rest : List ℕ) → All (R n) rest → AllPairs R rest
    → AllPairs R (keep_first n a b rest)
pairs_first R n None b rest first pairs = AllPairs-nil R
pairs_first R n (Some a) None rest first pairs = AllPairs-nil R
pairs_first R n (Some a) (Some b) rest first pairs = by_case (is_refused_later a.response b.response)
  where
    by_case : (c : Bool) → AllPairs R (cond c rest (n ∷ rest))
    by_case true = pairs
    by_case false = AllPairs-cons R n rest first pairs

AllPairs-kept : (R : ℕ → ℕ → Type 0) (part whole : List Operation) (order : List ℕ) → AllPairs R order → AllPairs R (kept part whole order)
AllPairs-kept R part whole [] h = h
AllPairs-kept R part whole (n ∷ order) h =
    pairs_first R n (slice_get part n) (slice_get whole n) (kept part whole order)
    (All-from_contains (R n) (kept part whole order)
    (λ x is. All-contains (R n) order x (AllPairs-head R n order h) (Contains-from_kept part whole order x is)))
    (AllPairs-kept R part whole order (AllPairs-tail R n order h))

-- each call of the part is a call of the whole at the same place, extended
abbrev pub Extends : ℕ → List Operation → List Operation → Type 0
Extends place part whole = (n : ℕ) (a : Operation) → slice_get part n ≡ Some a → (b : Operation) × (slice_get whole n ≡ Some b)
    × IsExtended place a b

-- the other calls of the whole are invoked later
abbrev pub InvokesLater : ℕ → List Operation → List Operation → Type 0
InvokesLater place part whole = (n : ℕ) (b : Operation) → slice_get part n ≡ None → slice_get whole n ≡ Some b → place ≤ b.inv

-- what precedes in the part precedes in the whole
not_preceding : (place : ℕ) (response whole : Option Response) (inv later : ℕ) → IsExtendedResponse place response whole → inv ≡ later
    → is_before whole later ≡ false → is_before response inv ≡ false
not_preceding place None whole inv later extended same h = refl
not_preceding place (Some response) whole inv later extended same h = rw (same) (rw (extended.0) at h)

kept-precedence : (place : ℕ) (part whole : List Operation) (order : List ℕ) → Extends place part whole
    → KeepsPrecedence (calls_at whole order)
    → KeepsPrecedence (calls_at part (kept part whole order))
kept-precedence place part whole order extends h =
    let R = λ (a : Operation) (b : Operation). precedes b a ≡ false in
    AllPairs-filter_map R (slice_get part) (kept part whole order)
    (AllPairs-weaker (AreRelatedAs R (slice_get whole)) (AreRelatedAs R (slice_get part)) (kept part whole order)
    (λ m n m_is n_is related a b first second.
    let (a2, a_at, a_is) = extends m a first in
    let (b2, b_at, b_is) = extends n b second in
    not_preceding place b.response b2.response a.inv a2.inv b_is.response a_is.inv (related a2 b2 a_at b_at))
    (AllPairs-kept (AreRelatedAs R (slice_get whole)) part whole order (AllPairs-from_filter_map R (slice_get whole) order h)))

-- a refused call changes nothing
refused_changes_nothing : (m : Contents) (call : Call) (reply : Reply) → is_refused reply ≡ true → after_reply m call reply ≡ m
refused_changes_nothing m call replies.None h = absurd (false≢true h)
refused_changes_nothing m call (replies.Some value) h = absurd (false≢true h)
refused_changes_nothing m call (replies.Pairs pairs) h = absurd (false≢true h)
refused_changes_nothing m call replies.Refused h = refl
refused_changes_nothing m call replies.Done h = absurd (false≢true h)
refused_changes_nothing m call replies.Found h = absurd (false≢true h)
refused_changes_nothing m call replies.Other h = absurd (false≢true h)

-- any other is done
others_are_done : (m : Contents) (call : Call) (reply : Reply) → is_refused reply ≡ false → after_reply m call reply ≡ after m call
others_are_done m call replies.None h = refl
others_are_done m call (replies.Some value) h = refl
others_are_done m call (replies.Pairs pairs) h = refl
others_are_done m call replies.Refused h = absurd (false≢true (sym h))
others_are_done m call replies.Done h = refl
others_are_done m call replies.Found h = refl
others_are_done m call replies.Other h = refl

-- a call that is left out changes nothing in the whole
left_out : (m : Contents) (call : Call) (response whole : Option Response) → is_refused_later response whole ≡ true
    → after_call m call whole ≡ m
left_out m call None None h = absurd (false≢true h)
left_out m call None (Some response) h = refused_changes_nothing m call response.reply h
left_out m call (Some response) whole h = absurd (false≢true h)

-- a call that stays leaves the same pairs in the part
stays : (place : ℕ) (m : Contents) (call : Call) (response whole : Option Response) → IsExtendedResponse place response whole
    → is_refused_later response whole ≡ false → after_call m call whole ≡ after_call m call response
stays place m call None None extended h = refl
stays place m call None (Some response) extended h = others_are_done m call response.reply h
stays place m call (Some response) whole extended h = ap (after_call m call) extended.0

-- a call that stays is legal in the part if it is legal in the whole
stays_legal : (place : ℕ) (m : Contents) (call : Call) (response whole : Option Response) → IsExtendedResponse place response whole
    → IsLegalCall m call whole → IsLegalCall m call response
stays_legal place m call None whole extended h = tt
stays_legal place m call (Some response) whole extended h = subst (IsLegalCall m call) extended.0 h

-- the kept calls are legal in the part
kept-legal : (place : ℕ) (part whole : List Operation) (m : Contents) (order : List ℕ) → Extends place part whole
    → IsLegal m (calls_at whole order)
    → IsLegal m (calls_at part (kept part whole order))
kept-legal place part whole m [] extends legal = tt
kept-legal place part whole m (n ∷ order) extends legal =
    by_part (λ m h. kept-legal place part whole m order extends h) (slice_get part n) refl
  where
    Goes : Type 0
    Goes = (m : Contents) → IsLegal m (calls_at whole order) → IsLegal m (calls_at part (kept part whole order))

    by_test : Goes → (a b : Operation) → slice_get part n ≡ Some a → IsExtended place a b → IsLegalCall m b.call b.response
        → IsLegal (after_call m b.call b.response) (calls_at whole order) → (c : Bool) → is_refused_later a.response b.response ≡ c
        → IsLegal m (calls_at part (cond c (kept part whole order) (n ∷ kept part whole order)))
    by_test go a b here extended first rest true test =
        go m (subst (λ (next : Contents). IsLegal next (calls_at whole order)) (left_out m b.call a.response b.response test) rest)
    by_test go a b here extended first rest false test =
        let next = stays place m b.call a.response b.response extended.response test in
        let done : after_call m b.call b.response ≡ after_call m a.call a.response =
        next ∙ ap (λ (call : Call). after_call m call a.response) (sym extended.call) in
        let behind = go (after_call m a.call a.response) (subst (λ (next : Contents). IsLegal next (calls_at whole order)) done rest) in
        let now = subst (λ (call : Call). IsLegalCall m call a.response) (sym extended.call)
        (stays_legal place m b.call a.response b.response extended.response first) in
        rw here (now, behind)

    by_part : Goes → (o : Option Operation) → slice_get part n ≡ o
        → IsLegal m (calls_at part (keep_first n o (slice_get whole n) (kept part whole order)))
    by_part go None here = tt
    by_part go (Some a) here =
        let (b, b_at, extended) = extends n a here in
        let both : IsLegal m (b ∷ calls_at whole order) = rw b_at at legal in
        rw b_at (by_test go a b here extended both.0 both.1 (is_refused_later a.response b.response) refl)

-- a call that the part has completed
abbrev IsDoneIn : List Operation → ℕ → Type 0
IsDoneIn part n = (a : Operation) × (response : Response) × (slice_get part n ≡ Some a) × (a.response ≡ Some response)

-- is among the kept ones
stays_first : (n : ℕ) (a b : Operation) (response : Response) (rest : List ℕ) → a.response ≡ Some response
    → Contains (cond (is_refused_later a.response b.response) rest (n ∷ rest)) n
stays_first n a b response rest is = rw is (Contains-first n rest)

stays_later : (m n : ℕ) (c : Bool) (rest : List ℕ) → Contains rest n → Contains (cond c rest (m ∷ rest)) n
stays_later m n true rest h = h
stays_later m n false rest h = Contains-later m rest n h

-- if an order keeps precedence, no call that the part has completed comes after one that the part
-- has not
clash : (place : ℕ) (response : Response) (other : Option Response) (inv : ℕ) → IsExtendedResponse place (Some response) other → place ≤ inv
    → is_before other inv ≡ false → ⊥
clash place response other inv extended later h =
    let before : response.res < inv = omega (arith, extended.1) in
    false≢true (sym (rw (extended.0) at h) ∙ lt-ltb response.res inv before)

kept-complete : (place : ℕ) (part whole : List Operation) (order : List ℕ) (n : ℕ) → Extends place part whole
    → InvokesLater place part whole
    → All (λ n. n < length whole) order → AllPairs (AreRelatedAs (λ a b. precedes b a ≡ false) (slice_get whole)) order
    → IsDoneIn part n → Contains order n → Contains (kept part whole order) n
kept-complete place part whole [] n extends later known keeps done h = h
kept-complete place part whole (m ∷ order) n extends later known keeps done h =
    ⊎_elim (λ is. here is) (λ behind. by_part
    (kept-complete place part whole order n extends later (All-tail (λ n. n < length whole) m order known)
    (AllPairs-tail R m order keeps) done behind)
    (slice_get part m) refl behind) (Contains-cases m order n h)
  where
    R : ℕ → ℕ → Type 0
    R = AreRelatedAs (λ a b. precedes b a ≡ false) (slice_get whole)

    here : m ≡ n → Contains (kept part whole (m ∷ order)) n
    here is =
        let (a, response, at, answered) = done in
        let (b, b_at, extended) = extends n a at in
        subst (λ k. Contains (keep_first k (slice_get part k) (slice_get whole k) (kept part whole order)) n) (sym is)
        (rw (at, b_at) (stays_first n a b response (kept part whole order) answered))

    by_part : Contains (kept part whole order) n → (o : Option Operation) → slice_get part m ≡ o → Contains order n
        → Contains (keep_first m o (slice_get whole m) (kept part whole order)) n
    by_part rest None gone behind =
        let (a, response, at, answered) = done in
        let (b, b_at, extended) = extends n a at in
        let (c, c_at) = slice_get-below whole m (All-head (λ n. n < length whole) m order known) in
        let related = All-contains (R m) order n (AllPairs-head R m order keeps) behind c b c_at b_at in
        absurd (clash place response b.response c.inv (subst (λ r. IsExtendedResponse place r b.response) answered extended.response)
        (later m c gone c_at) related)
    by_part rest (Some a) at behind =
        let (b, b_at, extended) = extends m a at in
        rw b_at (stays_later m n (is_refused_later a.response b.response) (kept part whole order) rest)

-- a completed call
done_at : (part : List Operation) (n : ℕ) → IsCompletedAt part n → IsDoneIn part n
done_at part n h = let (a, at, completed) = some_at (slice_get part n) (λ a. IsTrue (is_completed a)) h in found a at
    a.response refl completed
  where
    found : (a : Operation) → slice_get part n ≡ Some a → (response : Option Response) → a.response ≡ response
        → IsTrue (is_some response) → IsDoneIn part n
    found a at None is some = absurd (false≢true some)
    found a at (Some response) is some = (a, response, at, is)

-- a call that is completed in the part is so in the whole
done_in_whole : (place : ℕ) (part whole : List Operation) (n : ℕ) → Extends place part whole → IsDoneIn part n → IsCompletedAt whole n
done_in_whole place part whole n extends done =
    let (a, response, at, answered) = done in
    let (b, b_at, extended) = extends n a at in
    let same : b.response ≡ Some response = (subst (λ r. IsExtendedResponse place r b.response) answered extended.response).0 in
    subst (λ o. IsSomeAnd o (λ a. IsTrue (is_completed a))) (sym b_at) (ap is_some same)

-- an order of the whole, cut to the part, is one of the part
pub order_of_part : (place : ℕ) (start : Contents) (part whole : List Operation) (order : List ℕ) → Extends place part whole
    → InvokesLater place part whole
    → IsOrder start whole order → IsOrder start part (kept part whole order)
order_of_part place start part whole order extends later h = record {
  legal_order = record {
    known = kept-known part whole order;
    distinct = AllPairs-kept (λ m n. m ≢ n) part whole order h.legal_order.distinct;
    precedence = kept-precedence place part whole order extends h.legal_order.precedence;
    legal = kept-legal place part whole start order extends h.legal_order.legal;
  };
  complete = λ n completed.
      let done = done_at part n completed in
      kept-complete place part whole order n extends later h.legal_order.known
      (AllPairs-from_filter_map (λ a b. precedes b a ≡ false) (slice_get whole) order h.legal_order.precedence) done
      (h.complete n (done_in_whole place part whole n extends done));
}
