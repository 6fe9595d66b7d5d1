-- Complete answers in the place of partial ones of them: the orders are the same.
use Rattle.certificate.proofs.Common.{◌≡◌, ℕ, suc, zero, ◌+◌, ◌<◌, true, false, Bool, cond, List, [], ◌∷◌, length, Option, Some, None, inl, inr, refl}
use Rattle.certificate.proofs.Common.{sym, ap, ◌∙◌, subst, ⊎_elim, arith, IsTrue, ◌≢◌, slice_get, All, AllPairs, Contains, ne_eqb, eqb-true}
use Rattle.certificate.proofs.Common.{eqb-false, All-head, All-tail, All-contains, none-some, same_Some, Call, Reply, Operation, Response}
use Rattle.certificate.proofs.Common.{is_completed, is_before, precedes, Contents, reply_to, IsAllOrPartOf, after_reply-answer, after_call}
use Rattle.certificate.proofs.Common.{IsLegalCall, IsLegal, calls_at, IsCompletedAt, IsOrder, AllPairs-head, AllPairs-tail, Contains-nil}
use Rattle.certificate.proofs.Common.{Contains-first, Contains-later, Contains-cases, slice_get-below, some_at, AreRelatedAs, AllPairs-filter_map}
use Rattle.certificate.proofs.Common.{AllPairs-from_filter_map, AllPairs-weaker, ◌==◌, is_some, AllZip, length_all_zip, reply_to_answers}
use Rattle.certificate.proofs.Common.{reply_to_told, tells_all, tells_answers, whole_from_tells, KeepsPrecedence, OrdersAreThoseOfToldCalls}
use Rattle.std.proofs.Common.{eq-eqb}
use Rattle.events.proofs.ZipLemmas.{zip_left, zip_right}
use Rattle.certificate.specs.Tellings.{IsToldAs, IsToldCall, AreToldCalls}
use Rattle.events.specs.declared.event.Reply.TheVariants as replies

-- a whole answer comes at the same event
before_told : (call : Call) (r t : Option Response) (place : ℕ) → IsToldAs call r t → is_before t place ≡ is_before r place
before_told call None None place is = refl
before_told call None (Some t) place is = absurd is
before_told call (Some r) None place is = absurd is
before_told call (Some r) (Some t) place is = rw is.0 refl

completed_told : (call : Call) (a t : Operation) → IsToldAs call a.response t.response → is_completed t ≡ is_completed a
completed_told call a t is = by_response a.response t.response is
  where
    by_response : (r s : Option Response) → IsToldAs call r s → is_some s ≡ is_some r
    by_response None None is = refl
    by_response None (Some t) is = absurd is
    by_response (Some r) None is = absurd is
    by_response (Some r) (Some t) is = refl

precedes_told : (a b s t : Operation) → IsToldCall a s → IsToldCall b t → precedes s t ≡ precedes a b
precedes_told a b s t a_told b_told = rw b_told.inv (before_told a.call a.response s.response b.inv a_told.response)

-- a legal whole answer makes the other legal, and both leave the same
legal_from_told : (m : Contents) (call : Call) (r t : Option Response) → IsToldAs call r t → IsLegalCall m call t
    → IsLegalCall m call r × (after_call m call t ≡ after_call m call r)
legal_from_told m call None None is legal = (tt, refl)
legal_from_told m call None (Some t) is legal = absurd is
legal_from_told m call (Some r) None is legal = absurd is
legal_from_told m call (Some r) (Some t) is legal = ⊎_elim
    (λ refused. (inl refused.0, rw (refused.0, refused.1) refl))
    (λ whole. ⊎_elim (λ t_refused. absurd (whole.0 t_refused))
    (λ t_tells.
    let same = whole_from_tells call (reply_to m call) t.reply is.1 t_tells in
    let tells = subst (λ (w : Reply). IsAllOrPartOf call w r.reply) same whole.1 in
    (inr tells, after_reply-answer m call t.reply whole.0 ∙ sym (after_reply-answer m call r.reply (tells_answers m call r.reply tells))))
    legal) is.2

all_legal : (m : Contents) (calls told : List Operation) → AllZip IsToldCall calls told → IsLegal m told → IsLegal m calls
all_legal m [] [] is legal = tt
all_legal m [] (t ∷ told) is legal = tt
all_legal m (a ∷ calls) [] is legal = absurd is
all_legal m (a ∷ calls) (t ∷ told) is legal =
    let here = is.0 in
    let t_legal = subst (λ (call : Call). IsLegalCall m call t.response) here.call legal.0 in
    let (a_legal, same) = legal_from_told m a.call a.response t.response here.response t_legal in
    let next = ap (λ (call : Call). after_call m call t.response) here.call ∙ same in
    (a_legal, all_legal (after_call m a.call a.response) calls told is.1 (subst (λ (n : Contents). IsLegal n told) next legal.1))

-- the calls with the same numbers
told_at : (calls told : List Operation) (order : List ℕ) → AreToldCalls calls told → All (λ n. n < length calls) order
    → AllZip IsToldCall (calls_at calls order) (calls_at told order)
told_at calls told [] is known = tt
told_at calls told (n ∷ order) is known =
    let (a, here) = slice_get-below calls n (All-head (λ n. n < length calls) n order known) in
    let (t, there, a_told) = zip_left IsToldCall calls told n a is here in
    rw (here, there) (a_told, told_at calls told order is (All-tail (λ n. n < length calls) n order known))

precedence_from_told : (calls told : List Operation) (order : List ℕ) → AreToldCalls calls told → KeepsPrecedence (calls_at told order)
    → KeepsPrecedence (calls_at calls order)
precedence_from_told calls told order is h =
    let R = λ (a b : Operation). precedes b a ≡ false in
    AllPairs-filter_map R (slice_get calls) order
    (AllPairs-weaker (AreRelatedAs R (slice_get told)) (AreRelatedAs R (slice_get calls)) order
    (λ m n m_is n_is related a b first second.
    let (s, s_here, a_told) = zip_left IsToldCall calls told m a is first in
    let (t, t_here, b_told) = zip_left IsToldCall calls told n b is second in
    sym (precedes_told b a t s b_told a_told) ∙ related s t s_here t_here)
    (AllPairs-from_filter_map R (slice_get told) order h))

precedence_to_told : (calls told : List Operation) (order : List ℕ) → AreToldCalls calls told → KeepsPrecedence (calls_at calls order)
    → KeepsPrecedence (calls_at told order)
precedence_to_told calls told order is h =
    let R = λ (a b : Operation). precedes b a ≡ false in
    AllPairs-filter_map R (slice_get told) order
    (AllPairs-weaker (AreRelatedAs R (slice_get calls)) (AreRelatedAs R (slice_get told)) order
    (λ m n m_is n_is related s t first second.
    let (a, a_here, a_told) = zip_right IsToldCall calls told m s is first in
    let (b, b_here, b_told) = zip_right IsToldCall calls told n t is second in
    precedes_told b a t s b_told a_told ∙ related a b a_here b_here)
    (AllPairs-from_filter_map R (slice_get calls) order h))

completed_to_told : (calls told : List Operation) (n : ℕ) → AreToldCalls calls told → IsCompletedAt calls n → IsCompletedAt told n
completed_to_told calls told n is h =
    let (a, here, completed) = some_at (slice_get calls n) (λ a. IsTrue (is_completed a)) h in
    let (t, there, a_told) = zip_left IsToldCall calls told n a is here in
    rw there (completed_told a.call a t a_told.response ∙ completed)

completed_from_told : (calls told : List Operation) (n : ℕ) → AreToldCalls calls told → IsCompletedAt told n → IsCompletedAt calls n
completed_from_told calls told n is h =
    let (t, there, completed) = some_at (slice_get told n) (λ a. IsTrue (is_completed a)) h in
    let (a, here, a_told) = zip_right IsToldCall calls told n t is there in
    rw here (sym (completed_told a.call a t a_told.response) ∙ completed)

order_from_told : (start : Contents) (calls told : List Operation) (order : List ℕ) → AreToldCalls calls told → IsOrder start told order
    → IsOrder start calls order
order_from_told start calls told order is h =
    let same = length_all_zip IsToldCall calls told is in
    let known = subst (λ (count : ℕ). All (λ n. n < count) order) (sym same) h.legal_order.known in
    record {
      legal_order = record {
        known = known;
        distinct = h.legal_order.distinct;
        precedence = precedence_from_told calls told order is h.legal_order.precedence;
        legal = all_legal start (calls_at calls order) (calls_at told order) (told_at calls told order is known) h.legal_order.legal;
      };
      complete = λ n completed. h.complete n (completed_to_told calls told n is completed);
    }

-- the whole answer at the pairs before a call, unless it is refused
abbrev whole_reply : Contents → Call → Reply → Reply
whole_reply m call replies.Refused = replies.Refused
whole_reply m call reply = reply_to m call

abbrev whole : Contents → Call → Option Response → Option Response
whole m call None = None
whole m call (Some r) = Some (record { res = r.res; reply = whole_reply m call r.reply })

abbrev tell : Contents → Operation → Operation
tell m a = record { call = a.call; inv = a.inv; response = whole m a.call a.response }

whole_reply-answer : (m : Contents) (call : Call) (reply : Reply) → reply ≢ replies.Refused → whole_reply m call reply ≡ reply_to m call
whole_reply-answer m call replies.None answered = refl
whole_reply-answer m call (replies.Some value) answered = refl
whole_reply-answer m call (replies.Pairs pairs) answered = refl
whole_reply-answer m call replies.Refused answered = absurd (answered refl)
whole_reply-answer m call replies.Done answered = refl
whole_reply-answer m call replies.Found answered = refl
whole_reply-answer m call replies.Other answered = refl

whole_reply-refused : (m : Contents) (call : Call) (reply : Reply) → reply ≡ replies.Refused → whole_reply m call reply ≡ replies.Refused
whole_reply-refused m call reply refused = rw refused refl

-- if a response is legal, some complete answer has it as a part, is legal and leaves the same
record IsWhole (m : Contents) (call : Call) (r t : Option Response) : Type 0 where
  told : IsToldAs call r t
  legal : IsLegalCall m call t
  same : after_call m call t ≡ after_call m call r

whole_is : (m : Contents) (call : Call) (r : Option Response) → IsLegalCall m call r → IsWhole m call r (whole m call r)
whole_is m call None legal = record { told = tt; legal = tt; same = refl }
whole_is m call (Some r) (inl refused) =
    let is = whole_reply-refused m call r.reply refused in
    record {
      told = rw is (refl, refl, inl (refused, refl));
      legal = rw is (inl refl);
      same = rw (is, refused) refl;
    }
whole_is m call (Some r) (inr tells) =
    let answered = tells_answers m call r.reply tells in
    let is = whole_reply-answer m call r.reply answered in
    record {
      told = rw is (refl, reply_to_told m call, inr (reply_to_answers m call, tells));
      legal = rw is (inr (tells_all m call (reply_to m call) refl));
      same = rw is (after_reply-answer m call (reply_to m call) (reply_to_answers m call) ∙ sym (after_reply-answer m call r.reply answered));
    }

-- the pairs after a call, if there is one
abbrev after_one : Contents → Option Operation → Contents
after_one m None = m
after_one m (Some b) = after_call m b.call b.response

-- call n, with the whole answer at the pairs that it finds in an order; one that is not in it stays
abbrev tell_in : Contents → List Operation → List ℕ → ℕ → Operation → Operation
tell_in m calls [] n a = a
tell_in m calls (k ∷ order) n a = cond (k == n) (tell m a) (tell_in (after_one m (slice_get calls k)) calls order n a)

-- each call made again, by its number from i on
abbrev made_from : ℕ → (ℕ → Operation → Operation) → List Operation → List Operation
made_from i f [] = []
made_from i f (a ∷ calls) = f i a ∷ made_from (suc i) f calls

slice_get-made : (f : ℕ → Operation → Operation) (i : ℕ) (calls : List Operation) (n k : ℕ) (a : Operation) → k ≡ n + i
    → slice_get calls n ≡ Some a → slice_get (made_from i f calls) n ≡ Some (f k a)
slice_get-made f i [] n k a is here = absurd (none-some a here)
slice_get-made f i (c ∷ calls) zero k a is here =
    let first : i ≡ k = omega arith in
    ap (λ (j : ℕ). Some (f j c)) first ∙ ap (λ (b : Operation). Some (f k b)) (same_Some c a here)
slice_get-made f i (c ∷ calls) (suc n) k a is here = slice_get-made f (suc i) calls n k a (omega arith) here

AllZip-made : (f : ℕ → Operation → Operation) (i : ℕ) (calls : List Operation)
    → ((n k : ℕ) (a : Operation) → k ≡ n + i → slice_get calls n ≡ Some a → IsToldCall a (f k a))
    → AreToldCalls calls (made_from i f calls)
AllZip-made f i [] h = tt
AllZip-made f i (c ∷ calls) h =
    (h zero i c (omega arith) refl, AllZip-made f (suc i) calls (λ n k a is here. h (suc n) k a (omega arith) here))

pending_told : (a : Operation) → (is_completed a ≡ true → ⊥) → IsToldCall a a
pending_told a pending = record { call = refl; inv = refl; response = by_response a.response pending }
  where
    by_response : (r : Option Response) → (is_some r ≡ true → ⊥) → IsToldAs a.call r r
    by_response None pending = tt
    by_response (Some r) pending = absurd (pending refl)

-- along a legal order each call gets a complete answer
told_call : (m : Contents) (calls : List Operation) (order : List ℕ) (n : ℕ) (a : Operation) → All (λ n. n < length calls) order
    → IsLegal m (calls_at calls order) → slice_get calls n ≡ Some a → (is_completed a ≡ true → Contains order n)
    → IsToldCall a (tell_in m calls order n a)
told_call m calls [] n a known legal here complete = pending_told a (λ completed. absurd (Contains-nil n (complete completed)))
told_call m calls (k ∷ order) n a known legal here complete =
    let (b, k_here) = slice_get-below calls k (All-head (λ n. n < length calls) k order known) in
    let legal_here : IsLegalCall m b.call b.response × IsLegal (after_call m b.call b.response) (calls_at calls order) = rw k_here at legal in
    by_test b k_here legal_here (k == n) refl
    (told_call (after_call m b.call b.response) calls order n a (All-tail (λ n. n < length calls) k order known) legal_here.1 here)
  where
    by_test : (b : Operation) → slice_get calls k ≡ Some b
        → IsLegalCall m b.call b.response × IsLegal (after_call m b.call b.response) (calls_at calls order) → (t : Bool) → (k == n) ≡ t
        → ((is_completed a ≡ true → Contains order n) → IsToldCall a (tell_in (after_call m b.call b.response) calls order n a))
        → IsToldCall a (cond t (tell m a) (tell_in (after_one m (slice_get calls k)) calls order n a))
    by_test b k_here legal true e rest =
        let same = same_Some b a (sym k_here ∙ (ap (slice_get calls) (eqb-true k n e) ∙ here)) in
        record {
          call = refl;
          inv = refl;
          response = (whole_is m a.call a.response (subst (λ (c : Operation). IsLegalCall m c.call c.response) same legal.0)).told;
        }
    by_test b k_here legal false e rest =
        rw k_here (rest
        (λ completed. ⊎_elim (λ same. absurd (eqb-false k n e same)) (λ later. later) (Contains-cases k order n (complete completed))))

-- the calls with complete answers are legal along it
legal_told : (m : Contents) (calls told : List Operation) (order : List ℕ) → All (λ n. n < length calls) order
    → AllPairs (λ m n. m ≢ n) order
    → ((n : ℕ) (a : Operation) → Contains order n → slice_get calls n ≡ Some a → slice_get told n ≡ Some (tell_in m calls order n a))
    → IsLegal m (calls_at calls order) → IsLegal m (calls_at told order)
legal_told m calls told [] known distinct are legal = tt
legal_told m calls told (k ∷ order) known distinct are legal =
    let (b, here) = slice_get-below calls k (All-head (λ n. n < length calls) k order known) in
    let legal_here : IsLegalCall m b.call b.response × IsLegal (after_call m b.call b.response) (calls_at calls order) = rw here at legal in
    let is = whole_is m b.call b.response legal_here.0 in
    let there : slice_get told k ≡ Some (tell m b) =
    are k b (Contains-first k order) here
    ∙ ap (λ (t : Bool). Some (cond t (tell m b) (tell_in (after_one m (slice_get calls k)) calls order k b))) (eq-eqb k k refl) in
    let rest = legal_told (after_call m b.call b.response) calls told order (All-tail (λ n. n < length calls) k order known)
    (AllPairs-tail (λ m n. m ≢ n) k order distinct)
    (λ n a n_is n_here. are n a (Contains-later k order n n_is) n_here
    ∙ (ap (λ (t : Bool). Some (cond t (tell m a) (tell_in (after_one m (slice_get calls k)) calls order n a)))
    (ne_eqb k n (All-contains (λ n. k ≢ n) order n (AllPairs-head (λ m n. m ≢ n) k order distinct) n_is))
    ∙ ap (λ (o : Option Operation). Some (tell_in (after_one m o) calls order n a)) here)) legal_here.1 in
    rw there (is.legal, subst (λ (n : Contents). IsLegal n (calls_at told order)) (sym is.same) rest)

order_to_told : (start : Contents) (calls : List Operation) (order : List ℕ) → IsOrder start calls order
    → (told : List Operation) × AreToldCalls calls told × IsOrder start told order
order_to_told start calls order h =
    let f = tell_in start calls order in
    let told = made_from 0 f calls in
    let known = h.legal_order.known in
    let are = AllZip-made f 0 calls (λ n k a is here.
    let same : k ≡ n = omega arith in
    told_call start calls order k a known h.legal_order.legal (ap (slice_get calls) same ∙ here)
    (λ completed. h.complete k (rw (same, here) completed))) in (
      told,
      are,
      record {
        legal_order = record {
          known = subst (λ (count : ℕ). All (λ n. n < count) order) (length_all_zip IsToldCall calls told are) known;
          distinct = h.legal_order.distinct;
          precedence = precedence_to_told calls told order are h.legal_order.precedence;
          legal = legal_told start calls told order known h.legal_order.distinct
              (λ n a n_is here. slice_get-made f 0 calls n n a (omega arith) here) h.legal_order.legal;
        };
        complete = λ n completed. h.complete n (completed_from_told calls told n are completed);
      },
    )

pub same_orders : OrdersAreThoseOfToldCalls
same_orders start calls = (
  λ order. (order_to_told start calls order, λ h. order_from_told start calls h.0 order h.1 h.2),
  (
    λ h. let (told, are, order) = order_to_told start calls h.0 h.1 in (told, are, (h.0, order)),
    λ h. (h.2.0, order_from_told start calls h.0 h.2.0 h.1 h.2.1),
  ),
)
