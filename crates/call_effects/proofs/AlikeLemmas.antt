-- Lists of calls that are alike except for the places of their events: they have the same orders.
use Rattle.call_effects.proofs.Common.{◌≡◌, ℕ, ◌<◌, true, false, List, [], ◌∷◌, length, Option, Some, None, refl, sym, ap, ◌∙◌, subst, IsTrue, ◌↔◌}
use Rattle.call_effects.proofs.Common.{is_some, slice_get, All, none-some, same_Some, slice_get_within, All-head, All-tail, All-contains, All-weaker}
use Rattle.call_effects.proofs.Common.{Call, Reply, Operation, Response, is_completed, precedes, Contents, after_reply, IsLegalReply, after_call}
use Rattle.call_effects.proofs.Common.{IsLegalCall, IsLegal, calls_at, IsOrder, slice_get-below, some_at, AreRelatedAs, AllPairs-filter_map}
use Rattle.call_effects.proofs.Common.{AllPairs-from_filter_map, AllPairs-weaker}
use Rattle.call_effects.specs.Groups.{reply_in, AreAlike}

pub legal_same : (m : Contents) (call : Call) (r s : Option Response) → reply_in r ≡ reply_in s → IsLegalCall m call r → IsLegalCall m call s
legal_same m call None s same h = none_given s same
  where
    none_given : (s : Option Response) → reply_in None ≡ reply_in s → IsLegalCall m call s
    none_given None same = tt
    none_given (Some t) same = absurd (none-some t.reply same)
legal_same m call (Some r) None same h = tt
legal_same m call (Some r) (Some s) same h = subst (λ (reply : Reply). IsLegalReply m call reply) (same_Some r.reply s.reply same) h

pub after_same : (m : Contents) (call : Call) (r s : Option Response) → reply_in r ≡ reply_in s → after_call m call r ≡ after_call m call s
after_same m call None None same = refl
after_same m call None (Some s) same = absurd (none-some s.reply same)
after_same m call (Some r) None same = absurd (none-some r.reply (sym same))
after_same m call (Some r) (Some s) same = ap (after_reply m call) (same_Some r.reply s.reply same)

pub completed_same : (r s : Option Response) → reply_in r ≡ reply_in s → is_some s ≡ true → is_some r ≡ true
completed_same None None same h = h
completed_same None (Some s) same h = absurd (none-some s.reply same)
completed_same (Some r) s same h = refl

module _ (calls others : List Operation) (alike : AreAlike calls others) where
  legal_alike : (order : List ℕ) (m : Contents) → All (λ n. n < length calls) order → IsLegal m (calls_at calls order)
      → IsLegal m (calls_at others order)
  legal_alike [] m known h = tt
  legal_alike (n ∷ order) m known h =
      let below = All-head (λ n. n < length calls) n order known in
      let (a, a_at) = slice_get-below calls n below in
      let (b, b_at) = slice_get-below others n (subst (λ size. n < size) alike.size below) in
      let same = alike.same n a b a_at b_at in
      let here = rw a_at at h in
      rw b_at (
        subst (λ (call : Call). IsLegalCall m call b.response) same.0 (legal_same m a.call a.response b.response same.1 here.0),
        legal_alike order (after_call m b.call b.response) (All-tail (λ n. n < length calls) n order known)
            (subst (λ (next : Contents). IsLegal next (calls_at calls order))
            (after_same m a.call a.response b.response same.1 ∙ ap (λ (call : Call). after_call m call b.response) same.0) here.1),
      )

  pub order_alike : (m : Contents) (order : List ℕ) → IsOrder m calls order → IsOrder m others order
  order_alike m order h =
      let R = λ (a b : Operation). precedes b a ≡ false in
      record {
        legal_order = record {
          known = All-weaker (λ n. n < length calls) (λ n. n < length others) (λ n below. subst (λ size. n < size) alike.size below) order
              h.legal_order.known;
          distinct = h.legal_order.distinct;
          precedence = AllPairs-filter_map R (slice_get others) order
              (AllPairs-weaker (AreRelatedAs R (slice_get calls)) (AreRelatedAs R (slice_get others)) order
              (λ i j i_is j_is related c d c_at d_at.
              let (a, a_at) = slice_get-below calls i (All-contains (λ n. n < length calls) order i h.legal_order.known i_is) in
              let (b, b_at) = slice_get-below calls j (All-contains (λ n. n < length calls) order j h.legal_order.known j_is) in
              sym (alike.precedence j i b a d c b_at a_at d_at c_at) ∙ related a b a_at b_at)
              (AllPairs-from_filter_map R (slice_get calls) order h.legal_order.precedence));
          legal = legal_alike order m h.legal_order.known h.legal_order.legal;
        };
        complete = λ n completed.
            let (b, b_at, b_completed) = some_at (slice_get others n) (λ a. IsTrue (is_completed a)) completed in
            let (a, a_at) = slice_get-below calls n (subst (λ size. n < size) (sym alike.size) (slice_get_within others n b b_at)) in
            h.complete n (rw a_at (completed_same a.response b.response (alike.same n a b a_at b_at).1 b_completed));
      }

-- what is alike is so the other way round
alike_back : (calls others : List Operation) → AreAlike calls others → AreAlike others calls
alike_back calls others h = record {
  size = sym h.size;
  same = λ n a b a_at b_at. let same = h.same n b a b_at a_at in (sym same.0, sym same.1);
  precedence = λ i j a b c d a_at b_at c_at d_at. sym (h.precedence i j c d a b c_at d_at a_at b_at);
}

pub places_do_not_matter : (m : Contents) (calls others : List Operation) (order : List ℕ) → AreAlike calls others
    → IsOrder m calls order ↔ IsOrder m others order
places_do_not_matter m calls others order alike =
    (λ h. order_alike calls others alike m order h, λ h. order_alike others calls (alike_back calls others alike) m order h)
