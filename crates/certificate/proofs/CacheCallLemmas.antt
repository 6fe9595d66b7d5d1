-- One call of a cache, at the lossy map and as it is recorded, at the map. From the lossy map to the map the map keeps at least the values
-- of the lossy map. From the map to the lossy map the lossy map can lose keys so that it has exactly the values that are not fresh.
use Rattle.certificate.proofs.Common.{◌≡◌, ℕ, ◌<◌, ◌≤◌, Bool, cond, Option, Some, None, inl, inr, refl, sym, ap, ◌∙◌, subst, ⊎_elim, ◌==◌, is_some}
use Rattle.certificate.proofs.Common.{◌⊎◌, All, cases_Bool, eq-eqb, ne_eqb, eqb-true, eqb-false, Call, Get, Insert, Remove, Scan, Replace, Reply}
use Rattle.certificate.proofs.Common.{low_key, Contents, IsRising, value_at, within, after_reply, IsLegalReply, left, recorded_call, recorded_reply}
use Rattle.certificate.proofs.Common.{CallBelow, ReplyBelow}
use Rattle.certificate.proofs.CacheValueLemmas.{next_reply, LegalAt, IsPoint, AtMost, goes, shown, comes, shown_below, left_fresh}
use Rattle.certificate.proofs.CacheMapLemmas.{value_at-own_reply, value_at-other_reply, value_at-scan_reply, left_rises, left_as, same_within}
use Rattle.certificate.proofs.CacheMapLemmas.{value_at-within, value_below}
use Rattle.events.specs.declared.event.Reply.TheVariants as replies

-- each value of the one is a value of the other
abbrev pub IsWithin : Contents → Contents → Type 0
IsWithin m n = (key : ℕ) → AtMost (value_at m key) (value_at n key)

pub AtMost-trans : (x y z : Option ℕ) → AtMost x y → AtMost y z → AtMost x z
AtMost-trans x y z (inl none) more = inl none
AtMost-trans x y z (inr is) (inl none) = inl (is ∙ none)
AtMost-trans x y z (inr is) (inr same) = inr (is ∙ same)

-- ---- a call that names one key, by the value there

legal_at : (m : Contents) (call : Call) (reply : Reply) → IsPoint call → IsLegalReply m call reply
    → LegalAt call reply (value_at m (low_key call))
legal_at m (Get key) reply point h = h
legal_at m (Insert key value) reply point h = h
legal_at m (Remove key) reply point h = h
legal_at m (Scan low high) reply point h = absurd point
legal_at m (Replace key expected value) reply point h = h

legal_from_at : (m : Contents) (call : Call) (reply : Reply) → IsPoint call → LegalAt call reply (value_at m (low_key call))
    → IsLegalReply m call reply
legal_from_at m (Get key) reply point h = h
legal_from_at m (Insert key value) reply point h = h
legal_from_at m (Remove key) reply point h = h
legal_from_at m (Scan low high) reply point h = absurd point
legal_from_at m (Replace key expected value) reply point h = h

-- what is recorded of a call has its key, and names one key if the call does
record HasKeyOf (call recorded : Call) : Type 0 where
  key : low_key recorded ≡ low_key call
  point : IsPoint call → IsPoint recorded

recorded_key : (fresh : ℕ) (call : Call) (reply : Reply) → HasKeyOf call (recorded_call fresh call reply)
recorded_key fresh (Get key) replies.None = record { key = refl; point = λ h. h }
recorded_key fresh (Get key) (replies.Some value) = record { key = refl; point = λ h. h }
recorded_key fresh (Get key) (replies.Pairs pairs) = record { key = refl; point = λ h. h }
recorded_key fresh (Get key) replies.Refused = record { key = refl; point = λ h. h }
recorded_key fresh (Get key) replies.Done = record { key = refl; point = λ h. h }
recorded_key fresh (Get key) replies.Found = record { key = refl; point = λ h. h }
recorded_key fresh (Get key) replies.Other = record { key = refl; point = λ h. h }
recorded_key fresh (Insert key value) reply = record { key = refl; point = λ h. h }
recorded_key fresh (Remove key) reply = record { key = refl; point = λ h. h }
recorded_key fresh (Scan low high) reply = record { key = refl; point = λ h. h }
recorded_key fresh (Replace key expected new) replies.None = record { key = refl; point = λ h. h }
recorded_key fresh (Replace key expected new) (replies.Some value) = record { key = refl; point = λ h. h }
recorded_key fresh (Replace key expected new) (replies.Pairs pairs) = record { key = refl; point = λ h. h }
recorded_key fresh (Replace key expected new) replies.Refused = record { key = refl; point = λ h. h }
recorded_key fresh (Replace key expected new) replies.Done = record { key = refl; point = λ h. h }
recorded_key fresh (Replace key expected new) replies.Found = record { key = refl; point = λ h. h }
recorded_key fresh (Replace key expected new) replies.Other = record { key = refl; point = λ h. h }

-- what holds at the key of a call and at each other one holds at each key
pub by_key : (P : ℕ → Type 0) (own key : ℕ) → P own → ((own ≡ key → ⊥) → P key) → P key
by_key P own key here there = ⊎_elim (λ same. subst P (eqb-true own key same) here) (λ other. there (eqb-false own key other)) (cases_Bool (own == key))

-- the value at the own key of a recorded call
value_at-recorded : (n : Contents) (fresh : ℕ) (call : Call) (reply answer : Reply) → IsPoint call
    → value_at (after_reply n (recorded_call fresh call reply) answer) (low_key call)
    ≡ next_reply (recorded_call fresh call reply) answer (value_at n (low_key call))
value_at-recorded n fresh call reply answer point =
    let same = recorded_key fresh call reply in
    subst (λ k. value_at (after_reply n (recorded_call fresh call reply) answer) k ≡ next_reply (recorded_call fresh call reply) answer (value_at n k))
    same.key (value_at-own_reply n (recorded_call fresh call reply) answer (same.point point))

-- the value at another key
value_at-recorded_other : (n : Contents) (fresh : ℕ) (call : Call) (reply answer : Reply) (key : ℕ) → (low_key call ≡ key → ⊥)
    → value_at (after_reply n (recorded_call fresh call reply) answer) key ≡ value_at n key
value_at-recorded_other n fresh call reply answer key differ =
    value_at-other_reply n (recorded_call fresh call reply) answer key (λ is. differ (sym (recorded_key fresh call reply).key ∙ is))

legal_recorded : (n : Contents) (fresh : ℕ) (call : Call) (reply answer : Reply) → IsPoint call
    → LegalAt (recorded_call fresh call reply) answer (value_at n (low_key call)) → IsLegalReply n (recorded_call fresh call reply) answer
legal_recorded n fresh call reply answer point h =
    let same = recorded_key fresh call reply in
    legal_from_at n (recorded_call fresh call reply) answer (same.point point)
    (subst (λ k. LegalAt (recorded_call fresh call reply) answer (value_at n k)) (sym same.key) h)

legal_of_recorded : (n : Contents) (fresh : ℕ) (call : Call) (reply answer : Reply) → IsPoint call
    → IsLegalReply n (recorded_call fresh call reply) answer → LegalAt (recorded_call fresh call reply) answer (value_at n (low_key call))
legal_of_recorded n fresh call reply answer point h =
    let same = recorded_key fresh call reply in
    subst (λ k. LegalAt (recorded_call fresh call reply) answer (value_at n k)) same.key
    (legal_at n (recorded_call fresh call reply) answer (same.point point) h)

-- ---- a scan

-- a scan may have the same answer if the values of its range are the same
go_scan : (m n : Contents) (low high : ℕ) (reply : Reply) → IsRising m → IsRising n
    → ((pairs : Contents) → reply ≡ replies.Pairs pairs → (key : ℕ) → low ≤ key → key ≤ high → value_at m key ≡ value_at n key)
    → IsLegalReply m (Scan low high) reply → IsLegalReply n (Scan low high) reply
go_scan m n low high replies.None m_rises n_rises same legal = absurd (⊎_elim (λ refused. cc) (λ tells. cc) legal)
go_scan m n low high (replies.Some value) m_rises n_rises same legal = absurd (⊎_elim (λ refused. cc) (λ tells. cc) legal)
go_scan m n low high (replies.Pairs pairs) m_rises n_rises same legal =
    ⊎_elim (λ refused. cc) (λ tells. inr (tells ∙ ap (λ (l : Contents). replies.Pairs l) (same_within low high m n m_rises n_rises (same pairs refl)))) legal
go_scan m n low high replies.Refused m_rises n_rises same legal = inl refl
go_scan m n low high replies.Done m_rises n_rises same legal = legal
go_scan m n low high replies.Found m_rises n_rises same legal = legal
go_scan m n low high replies.Other m_rises n_rises same legal = legal

-- ---- from the lossy map to the map

pub record Went (fresh : ℕ) (m n : Contents) (call : Call) (reply : Reply) : Type 0 where
  pub legal : IsLegalReply n (recorded_call fresh call reply) (recorded_reply call reply)
  pub most : IsWithin (after_reply m call reply) (after_reply n (recorded_call fresh call reply) (recorded_reply call reply))

go_point : (fresh : ℕ) (m n : Contents) (call : Call) (reply : Reply) → IsPoint call → IsWithin m n → IsLegalReply m call reply
    → Went fresh m n call reply
go_point fresh m n call reply point within legal =
    let own = low_key call in
    let gone = goes fresh call reply (value_at m own) (value_at n own) point (within own) (legal_at m call reply point legal) in
    let c = recorded_call fresh call reply in
    let r = recorded_reply call reply in
    record {
      legal = legal_recorded n fresh call reply r point gone.legal;
      most = λ key. by_key (λ k. AtMost (value_at (after_reply m call reply) k) (value_at (after_reply n c r) k)) own key
          (rw (value_at-own_reply m call reply point, value_at-recorded n fresh call reply r point) gone.most)
          (λ differ. rw (value_at-other_reply m call reply key differ, value_at-recorded_other n fresh call reply r key differ) (within key));
    }

pub go : (fresh : ℕ) (m n : Contents) (call : Call) (reply : Reply) → IsRising m → IsRising n → IsWithin m n
    → ((low high : ℕ) (pairs : Contents) → call ≡ Scan low high → reply ≡ replies.Pairs pairs → (key : ℕ) → low ≤ key → key ≤ high
    → value_at m key ≡ value_at n key)
    → IsLegalReply m call reply → Went fresh m n call reply
go fresh m n (Get key) reply m_rises n_rises within same legal = go_point fresh m n (Get key) reply tt within legal
go fresh m n (Insert key value) reply m_rises n_rises within same legal = go_point fresh m n (Insert key value) reply tt within legal
go fresh m n (Remove key) reply m_rises n_rises within same legal = go_point fresh m n (Remove key) reply tt within legal
go fresh m n (Scan low high) reply m_rises n_rises within same legal = record {
  legal = go_scan m n low high reply m_rises n_rises (λ pairs is. same low high pairs refl is) legal;
  most = λ key. rw (value_at-scan_reply m low high reply key, value_at-scan_reply n low high reply key) (within key);
}
go fresh m n (Replace key expected value) reply m_rises n_rises within same legal =
    go_point fresh m n (Replace key expected value) reply tt within legal

-- ---- and back

-- some keys disappear so that the call may have its answer, and then leaves what is not fresh of what is left at the map
pub record Came (bound fresh : ℕ) (m n : Contents) (call : Call) (reply : Reply) : Type 0 where
  pub stays : ℕ → Bool
  pub legal : IsLegalReply (left stays m) call reply
  pub next : (key : ℕ) → value_at (after_reply (left stays m) call reply) key
      ≡ shown bound (value_at (after_reply n (recorded_call fresh call reply) (recorded_reply call reply)) key)

-- each value that is not fresh is one of the lossy map
abbrev pub Shows : ℕ → Contents → Contents → Type 0
Shows bound m n = (key : ℕ) → AtMost (shown bound (value_at n key)) (value_at m key)

module _ (bound fresh : ℕ) (high : bound ≤ fresh) (m n : Contents) (shows : Shows bound m n) where
  come_point : (call : Call) (reply : Reply) → IsPoint call → CallBelow bound call → ReplyBelow bound reply
      → (reply ≡ replies.Found → shown bound (value_at n (low_key call)) ≡ value_at n (low_key call))
      → IsLegalReply n (recorded_call fresh call reply) (recorded_reply call reply) → Came bound fresh m n call reply
  come_point call reply point low told found legal =
      let own = low_key call in
      let c = recorded_call fresh call reply in
      let r = recorded_reply call reply in
      let come = comes bound fresh high call reply (value_at n own) point low told found (legal_of_recorded n fresh call reply r point legal) in
      let target = λ (key : ℕ). cond (own == key) come.x (shown bound (value_at n key)) in
      let here : target own ≡ come.x = rw (eq-eqb own own refl) refl in
      let there : (key : ℕ) → (own ≡ key → ⊥) → target key ≡ shown bound (value_at n key) = λ key differ. rw (ne_eqb own key differ) refl in
      let stays = λ (key : ℕ). is_some (target key) in
      let is = left_as target m (λ key. by_key (λ k. AtMost (target k) (value_at m k)) own key
      (rw here (AtMost-trans come.x (shown bound (value_at n own)) (value_at m own) come.most (shows own)))
      (λ differ. rw (there key differ) (shows key))) in
      record {
        stays = stays;
        legal = legal_from_at (left stays m) call reply point (rw (is own, here) come.legal);
        next = λ key. by_key (λ k. value_at (after_reply (left stays m) call reply) k ≡ shown bound (value_at (after_reply n c r) k)) own key
            (value_at-own_reply (left stays m) call reply point ∙ (ap (next_reply call reply) (is own ∙ here) ∙ (come.next
            ∙ ap (shown bound) (sym (value_at-recorded n fresh call reply r point)))))
            (λ differ. value_at-other_reply (left stays m) call reply key differ ∙ ((is key ∙ there key differ)
            ∙ ap (shown bound) (sym (value_at-recorded_other n fresh call reply r key differ))));
      }

  come_scan : (low to : ℕ) (reply : Reply) → IsRising m → IsRising n → ReplyBelow bound reply → IsLegalReply n (Scan low to) reply
      → Came bound fresh m n (Scan low to) reply
  come_scan low to reply m_rises n_rises told legal =
      let target = λ (key : ℕ). shown bound (value_at n key) in
      let stays = λ (key : ℕ). is_some (target key) in
      let is = left_as target m shows in
      record {
        stays = stays;
        legal = go_scan n (left stays m) low to reply n_rises (left_rises stays m m_rises)
            (λ pairs are key from upto. not_fresh pairs are key (value_at n key) refl from upto ∙ sym (is key)) legal;
        next = λ key. value_at-scan_reply (left stays m) low to reply key
            ∙ (is key ∙ ap (shown bound) (sym (value_at-scan_reply n low to reply key)));
      }
    where
      not_fresh : (pairs : Contents) → reply ≡ replies.Pairs pairs → (key : ℕ) (y : Option ℕ) → value_at n key ≡ y → low ≤ key → key ≤ to
          → value_at n key ≡ shown bound (value_at n key)
      not_fresh pairs are key None y_is from upto = rw y_is refl
      not_fresh pairs are key (Some v) y_is from upto =
          let told_pairs : All (λ (pair : ℕ × ℕ). pair.1 < bound) pairs = subst (ReplyBelow bound) are told in
          let told_are : pairs ≡ within low to n = ⊎_elim (λ refused. cc) (λ tells. cc) (subst (IsLegalReply n (Scan low to)) are legal) in
          let there : value_at pairs key ≡ Some v = ap (λ (l : Contents). value_at l key) told_are ∙ (value_at-within low to n key from upto ∙ y_is) in
          rw y_is (sym (shown_below bound v (value_below bound pairs key v told_pairs there)))

  pub come : (call : Call) (reply : Reply) → IsRising m → IsRising n → CallBelow bound call → ReplyBelow bound reply
      → (reply ≡ replies.Found → shown bound (value_at n (low_key call)) ≡ value_at n (low_key call))
      → IsLegalReply n (recorded_call fresh call reply) (recorded_reply call reply) → Came bound fresh m n call reply
  come (Get key) reply m_rises n_rises low told found legal = come_point (Get key) reply tt low told found legal
  come (Insert key value) reply m_rises n_rises low told found legal = come_point (Insert key value) reply tt low told found legal
  come (Remove key) reply m_rises n_rises low told found legal = come_point (Remove key) reply tt low told found legal
  come (Scan from to) reply m_rises n_rises low told found legal = come_scan from to reply m_rises n_rises told legal
  come (Replace key expected value) reply m_rises n_rises low told found legal =
      come_point (Replace key expected value) reply tt low told found legal

-- a fresh value that is left at a key was there before, or a replace of the key put it
abbrev pub IsFreshOf : Contents → Call → Reply → ℕ → ℕ → Type 0
IsFreshOf n call reply key v = (value_at n key ≡ Some v) ⊎ ((reply ≡ replies.Other) × (low_key call ≡ key))

module _ (bound fresh : ℕ) (n : Contents) (v : ℕ) (high : bound ≤ v) where
  fresh_point : (call : Call) (reply : Reply) (key : ℕ) → IsPoint call → CallBelow bound call
      → value_at (after_reply n (recorded_call fresh call reply) (recorded_reply call reply)) key ≡ Some v → IsFreshOf n call reply key v
  fresh_point call reply key point below =
      let c = recorded_call fresh call reply in
      let r = recorded_reply call reply in
      let own = low_key call in
      by_key (λ k. value_at (after_reply n c r) k ≡ Some v → IsFreshOf n call reply k v) own key
      (λ is. ⊎_elim (λ same. inl same) (λ other. inr (other, refl))
      (left_fresh bound fresh call reply (value_at n own) v below high (sym (value_at-recorded n fresh call reply r point) ∙ is)))
      (λ differ is. inl (sym (value_at-recorded_other n fresh call reply r key differ) ∙ is))

  pub keeps_fresh : (call : Call) (reply : Reply) (key : ℕ) → CallBelow bound call
      → value_at (after_reply n (recorded_call fresh call reply) (recorded_reply call reply)) key ≡ Some v → IsFreshOf n call reply key v
  keeps_fresh (Get own) reply key below is = fresh_point (Get own) reply key tt below is
  keeps_fresh (Insert own value) reply key below is = fresh_point (Insert own value) reply key tt below is
  keeps_fresh (Remove own) reply key below is = fresh_point (Remove own) reply key tt below is
  keeps_fresh (Scan low to) reply key below is = inl (sym (value_at-scan_reply n low to reply key) ∙ is)
  keeps_fresh (Replace own expected value) reply key below is = fresh_point (Replace own expected value) reply key tt below is
