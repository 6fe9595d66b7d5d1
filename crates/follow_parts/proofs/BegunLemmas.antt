-- The shape of the state, as a call begins (`shaped_change`, `shaped_read`), and as a key that was at rest becomes a part (`shaped_key`).
use Rattle.follow_parts.proofs.Common.{◌≡◌, ℕ, suc, ◌<◌, false, List, [], ◌∷◌, ◌++◌, map, Option, None, Some, refl, sym, ap, ◌∙◌, subst, ⊎_elim, arith}
use Rattle.follow_parts.proofs.Common.{get_or, nat_le, if◌then◌else◌, All, AllPairs, All-nil, All-cons, All-tail, All-same, All-append, All-push, All-weaker}
use Rattle.follow_parts.proofs.Common.{All-map, All-contains, AllPairs-cons, AllPairs-nil, AllPairs-head, AllPairs-tail, AllPairs-append, AllPairs-front}
use Rattle.follow_parts.proofs.Common.{AllPairs-back, AllPairs-across, All-front, All-back, Operation, Response, Call, may_change, precedes, is_before}
use Rattle.follow_parts.proofs.Common.{Contents, IsRising, value_at, IsKeptOrder, StoredOrderView, KeptPast, FoundAt, at_rest, with_begun, last_or_old}
use Rattle.follow_parts.proofs.Common.{reads_begin, found_at, kept_of, Found, Past, kept_part, past_of, packed_same, covered, Range, AreBesideEachOther}
use Rattle.follow_parts.proofs.Common.{Part, OpenRead, entry_if, nat_tests, PartsView, kept_parts, begun, IsStateOf, IsCallBefore, IsPastBefore}
use Rattle.follow_parts.proofs.Common.{IsPartBefore, IsBesideReads, IsShaped, IsBegunIn, IsPartOf, IsTakenOut}
use Rattle.std.proofs.Common.{◌≢◌}
use Rattle.std.specs.Prelude.{◌==◌, ◌&&◌, ◌||◌}
use Rattle.packed_map.specs.Entries.{value_at as packed_at}
use Rattle.follow_parts.proofs.BeginningLemmas.{read_of, reads_more, entry_rises, entry_holds}

-- ---- a place further on

call_later : (now : ℕ) (o : Operation) → IsCallBefore now o → IsCallBefore (suc now) o
call_later now o before = record {
  begun = omega (arith, before.begun);
  ended = λ (response : Response) is. let h = before.ended response is in omega (arith, h);
}

past_later : (now : ℕ) (past : KeptPast) → IsPastBefore now past → IsPastBefore (suc now) past
past_later now past before = record {
  rising = before.rising;
  apart = before.apart;
  before = All-weaker (IsCallBefore now) (IsCallBefore (suc now)) (call_later now) past.left before.before;
}

pub part_later : (now : ℕ) (reads : List OpenRead) (part : Part) → IsPartBefore now reads part → IsPartBefore (suc now) reads part
part_later now reads part before = record {
  first = before.first;
  pasts = All-weaker (IsPastBefore now) (IsPastBefore (suc now)) (past_later now) (kept_part part).pasts before.pasts;
  beside = before.beside;
}

-- ---- a call that may change the map

module _ (now : ℕ) (reads : List OpenRead) (o : Operation) (at : o.inv ≡ now) (pending : o.response ≡ None) where
  none_is_no : (response : Response) → o.response ≡ Some response → ⊥
  none_is_no response is = let no : None ≡ Some response = sym pending ∙ is in cc

  past_begun : (past : KeptPast) → IsPastBefore now past → IsPastBefore (suc now) (with_begun o past)
  past_begun past before = record {
    rising = AllPairs-append (λ (a b : Operation). a.inv < b.inv) past.left (o ∷ []) before.rising
        (AllPairs-cons (λ (a b : Operation). a.inv < b.inv) o [] (All-nil (λ (b : Operation). o.inv < b.inv))
        (AllPairs-nil (λ (a b : Operation). a.inv < b.inv)))
        (All-weaker (IsCallBefore now) (λ (a : Operation). All (λ (b : Operation). a.inv < b.inv) (o ∷ []))
        (λ a less. All-cons (λ (b : Operation). a.inv < b.inv) o [] (let h = less.begun in omega (arith, h, at))
        (All-nil (λ (b : Operation). a.inv < b.inv))) past.left before.before);
    apart = All-push (λ (a : Operation). precedes a a ≡ false) past.left o before.apart
        (ap (λ (r : Option Response). is_before r o.inv) pending);
    before = All-push (IsCallBefore (suc now)) past.left o
        (All-weaker (IsCallBefore now) (IsCallBefore (suc now)) (call_later now) past.left before.before)
        (record { begun = omega (arith, at); ended = λ response is. absurd (none_is_no response is) });
  }

  other_than : (p : Operation) → IsCallBefore now p → p.inv ≡ o.inv → ⊥
  other_than p before same = let h = before.begun in omega (arith, h, same, at)

  beside_begun : All (λ (read : OpenRead). read.inv < now) reads → (past : KeptPast) → IsBesideReads reads past
      → IsBesideReads reads (with_begun o past)
  beside_begun less past beside read read_in = All-push (λ (p : Operation). p.inv ≢ read.inv) past.left o (beside read read_in)
      (λ same. let h = All-contains (λ (r : OpenRead). r.inv < now) reads read less read_in in omega (arith, h, same, at))

  part_begun : (old new : Part) → IsBegunIn o old new → IsKeptOrder new.first → All (λ (read : OpenRead). read.inv < now) reads
      → IsPartBefore now reads old → IsPartBefore (suc now) reads new
  part_begun old new begun first less before = record {
    first = first;
    pasts = All-same (IsPastBefore (suc now)) (kept_part new).pasts (map (with_begun o) (kept_part old).pasts) begun.pasts
        (All-map (IsPastBefore (suc now)) (with_begun o) (kept_part old).pasts
        (All-weaker (IsPastBefore now) (λ past. IsPastBefore (suc now) (with_begun o past)) past_begun (kept_part old).pasts before.pasts));
    beside = All-same (IsBesideReads reads) (kept_part new).pasts (map (with_begun o) (kept_part old).pasts) begun.pasts
        (All-map (IsBesideReads reads) (with_begun o) (kept_part old).pasts
        (All-weaker (IsBesideReads reads) (λ past. IsBesideReads reads (with_begun o past)) (beside_begun less) (kept_part old).pasts
        before.beside));
  }

  abbrev AreOthers : List Operation → List Operation → Type 0
  AreOthers left others = All (λ (a : Operation). All (λ (p : Operation). a.inv ≢ p.inv) others) left

  abbrev AreOtherThan : Part → KeptPast → Type 0
  AreOtherThan other past = All (λ (b : KeptPast). AreOthers past.left b.left) (kept_part other).pasts

  begun_beside : (old new other : Part) → IsBegunIn o old new → IsPartBefore now reads other → AreBesideEachOther old other
      → AreBesideEachOther new other
  begun_beside old new other begun before beside =
      All-same (AreOtherThan other) (kept_part new).pasts (map (with_begun o) (kept_part old).pasts) begun.pasts
      (All-map (AreOtherThan other) (with_begun o) (kept_part old).pasts
      (All-weaker (AreOtherThan other) (λ past. (AreOtherThan other) (with_begun o past))
      (λ past h k d within. All-push (λ (a : Operation). All (λ (p : Operation). a.inv ≢ p.inv) (get_or (kept_part other).pasts k d).left)
      past.left o (h k d within)
      (All-weaker (IsCallBefore now) (λ (p : Operation). o.inv ≢ p.inv) (λ p less same. other_than p less (sym same))
      (get_or (kept_part other).pasts k d).left (before.pasts k d within).before)) (kept_part old).pasts beside))

  beside_one_begun : (old new other : Part) → IsBegunIn o old new → IsPartBefore now reads other → AreBesideEachOther other old
      → AreBesideEachOther other new
  beside_one_begun old new other begun before beside k d within =
      let own : KeptPast = get_or (kept_part other).pasts k d in
      All-same (λ (past : KeptPast). AreOthers own.left past.left) (kept_part new).pasts (map (with_begun o) (kept_part old).pasts) begun.pasts
      (All-map (λ (past : KeptPast). AreOthers own.left past.left) (with_begun o) (kept_part old).pasts
      (All-weaker (λ (past : KeptPast). AreOthers own.left past.left) (λ (past : KeptPast). AreOthers own.left (with_begun o past).left)
      (λ past h i e there. All-push (λ (p : Operation). (get_or own.left i e).inv ≢ p.inv) past.left o (h i e there)
      (λ same. other_than (get_or own.left i e) ((before.pasts k d within).before i e there) same)) (kept_part old).pasts
      (beside k d within)))

  pub shaped_change : (rest : Contents) (front back : List Part) (old new : Part) → IsBegunIn o old new → IsKeptOrder new.first
      → IsShaped (record { rest = rest; parts = front ++ old ∷ back; reads = reads; now = now })
      → IsShaped (record { rest = rest; parts = front ++ new ∷ back; reads = reads; now = suc now })
  shaped_change rest front back old new begun first shaped = record {
    rest = shaped.rest;
    parts = All-append (IsPartBefore (suc now) reads) front (new ∷ back)
        (All-weaker (IsPartBefore now reads) (IsPartBefore (suc now) reads) (part_later now reads) front in_front)
        (All-cons (IsPartBefore (suc now) reads) new back (part_begun old new begun first shaped.reads (in_back 0 old (omega arith)))
        (All-weaker (IsPartBefore now reads) (IsPartBefore (suc now) reads) (part_later now reads) back
        (All-tail (IsPartBefore now reads) old back in_back)));
    apart = AllPairs-append AreBesideEachOther front (new ∷ back) (AllPairs-front AreBesideEachOther front (old ∷ back) shaped.apart)
        (AllPairs-cons AreBesideEachOther new back
        (λ k d within. begun_beside old new (get_or back k d) begun (All-tail (IsPartBefore now reads) old back in_back k d within)
        (AllPairs-head AreBesideEachOther old back back_apart k d within))
        (AllPairs-tail AreBesideEachOther old back back_apart))
        (λ k d within. All-cons (AreBesideEachOther (get_or front k d)) new back
        (beside_one_begun old new (get_or front k d) begun (in_front k d within) (across k d within 0 old (omega arith)))
        (All-tail (AreBesideEachOther (get_or front k d)) old back (across k d within)));
    reads = All-weaker (λ (read : OpenRead). read.inv < now) (λ (read : OpenRead). read.inv < suc now)
        (λ read less. omega (arith, less)) reads shaped.reads;
    distinct = shaped.distinct;
  }
    where
      in_front : All (IsPartBefore now reads) front
      in_front = All-front (IsPartBefore now reads) front (old ∷ back) shaped.parts

      in_back : All (IsPartBefore now reads) (old ∷ back)
      in_back = All-back (IsPartBefore now reads) front (old ∷ back) shaped.parts

      back_apart : AllPairs AreBesideEachOther (old ∷ back)
      back_apart = AllPairs-back AreBesideEachOther front (old ∷ back) shaped.apart

      across : All (λ part. All (AreBesideEachOther part) (old ∷ back)) front
      across = AllPairs-across AreBesideEachOther front (old ∷ back) shaped.apart

-- ---- a read

module _ (now : ℕ) (reads : List OpenRead) (read : OpenRead) (at : read.inv ≡ now) where
  beside_read : (past : KeptPast) → IsPastBefore now past → IsBesideReads reads past → IsBesideReads (reads ++ read ∷ []) past
  beside_read past before beside other other_in = ⊎_elim
      (λ old. beside other old)
      (λ (same : read ≡ other). All-weaker (IsCallBefore now) (λ (p : Operation). p.inv ≢ other.inv)
      (λ p less is. let h = less.begun in let e = ap (λ (r : OpenRead). r.inv) same in omega (arith, h, is, e, at)) past.left before.before)
      (last_or_old reads read other other_in)

  part_read : (part : Part) → IsPartBefore now reads part → IsPartBefore (suc now) (reads ++ read ∷ []) part
  part_read part before = record {
    first = before.first;
    pasts = (part_later now reads part before).pasts;
    beside = λ k d within.
        beside_read (get_or (kept_part part).pasts k d) (before.pasts k d within) (before.beside k d within);
  }

  pub shaped_read : (rest : Contents) (parts : List Part)
      → IsShaped (record { rest = rest; parts = parts; reads = reads; now = now })
      → IsShaped (record { rest = rest; parts = parts; reads = reads ++ read ∷ []; now = suc now })
  shaped_read rest parts shaped = record {
    rest = shaped.rest;
    parts = All-weaker (IsPartBefore now reads) (IsPartBefore (suc now) (reads ++ read ∷ [])) part_read parts shaped.parts;
    apart = shaped.apart;
    reads = All-push (λ (r : OpenRead). r.inv < suc now) reads read
        (All-weaker (λ (r : OpenRead). r.inv < now) (λ (r : OpenRead). r.inv < suc now) (λ r less. omega (arith, less)) reads shaped.reads)
        (omega (arith, at));
    distinct = AllPairs-append (λ (r s : OpenRead). r.inv ≢ s.inv) reads (read ∷ []) shaped.distinct
        (AllPairs-cons (λ (r s : OpenRead). r.inv ≢ s.inv) read [] (All-nil (λ (s : OpenRead). read.inv ≢ s.inv))
        (AllPairs-nil (λ (r s : OpenRead). r.inv ≢ s.inv)))
        (All-weaker (λ (r : OpenRead). r.inv < now) (λ (r : OpenRead). All (λ (s : OpenRead). r.inv ≢ s.inv) (read ∷ []))
        (λ r less. All-cons (λ (s : OpenRead). r.inv ≢ s.inv) read [] (λ same. omega (arith, less, same, at))
        (All-nil (λ (s : OpenRead). r.inv ≢ s.inv))) reads shaped.reads);
  }

-- ---- a key that was at rest

pub pasts_of_key : (key : ℕ) (value : Option ℕ) (part : Part) → IsPartOf key value part
    → (kept_part part).pasts ≡ at_rest part.first.start ∷ []
pasts_of_key key value part of_key =
    let left : part.first.calls ≡ [] = of_key.no_calls in
    let found : map found_at part.found.items ≡ [] = ap (λ (fs : List Found). map found_at fs) of_key.no_found in
    let alone : map kept_of part.others.items ≡ [] = ap (λ (ps : List Past). map kept_of ps) of_key.alone in
    ap (λ (ps : List KeptPast). past_of part.first part.found.items ∷ ps) alone
    ∙ (ap (λ (fs : List FoundAt). record { pairs = part.first.start; left = part.first.calls; found = fs } ∷ []) found
    ∙ ap (λ (os : List Operation). record { pairs = part.first.start; left = os; found = [] } ∷ []) left)

module _ (now : ℕ) (reads : List OpenRead) (key : ℕ) (value : Option ℕ) (part : Part) (of_key : IsPartOf key value part)
    (first : IsKeptOrder part.first) where
  all_pasts : (P : KeptPast → Type 0) → P (at_rest part.first.start) → All P (kept_part part).pasts
  all_pasts P here = All-same P (kept_part part).pasts (at_rest part.first.start ∷ []) (pasts_of_key key value part of_key)
      (All-cons P (at_rest part.first.start) [] here (All-nil P))

  part_of_key : IsPartBefore now reads part
  part_of_key = record {
    first = first;
    pasts = all_pasts (IsPastBefore now) (record {
      rising = AllPairs-nil (λ (a b : Operation). a.inv < b.inv);
      apart = All-nil (λ (a : Operation). precedes a a ≡ false);
      before = All-nil (IsCallBefore now);
    });
    beside = all_pasts (IsBesideReads reads) (λ read read_in. All-nil (λ (p : Operation). p.inv ≢ read.inv));
  }

  beside_key : (other : Part) → AreBesideEachOther other part
  beside_key other k d within =
      all_pasts (λ (past : KeptPast). All (λ (a : Operation). All (λ (p : Operation). a.inv ≢ p.inv) past.left) (get_or (kept_part other).pasts k d).left)
      (λ i e there. All-nil (λ (p : Operation). (get_or (get_or (kept_part other).pasts k d).left i e).inv ≢ p.inv))

  pub shaped_key : (rest rest_new : Contents) (parts : List Part) → IsTakenOut key rest rest_new
      → IsShaped (record { rest = rest; parts = parts; reads = reads; now = now })
      → IsShaped (record { rest = rest_new; parts = parts ++ part ∷ []; reads = reads; now = now })
  shaped_key rest rest_new parts out shaped = record {
    rest = out.rises shaped.rest;
    parts = All-push (IsPartBefore now reads) parts part shaped.parts part_of_key;
    apart = AllPairs-append AreBesideEachOther parts (part ∷ []) shaped.apart
        (AllPairs-cons AreBesideEachOther part [] (All-nil (AreBesideEachOther part)) (AllPairs-nil AreBesideEachOther))
        (λ k d within. All-cons (AreBesideEachOther (get_or parts k d)) part [] (beside_key (get_or parts k d))
        (All-nil (AreBesideEachOther (get_or parts k d))));
    reads = shaped.reads;
    distinct = shaped.distinct;
  }

-- ---- the state after a call

abbrev view_of : Contents → List Part → List OpenRead → ℕ → PartsView
view_of rest parts reads now = record { rest = rest; parts = parts; reads = reads; now = now }

pub same_view : (rest rest_then : Contents) (parts parts_then : List Part) (reads reads_then : List OpenRead) (now now_then : ℕ)
    → rest ≡ rest_then → parts ≡ parts_then → reads ≡ reads_then → now ≡ now_then
    → view_of rest parts reads now ≡ view_of rest_then parts_then reads_then now_then
same_view rest rest_then parts parts_then reads reads_then now now_then e f g h =
    ap (λ (r : Contents). view_of r parts reads now) e
    ∙ (ap (λ (p : List Part). view_of rest_then p reads now) f
    ∙ (ap (λ (r : List OpenRead). view_of rest_then parts_then r now) g
    ∙ ap (λ (n : ℕ). view_of rest_then parts_then reads_then n) h))

-- after a read began
abbrev pub next_read : PartsView → Call → PartsView
next_read s call = record { rest = s.rest; parts = s.parts; reads = s.reads ++ read_of (begun call s.now) ∷ []; now = suc s.now }

pub next_is_shaped : (s : PartsView) (call : Call) → IsShaped s → IsShaped (next_read s call)
next_is_shaped s call shaped = shaped_read s.now s.reads (read_of (begun call s.now)) refl s.rest s.parts shaped

pub next_is_state : (s : PartsView) (call : Call) → may_change call ≡ false → (start : Contents) (calls : List Operation)
    → IsStateOf start calls s → IsStateOf start (calls ++ begun call s.now ∷ []) (next_read s call)
next_is_state s call keeps start calls is = record {
  kept = reads_begin start s.now calls (kept_parts s) (begun call s.now) refl refl keeps is.kept;
  reads = reads_more calls (begun call s.now) s.reads refl keeps is.reads;
}

-- ---- a part of one key

one_key : (key other : ℕ) → ((nat_le key other && nat_le other key) || false) ≡ (other == key)
one_key key other = grind (arith, nat_tests)

pub is_part_of_key : (key : ℕ) (rest : Contents) (value : Option ℕ) (part : Part) → value ≡ packed_at rest key
    → part.first ≡ record { start = entry_if key value; calls = []; order = [] }
    → part.ranges.items ≡ record { low = key; high = key } ∷ [] → part.found.items ≡ [] → part.others.items ≡ []
    → IsPartOf key (value_at rest key) part
is_part_of_key key rest value part was first ranges found others =
    let start : part.first.start ≡ entry_if key value = ap (λ (v : StoredOrderView). v.start) first in record {
      keys = λ other. ap (λ (rs : List Range). covered rs other) ranges ∙ one_key key other;
      rising = subst (λ (m : Contents). IsRising m) (sym start) (entry_rises key value);
      holds = λ other. ap (λ (m : Contents). value_at m other) start ∙ (entry_holds key value other
          ∙ ap (λ (v : Option ℕ). if other == key then v else None) (was ∙ packed_same rest key));
      no_calls = ap (λ (v : StoredOrderView). v.calls) first;
      no_order = ap (λ (v : StoredOrderView). v.order) first;
      no_found = found;
      alone = others;
    }
