-- The ends of an insert's way, at a row that is held, whichever way it went there.
use Rattle.art_schedules.proofs.Common.{◌≡◌, ◌⊎◌, inl, inr, ℕ, suc, ◌+◌, ◌<◌, ◌≤◌, List, [], ◌∷◌, Bool, true, false}
use Rattle.art_rows.specs.Rows.{Row}
use Rattle.art_schedules.specs.alone.Alone.{Ends}
use Rattle.art_schedules.proofs.Common.{refl, sym, ap, ◌∙◌, subst, arith, eqb-true, unwrap_or, eqb-false, none-some, same_Some}
use Rattle.art_schedules.proofs.Common.{Insert, Reply, Contents, value_at, Shape, Kind, Child, Empty, ChildRow, Leaf, table_words, key_bytes}
use Rattle.art_schedules.proofs.Common.{first_difference, leaf_word, key_byte-small, Variant, Setting, unlock, Rest, Part, ◌>>=◌, ◌>>◌, give}
use Rattle.art_schedules.proofs.Common.{store, keys_differ_at, insert_in, pair_in, Means, slot_of, child_on, IsAtRest, LeadsTo, Parts}
use Rattle.art_schedules.proofs.Common.{SameTreesAreOne, WaysLeadToValues, LeavesArePut, PairsAreHung, GrownRowsAreHung, LeavesAreSmall, KeysPart}
use Rattle.art_schedules.proofs.Common.{WordsAreReadBack, VersionsSay, WordsAreSmall, IsStored, IsShort, Comes, unlocked_rows}
use Rattle.std.proofs.Common.{◌≢◌, slice_set, Option, option_map, ◌==◌, slice_index, Some, None, if◌then◌else◌}
use Rattle.events.specs.declared.event.Reply.TheVariants as reply
use Rattle.art_schedules.specs.writes.Laws as writes
use Rattle.art_schedules.proofs.alone.AloneLemmas.{give-comes, bind-comes, bind-ends, then-comes, store-comes, ends-bind, ends-then, same-comes}
use Rattle.art_schedules.proofs.alone.AloneLemmas.{same-ends}
use Rattle.art_schedules.proofs.alone.RowRunLemmas.{unlock-comes}
use Rattle.art_schedules.proofs.alone.LikeLemmas.{Nothing}
use Rattle.art_schedules.proofs.inserts.NearLemmas.{Near, Among, IsHeld}
use Rattle.art_schedules.proofs.inserts.OutcomeLemmas.{Outcome}
use Rattle.art_schedules.proofs.inserts.ShortLemmas.{Short, steps_of, short-few, short-more, give-short, bind-short, then-short, store-short}
use Rattle.art_schedules.proofs.inserts.ShortLemmas.{unlock-short, pair_in-short, bind-few, bind-ends-few, same-steps, same-ends-steps}
use Rattle.art_schedules.proofs.inserts.PairOutcomeLemmas.{Hangs, hangs-pair}
use Rattle.art_schedules.proofs.inserts.PutOutcomeLemmas.{leaf-outcome}

-- ---- bytes

-- where lists differ first, they differ
pub first-differs : (xs ys : List ℕ) (d : ℕ) → first_difference xs ys ≡ Some d → slice_index xs d ≢ slice_index ys d
first-differs [] ys d e = absurd (none-some d e)
first-differs (x ∷ xs) [] d e = absurd (none-some d e)
first-differs (x ∷ xs) (y ∷ ys) d e = go (x == y) refl (λ i f. first-differs xs ys i f) e
  where
    later : (o : Option ℕ) → ((i : ℕ) → first_difference xs ys ≡ Some i → slice_index xs i ≢ slice_index ys i)
        → first_difference xs ys ≡ o → option_map (λ i. i + 1) o ≡ Some d → slice_index (x ∷ xs) d ≢ slice_index (y ∷ ys) d
    later None rest f g = absurd (none-some d g)
    later (Some i) rest f g =
        subst (λ j. slice_index (x ∷ xs) j ≢ slice_index (y ∷ ys) j) (same_Some (suc i) d (ap Some (plus i) ∙ g)) (rest i f)
      where
        plus : (j : ℕ) → suc j ≡ j + 1
        plus j = omega arith

    go : (b : Bool) → (x == y) ≡ b → ((i : ℕ) → first_difference xs ys ≡ Some i → slice_index xs i ≢ slice_index ys i)
        → (if b then option_map (λ i. i + 1) (first_difference xs ys) else Some 0) ≡ Some d
        → slice_index (x ∷ xs) d ≢ slice_index (y ∷ ys) d
    go true same rest f = later (first_difference xs ys) rest refl f
    go false other rest f = subst (λ j. slice_index (x ∷ xs) j ≢ slice_index (y ∷ ys) j) (same_Some 0 d f) (eqb-false x y other)

-- what the ends of an insert use
pub record Given : Type 0 where
  pub trees : SameTreesAreOne
  pub ways : WaysLeadToValues
  pub puts : LeavesArePut
  pub pairs : PairsAreHung
  pub grown : GrownRowsAreHung
  pub leaves : LeavesAreSmall
  pub part : KeysPart
  pub put_written : writes.PutsWriteLeaves
  pub pair_written : writes.PairsAreWritten
  pub row_written : writes.RowsAreFilled
  pub read : WordsAreReadBack
  pub versions : VersionsSay
  pub sized : WordsAreSmall

module _ (g : Given) (s : Shape) (variant : Variant) (n : ℕ) (words : List ℕ) (rest : IsAtRest s n words) (few : n < 4611686018427387904)
    (bounded : table_words s < 2305843009213693952) (m : Contents)
    (means : Means s words m) (key value : ℕ) (key_small : key < 4294967296) (value_small : value < 1073741824) where
  abbrev c : Setting
  c = record { shape = s; variant = variant; call = Insert key value }

  -- A part ends an insert's way. By at most k accesses it runs alone to a reply, or the call is
  -- answered; and the outcome is that of an insert.
  pub record Inserts (k : ℕ) (part : Part Reply) (now : List ℕ) : Type 0 where
    pub reply : Reply
    pub later : List ℕ
    pub comes : Comes part now reply later ⊎ Ends part now reply later
    pub brief : steps_of comes ≤ k
    pub outcome : Outcome s n words rest m means key value reply later

  -- a part that makes few accesses anyway
  pub ended : {part : Part Reply} {now : List ℕ} (k : ℕ) → Short k part → (reply : Reply) (later : List ℕ)
      → Comes part now reply later ⊎ Ends part now reply later → Outcome s n words rest m means key value reply later → Inserts k part now
  ended k short reply later comes outcome =
      record { reply = reply; later = later; comes = comes; brief = short-few short comes; outcome = outcome }

  pub within : {part : Part Reply} {now : List ℕ} {j : ℕ} (k : ℕ) → Inserts j part now → j ≤ k → Inserts k part now
  within k i le =
      let brief = i.brief in
      record { reply = i.reply; later = i.later; comes = i.comes; brief = omega (arith, brief, le); outcome = i.outcome }

  -- a part before it
  pub after-part : {A : Type 0} {p : Part A} {f : A → Part Reply} {now between : List ℕ} {a : A} {j k : ℕ}
      (h : Comes p now a between) → h.steps ≤ j
      → Inserts k (f a) between → Inserts (j + k) (p >>= f) now
  after-part {A} {p} {f} {now} {between} {a} {j} {k} h le i = go i.comes i.brief
    where
      go : (o : Comes (f a) between i.reply i.later ⊎ Ends (f a) between i.reply i.later) → steps_of o ≤ k → Inserts (j + k) (p >>= f) now
      go (inl c) lc =
          record {
            reply = i.reply;
            later = i.later;
            comes = inl (bind-comes {f = f} h c);
            brief =
                bind-few f h c le lc;
            outcome = i.outcome;
          }
      go (inr c) lc =
          record {
            reply = i.reply;
            later = i.later;
            comes = inr (bind-ends {f = f} h c);
            brief =
                bind-ends-few f h c le lc;
            outcome = i.outcome;
          }

  -- a part that is the same on each list of words
  pub same-part : {part other : Part Reply} {now : List ℕ} {k : ℕ} → ((again : Rest) (after : Reply → Rest) (got : List ℕ)
      → part again after got ≡ other again after got) → Inserts k other now → Inserts k part now
  same-part {part} {other} {now} {k} e i = go i.comes i.brief
    where
      go : (o : Comes other now i.reply i.later ⊎ Ends other now i.reply i.later) → steps_of o ≤ k → Inserts k part now
      go (inl c) le =
          let as_many = same-steps {m = part} e c in
          record { reply = i.reply; later = i.later; comes = inl (same-comes e c); brief = omega (arith, le, as_many); outcome = i.outcome }
      go (inr c) le =
          let as_many = same-ends-steps {m = part} e c in
          record { reply = i.reply; later = i.later; comes = inr (same-ends e c); brief = omega (arith, le, as_many); outcome = i.outcome }

  module _ (r : Row) (now : List ℕ) (held : IsHeld s n words rest r)
      (near : Near s n words rest Nothing (Among s n words rest (r ∷ [])) Nothing now)
      (x : ℕ) (leads : LeadsTo s words key r.base r.kind x) (byte : x < 256) (slot : ℕ)
      (at : slot_of words r.base r.kind x ≡ Some slot) where
    -- a pair in the slot of the held row, and the row is unlocked
    pub pair-in : (d a : ℕ) (child : Child) → child_on s words r.base r.kind x ≡ child → Parts words key d a child → IsStored s child
        → IsShort child → a < 256
        → a ≢ slice_index (key_bytes key) d → value_at m key ≡ None
        → Inserts 8 ((pair_in c (r ∷ []) slot d (record { byte = a; child = child }) >> give reply.None) >>= λ q. unlock r >> give q) now
    pair-in d a child on parts stored short small apart absent = go h.comes
      where
        h : Hangs g.trees g.pairs g.pair_written g.read g.sized s variant n words rest few bounded m means key value key_small value_small
            (pair_in c (r ∷ []) slot d (record { byte = a; child = child })) (r ∷ []) now
        h = hangs-pair g.trees g.pairs g.pair_written g.read g.sized s variant n words rest few bounded m means key value key_small
            value_small (r ∷ []) now
            (held, tt) near r.base r.kind x
            slot d a child leads byte at on parts stored short small apart absent

        short_part : Short 8 ((pair_in c (r ∷ []) slot d (record { byte = a; child = child }) >> give reply.None) >>= λ q.
            unlock r >> give q)
        short_part =
            short-more 8 (bind-short (then-short (pair_in-short c (r ∷ []) slot d (record { byte = a; child = child }))
            (give-short reply.None))
            (λ q. then-short (unlock-short r) (give-short q))) (omega arith)

        go : (Comes (pair_in c (r ∷ []) slot d (record { byte = a; child = child })) now tt h.after
            × Outcome s n words rest m means key value reply.None (unlocked_rows (r ∷ []) h.after))
            ⊎ (Ends (pair_in c (r ∷ []) slot d (record { byte = a; child = child })) now reply.Refused h.after
            × Outcome s n words rest m means key value reply.Refused h.after)
            → Inserts 8 ((pair_in c (r ∷ []) slot d (record { byte = a; child = child }) >> give reply.None) >>= λ q.
            unlock r >> give q) now
        go (inl (k, o)) = ended 8 short_part reply.None (unlocked_rows (r ∷ []) h.after)
            (inl (bind-comes {f = λ q. unlock r >> give q} (then-comes {n = give reply.None} k (give-comes reply.None h.after))
            (then-comes {n = give reply.None} (unlock-comes r h.after) (give-comes reply.None (unlocked_rows (r ∷ []) h.after))))) o
        go (inr (k, o)) = ended 8 short_part reply.Refused h.after
            (inr (ends-bind {f = λ q. unlock r >> give q} (ends-then {n = give reply.None} k))) o

    -- the leaf in the slot of the held row, and the row is unlocked
    leaf-in : (o : Option ℕ) (q : Reply) → value_at m key ≡ o
        → Outcome s n words rest m means key value q (unlocked_rows (r ∷ []) (slice_set now slot (leaf_word key value)))
        → Inserts 8 ((store slot (leaf_word key value) >> give q) >>= λ q. unlock r >> give q) now
    leaf-in o q has out = ended 8
        (short-more 8 (bind-short (then-short (store-short slot (leaf_word key value)) (give-short q))
        (λ q. then-short (unlock-short r) (give-short q)))
        (omega arith)) q (unlocked_rows (r ∷ []) (slice_set now slot (leaf_word key value)))
        (inl (bind-comes {f = λ q. unlock r >> give q}
        (then-comes {n = give q} (store-comes slot (leaf_word key value) now) (give-comes q _))
        (then-comes {n = give q} (unlock-comes r (slice_set now slot (leaf_word key value))) (give-comes q _)))) out

    -- An insert in a slot of the held row that has no row in it.
    pub ends-in : (child : Child) → child_on s words r.base r.kind x ≡ child → ((b : ℕ) (k : Kind) → child ≡ ChildRow b k → ⊥)
        → Inserts 8 (insert_in c (r ∷ []) slot child >>= λ q. unlock r >> give q) now
    unfolding insert_in
    ends-in Empty on no_row =
        leaf-in None reply.None absent
        (leaf-outcome g.puts g.put_written g.read s variant n words rest m means key value key_small value_small r now held near x
        leads byte slot at
        (inl on) None absent)
      where
        absent : value_at m key ≡ None
        absent = (g.ways s words m key r.base r.kind x rest.tree means leads).0 on
    ends-in (ChildRow b k) on no_row = absurd (no_row b k refl)
    ends-in (Leaf k old) on no_row = go (k == key) refl
      where
        go : (b : Bool) → (k == key) ≡ b → Inserts 8 ((if b then (store slot (leaf_word key value) >> give (reply.Some old))
            else (pair_in c (r ∷ []) slot (keys_differ_at k key)
            (record { byte = slice_index (key_bytes k) (keys_differ_at k key); child = Leaf k old })
            >> give reply.None)) >>= λ q. unlock r >> give q) now
        go true e =
            let own : k ≡ key = eqb-true k key e in
            let has : value_at m key ≡ Some old = ((g.ways s words m key r.base r.kind x rest.tree means leads).1 k old on).0 own in
            leaf-in (Some old) (reply.Some old) has
            (leaf-outcome g.puts g.put_written g.read s variant n words rest m means key value key_small value_small r now held near
            x leads byte slot at (inr (old, on ∙ ap (λ i. Leaf i old) own)) (Some old) has)
        go false e =
            let other = eqb-false k key e in
            let (k_small, old_small) = g.leaves s words r.base r.kind x k old rest.small on in
            let (i, is) = g.part k key k_small key_small other in
            let at_i : keys_differ_at k key ≡ i = ap (λ o. unwrap_or o 0) is in
            let differ = is ∙ ap Some (sym at_i) in
            pair-in (keys_differ_at k key) (slice_index (key_bytes k) (keys_differ_at k key)) (Leaf k old) on (differ, refl) old_small
            (k_small, old_small)
            (key_byte-small k (keys_differ_at k key)) (first-differs (key_bytes k) (key_bytes key) (keys_differ_at k key) differ)
            (((g.ways s words m key r.base r.kind x rest.tree means leads).1 k old on).1 other)
