-- A thing is put somewhere among others: what holds of all of them (`all_put`, `pairs_put`), and the state, which is the same wherever a part
-- (`put_shaped`, `put_state`) or a pending read (`reads_shaped`, `reads_state`) was put.
use Rattle.follow_parts.proofs.Common.{◌≡◌, ℕ, not, ◌<◌, ◌||◌, List, [], ◌∷◌, ◌++◌, map, get_or, refl, sym, ap, ◌∙◌, subst, append-nil, append_assoc}
use Rattle.follow_parts.proofs.Common.{◌≢◌, All, AllPairs, Contains, list_any, map-append, All-append, All-cons, All-contains, All-head, All-tail}
use Rattle.follow_parts.proofs.Common.{All-weaker, AllPairs-cons, All-back, All-front, AllPairs-across, AllPairs-append, AllPairs-back, AllPairs-front}
use Rattle.follow_parts.proofs.Common.{AllPairs-head, AllPairs-tail, Operation, Contents, KeptPart, AreKept, parts_move, same_keys, at_rest}
use Rattle.follow_parts.proofs.Common.{kept_part, AreBesideEachOther, Part, OpenRead, IsPut, IsPartBefore, IsShaped, IsStateOf, is_at_rest, kept_rest}
use Rattle.std.proofs.lemmas.List.Elements.{All-contains_itself}
use Rattle.follow_parts.proofs.SettledLemmas.{ahead, any_split, beside_turned, has_key, view_of}

-- ---- things

module _ {A : Type 0} (one : A) where
  pub put_last : (others : List A) → IsPut one others (others ++ one ∷ [])
  put_last others = record { front = others; back = []; before = sym (append-nil others); after = refl }

  pub put_later : (more old new : List A) → IsPut one old new → IsPut one (more ++ old) (more ++ new)
  put_later more old new put = record {
    front = more ++ put.front;
    back = put.back;
    before = ap (λ (l : List A). more ++ l) put.before ∙ sym (append_assoc more put.front put.back);
    after = ap (λ (l : List A). more ++ l) put.after ∙ sym (append_assoc more put.front (one ∷ put.back));
  }

  module _ (old new : List A) (put : IsPut one old new) where
    pub one_of : (P : A → Type 0) → All P new → P one
    one_of P all =
        All-head P one put.back (All-back P put.front (one ∷ put.back) (subst (λ (l : List A). All P l) put.after all))

    pub others_of : (P : A → Type 0) → All P new → All P old
    others_of P all =
        let there : All P (put.front ++ one ∷ put.back) = subst (λ (l : List A). All P l) put.after all in
        subst (λ (l : List A). All P l) (sym put.before) (All-append P put.front put.back (All-front P put.front (one ∷ put.back) there)
        (All-tail P one put.back (All-back P put.front (one ∷ put.back) there)))

    pub all_put : (P : A → Type 0) → P one → All P old → All P new
    all_put P here all =
        let there : All P (put.front ++ put.back) = subst (λ (l : List A). All P l) put.before all in
        subst (λ (l : List A). All P l) (sym put.after) (All-append P put.front (one ∷ put.back) (All-front P put.front put.back there)
        (All-cons P one put.back here (All-back P put.front put.back there)))

    module _ (R : A → A → Type 0) (turn : (a b : A) → R a b → R b a) where
      pub pairs_one : AllPairs R new → All (R one) old
      pairs_one pairs =
          let there : AllPairs R (put.front ++ one ∷ put.back) = subst (λ (l : List A). AllPairs R l) put.after pairs in
          subst (λ (l : List A). All (R one) l) (sym put.before) (All-append (R one) put.front put.back
          (λ k d within. turn (get_or put.front k d) one
          (All-head (R (get_or put.front k d)) one put.back (AllPairs-across R put.front (one ∷ put.back) there k d within)))
          (AllPairs-head R one put.back (AllPairs-back R put.front (one ∷ put.back) there)))

      pub pairs_others : AllPairs R new → AllPairs R old
      pairs_others pairs =
          let there : AllPairs R (put.front ++ one ∷ put.back) = subst (λ (l : List A). AllPairs R l) put.after pairs in
          subst (λ (l : List A). AllPairs R l) (sym put.before) (AllPairs-append R put.front put.back
          (AllPairs-front R put.front (one ∷ put.back) there)
          (AllPairs-tail R one put.back (AllPairs-back R put.front (one ∷ put.back) there))
          (λ k d within. All-tail (R (get_or put.front k d)) one put.back
          (AllPairs-across R put.front (one ∷ put.back) there k d within)))

      pub pairs_put : All (R one) old → AllPairs R old → AllPairs R new
      pairs_put here pairs =
          let there : AllPairs R (put.front ++ put.back) = subst (λ (l : List A). AllPairs R l) put.before pairs in
          let own : All (R one) (put.front ++ put.back) = subst (λ (l : List A). All (R one) l) put.before here in
          subst (λ (l : List A). AllPairs R l) (sym put.after) (AllPairs-append R put.front (one ∷ put.back)
          (AllPairs-front R put.front put.back there)
          (AllPairs-cons R one put.back (All-back (R one) put.front put.back own) (AllPairs-back R put.front put.back there))
          (λ k d within. All-cons (R (get_or put.front k d)) one put.back
          (turn one (get_or put.front k d) (All-front (R one) put.front put.back own k d within))
          (AllPairs-across R put.front put.back there k d within)))

  pub put_contains : (old first second : List A) → IsPut one old first → IsPut one old second → (x : A) → Contains first x → Contains second x
  put_contains old first second put put_then x there =
      let all : All (Contains second) second = All-contains_itself second in
      All-contains (Contains second) first x (all_put old first put (Contains second)
      (one_of old second put_then (Contains second) all) (others_of old second put_then (Contains second) all)) there

-- ---- a part

module _ (rest : Contents) (part : Part) (others first second : List Part) (reads : List OpenRead) (now : ℕ) (put : IsPut part others first)
    (put_then : IsPut part others second) where
  pub put_shaped : IsShaped (view_of rest first reads now) → IsShaped (view_of rest second reads now)
  put_shaped shaped = record {
    rest = shaped.rest;
    parts = all_put part others second put_then (IsPartBefore now reads)
        (one_of part others first put (IsPartBefore now reads) shaped.parts) (others_of part others first put (IsPartBefore now reads) shaped.parts);
    apart = pairs_put part others second put_then AreBesideEachOther beside_turned
        (pairs_one part others first put AreBesideEachOther beside_turned shaped.apart)
        (pairs_others part others first put AreBesideEachOther beside_turned shaped.apart);
    reads = shaped.reads;
    distinct = shaped.distinct;
  }

  same_rest : (key : ℕ) → is_at_rest second key ≡ is_at_rest (put.front ++ part ∷ put.back) key
  same_rest key =
      ap (λ (ps : List Part). is_at_rest ps key) put_then.after
      ∙ ap not (any_split (has_key key) put_then.front part put_then.back
      ∙ (ap (λ (ps : List Part). has_key key part || list_any (has_key key) ps) (sym put_then.before ∙ put.before)
      ∙ sym (any_split (has_key key) put.front part put.back)))

  pub put_kept : (start : Contents) (calls : List Operation) → AreKept start now calls (kept_rest rest first ∷ map kept_part first)
      → AreKept start now calls (kept_rest rest second ∷ map kept_part second)
  put_kept start calls kept =
      same_keys start now calls (is_at_rest (put.front ++ part ∷ put.back)) (is_at_rest second) (at_rest rest ∷ []) (map kept_part second) same_rest
      (subst (λ (ps : List Part). AreKept start now calls (rests ∷ map kept_part ps)) (sym put_then.after) in_between)
    where
      rests : KeptPart
      rests = kept_rest rest (put.front ++ part ∷ put.back)

      -- the part at the head
      at_head : AreKept start now calls (kept_part part ∷ rests ∷ map kept_part (put_then.front ++ put_then.back))
      at_head = subst (λ (ps : List Part). AreKept start now calls (kept_part part ∷ rests ∷ map kept_part ps)) (sym put.before ∙ put_then.before)
          (ahead start now calls rest put.front part put.back
          (subst (λ (ps : List Part). AreKept start now calls (kept_rest rest ps ∷ map kept_part ps)) put.after kept))

      in_between : AreKept start now calls (rests ∷ map kept_part (put_then.front ++ part ∷ put_then.back))
      in_between = subst (λ (ps : List KeptPart). AreKept start now calls (rests ∷ ps)) (sym (map-append kept_part put_then.front (part ∷ put_then.back)))
          ((parts_move start now calls (kept_part part) (rests ∷ map kept_part put_then.front) (map kept_part put_then.back)).1
          (subst (λ (ps : List KeptPart). AreKept start now calls (kept_part part ∷ rests ∷ ps)) (map-append kept_part put_then.front put_then.back)
          at_head))

  pub put_state : (start : Contents) (calls : List Operation) → IsStateOf start calls (view_of rest first reads now)
      → IsStateOf start calls (view_of rest second reads now)
  put_state start calls is = record { kept = put_kept start calls is.kept; reads = is.reads }

-- ---- a pending read

module _ (read : OpenRead) (reads first second : List OpenRead) (put : IsPut read reads first) (put_then : IsPut read reads second)
    (rest : Contents) (parts : List Part) (now : ℕ) where
  abbrev AreOther : OpenRead → OpenRead → Type 0
  AreOther a b = a.inv ≢ b.inv

  turn : (a b : OpenRead) → AreOther a b → AreOther b a
  turn a b differ same = differ (sym same)

  part_again : (part : Part) → IsPartBefore now first part → IsPartBefore now second part
  part_again part before = record {
    first = before.first;
    pasts = before.pasts;
    beside = λ k d within other other_in. before.beside k d within other (put_contains read reads second first put_then put other other_in);
  }

  pub reads_shaped : IsShaped (view_of rest parts first now) → IsShaped (view_of rest parts second now)
  reads_shaped shaped = record {
    rest = shaped.rest;
    parts = All-weaker (IsPartBefore now first) (IsPartBefore now second) part_again parts shaped.parts;
    apart = shaped.apart;
    reads = all_put read reads second put_then (λ (r : OpenRead). r.inv < now)
        (one_of read reads first put (λ (r : OpenRead). r.inv < now) shaped.reads)
        (others_of read reads first put (λ (r : OpenRead). r.inv < now) shaped.reads);
    distinct = pairs_put read reads second put_then AreOther turn (pairs_one read reads first put AreOther turn shaped.distinct)
        (pairs_others read reads first put AreOther turn shaped.distinct);
  }

  pub reads_state : (start : Contents) (calls : List Operation) → IsStateOf start calls (view_of rest parts first now)
      → IsStateOf start calls (view_of rest parts second now)
  reads_state start calls is = record {
    kept = is.kept;
    reads = λ inv low high. (
      (λ read_in. (is.reads inv low high).0
          (put_contains read reads second first put_then put (record { inv = inv; low = low; high = high }) read_in)),
      (λ of_calls. put_contains read reads first second put put_then (record { inv = inv; low = low; high = high })
          ((is.reads inv low high).1 of_calls)),
    );
  }
