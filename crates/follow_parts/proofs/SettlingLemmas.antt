-- A part is put to the others of a state, and may have moved on before (`stays_settled`, `moves_settled`). Parts that a range met are put back
-- one by one (`met_begins`, `settling_goes_on`, `settling_ends`).
use Rattle.follow_parts.proofs.Common.{◌≡◌, ℕ, Bool, not, ◌||◌, List, [], ◌∷◌, ◌++◌, map, get_or, Option, None, Some, refl, sym, ap, ◌∙◌, subst, ⊎_elim}
use Rattle.follow_parts.proofs.Common.{list_any, map-append, All-append, All-cons, All-head, All-back, AllPairs-append, AllPairs-back, AllPairs-cons, AllPairs-head}
use Rattle.follow_parts.proofs.Common.{Operation, Contents, KeptPart, AreKept, same_keys, at_rest, kept_part, AreBesideEachOther, Part, OpenRead, IsPut, is_at_rest}
use Rattle.follow_parts.proofs.Common.{kept_rest, PartsView, IsStateOf, IsPartBefore, IsShaped, IsKeptSo, IsSettled, IsWithPairs, MovesOn, Moved}
use Rattle.follow_parts.proofs.Common.{AreMet, AreParted, IsSettledWith, IsLeftPut, MayBePut, with_parts}
use Rattle.follow_parts.proofs.BegunLemmas.{same_view}
use Rattle.follow_parts.proofs.MetLemmas.{all_left, all_out, pairs_left, pairs_out, pairs_across, parted_kept}
use Rattle.follow_parts.proofs.PutLemmas.{put_last, put_later, put_shaped, put_state}
use Rattle.follow_parts.proofs.SettledLemmas.{any_split, beside_turned, gone_shape, gone_state, has_key, left_shape, left_state, stay_shape, stay_state}
use Rattle.follow_parts.proofs.SettledLemmas.{view_of}

-- ---- a part that is put to the others

module _ (s : PartsView) (part : Part) (rest : Contents) (parts : List Part) (reads : List OpenRead) (now : ℕ) (same_rest : rest ≡ s.rest)
    (same_parts : parts ≡ s.parts) (same_reads : reads ≡ s.reads) (same_now : now ≡ s.now) where
  was : s ≡ view_of rest parts reads now
  was = same_view s.rest rest s.parts parts s.reads reads s.now now (sym same_rest) (sym same_parts) (sym same_reads) (sym same_now)

  settled_so : (new : PartsView) → IsSettledWith part (view_of rest parts reads now) new → IsSettledWith part s new
  settled_so new is = subst (λ (v : PartsView). IsSettledWith part v new) (sym was) is

  pub may_move : MayBePut part s → IsPartBefore now reads part
  may_move may = (subst (λ (v : PartsView). MayBePut part v) was may).before

  pub stays_settled : (again : Part) → IsKeptSo part again → (new : List Part) → IsPut again parts new
      → IsSettledWith part s (view_of rest new reads now)
  stays_settled again same new put = settled_so (view_of rest new reads now) (record {
    now = refl;
    shaped = λ more shaped. put_shaped rest again (more ++ parts) ((more ++ parts) ++ again ∷ []) (more ++ new) reads now
        (put_last again (more ++ parts)) (put_later again more parts new put)
        (stay_shape rest [] part (more ++ parts) reads now shaped again same);
    state = λ more start calls is. put_state rest again (more ++ parts) ((more ++ parts) ++ again ∷ []) (more ++ new) reads now
        (put_last again (more ++ parts)) (put_later again more parts new put) start calls
        (stay_state rest [] part (more ++ parts) reads now again same start calls is);
  })

  module _ (moved : Moved) (moves : MovesOn now reads part moved) (rest_new : Contents) (came : IsWithPairs moved.pairs.items rest rest_new)
      (new : List Part) where
    moves_by : (left : Option Part) → moved.left ≡ left → IsLeftPut left parts new → IsSettledWith part s (view_of rest_new new reads now)
    moves_by None none same = settled_so (view_of rest_new new reads now) (record {
      now = refl;
      shaped = λ more shaped. subst (λ (ps : List Part). IsShaped (view_of rest_new (more ++ ps) reads now)) (sym same)
          (gone_shape rest [] part (more ++ parts) reads now shaped moved moves rest_new came);
      state = λ more start calls is. subst (λ (ps : List Part). IsStateOf start calls (view_of rest_new (more ++ ps) reads now)) (sym same)
          (gone_state rest [] part (more ++ parts) reads now moved moves rest_new came none start calls is);
    })
    moves_by (Some left) some put = settled_so (view_of rest_new new reads now) (record {
      now = refl;
      shaped = λ more shaped. put_shaped rest_new left (more ++ parts) ((more ++ parts) ++ left ∷ []) (more ++ new) reads now
          (put_last left (more ++ parts)) (put_later left more parts new put)
          (left_shape rest [] part (more ++ parts) reads now shaped moved moves rest_new came left some);
      state = λ more start calls is. put_state rest_new left (more ++ parts) ((more ++ parts) ++ left ∷ []) (more ++ new) reads now
          (put_last left (more ++ parts)) (put_later left more parts new put) start calls
          (left_state rest [] part (more ++ parts) reads now moved moves rest_new came left some start calls is);
    })

    pub moves_settled : IsLeftPut moved.left parts new → IsSettledWith part s (view_of rest_new new reads now)
    moves_settled put = moves_by moved.left refl put

-- with the part, the state has its shape
pub shaped_with : (s : PartsView) (part : Part) (new : PartsView) → IsSettledWith part s new → IsShaped s → MayBePut part s → IsShaped new
shaped_with s part new is shaped may = is.shaped [] (record {
  rest = shaped.rest;
  parts = All-cons (IsPartBefore s.now s.reads) part s.parts may.before shaped.parts;
  apart = AllPairs-cons AreBesideEachOther part s.parts may.beside shaped.apart;
  reads = shaped.reads;
  distinct = shaped.distinct;
})

-- ---- parts that a range met

-- with the parts that are not yet put back, a state says the same of the calls
pub record IsSettledBut (more : List Part) (old new : PartsView) : Type 0 where
  pub now : new.now ≡ old.now
  pub shaped : IsShaped (with_parts more new)
  pub state : (start : Contents) (calls : List Operation) → IsStateOf start calls old → IsStateOf start calls (with_parts more new)

parted_any : (f : Part → Bool) (old left out : List Part) → AreParted old left out → list_any f old ≡ list_any f (out ++ left)
parted_any f [] left out parted = sym (ap (λ (l : List Part). list_any f (l ++ left)) parted.1 ∙ ap (λ (l : List Part). list_any f l) parted.0)
parted_any f (p ∷ ps) left out parted = ⊎_elim
    (λ (more, is, rest). ap (λ (b : Bool). f p || b) (parted_any f ps more out rest)
    ∙ (sym (any_split f out p more) ∙ ap (λ (l : List Part). list_any f (out ++ l)) (sym is)))
    (λ (more, is, rest). ap (λ (b : Bool). f p || b) (parted_any f ps left more rest)
    ∙ ap (λ (l : List Part). list_any f (l ++ left)) (sym is))
    parted

settling_begins : (s : PartsView) (low high : ℕ) (left met : List Part) → IsShaped s → AreMet low high s.parts left met
    → IsSettledBut met s (view_of s.rest left s.reads s.now)
settling_begins s low high left met shaped is = record {
  now = refl;
  shaped = record {
    rest = shaped.rest;
    parts = All-append (IsPartBefore s.now s.reads) met left
        (all_out (IsPartBefore s.now s.reads) s.parts left met is.parted shaped.parts)
        (all_left (IsPartBefore s.now s.reads) s.parts left met is.parted shaped.parts);
    apart = AllPairs-append AreBesideEachOther met left (pairs_out AreBesideEachOther s.parts left met is.parted shaped.apart)
        (pairs_left AreBesideEachOther s.parts left met is.parted shaped.apart)
        (λ k d within i e there. beside_turned (get_or left i e) (get_or met k d)
        (pairs_across AreBesideEachOther beside_turned s.parts left met is.parted shaped.apart i e there k d within));
    reads = shaped.reads;
    distinct = shaped.distinct;
  };
  state = λ start calls state. record {
    kept = same_keys start s.now calls (is_at_rest s.parts) (is_at_rest (met ++ left)) (at_rest s.rest ∷ []) (map kept_part (met ++ left))
        (λ key. ap not (sym (parted_any (has_key key) s.parts left met is.parted)))
        (subst (λ (l : List KeptPart). AreKept start s.now calls (kept_rest s.rest s.parts ∷ l)) (sym (map-append kept_part met left))
        (parted_kept start s.now calls (kept_rest s.rest s.parts ∷ []) s.parts left met is.parted state.kept));
    reads = state.reads;
  };
}

pub met_begins : (s : PartsView) (rest : Contents) (parts left met : List Part) (reads : List OpenRead) (now low high : ℕ) → rest ≡ s.rest
    → parts ≡ s.parts → reads ≡ s.reads → now ≡ s.now → IsShaped s → AreMet low high parts left met
    → IsSettledBut met s (view_of rest left reads now)
met_begins s rest parts left met reads now low high same_rest same_parts same_reads same_now shaped is =
    subst (λ (v : PartsView). IsSettledBut met s v)
    (same_view s.rest rest left left s.reads reads s.now now (sym same_rest) refl (sym same_reads) (sym same_now))
    (settling_begins s low high left met shaped (subst (λ (ps : List Part). AreMet low high ps left met) same_parts is))

-- the state without them
pub shaped_without : (more : List Part) (s : PartsView) → IsShaped (with_parts more s) → IsShaped s
shaped_without more s shaped = record {
  rest = shaped.rest;
  parts = All-back (IsPartBefore s.now s.reads) more s.parts shaped.parts;
  apart = AllPairs-back AreBesideEachOther more s.parts shaped.apart;
  reads = shaped.reads;
  distinct = shaped.distinct;
}

pub may_be_next : (part : Part) (more : List Part) (old new : PartsView) → IsSettledBut (part ∷ more) old new → MayBePut part new
may_be_next part more old new is = record {
  before = All-head (IsPartBefore new.now new.reads) part (more ++ new.parts) is.shaped.parts;
  beside = All-back (AreBesideEachOther part) more new.parts (AllPairs-head AreBesideEachOther part (more ++ new.parts) is.shaped.apart);
}

pub settling_goes_on : (part : Part) (more : List Part) (old new next : PartsView) → IsSettledBut (part ∷ more) old new
    → IsSettledWith part new next → IsSettledBut more old next
settling_goes_on part more old new next is with_part = record {
  now = with_part.now ∙ is.now;
  shaped = with_part.shaped more is.shaped;
  state = λ start calls state. with_part.state more start calls (is.state start calls state);
}

pub settling_ends : (old new : PartsView) → IsSettledBut [] old new → IsSettled old new
settling_ends old new is = record { now = is.now; state = is.state }
