-- The state before any event.
use Rattle.follow_parts.proofs.Common.{◌≡◌, ℕ, ◌<◌, List, [], Option, None, Some, refl, sym, ◌∙◌, subst, All-nil, AllPairs-nil, Contains-nil, Contents}
use Rattle.follow_parts.proofs.Common.{IsRising, value_at, same_pairs, all_is_kept, or_else, AreBesideEachOther, Part, OpenRead, PartsView, IsStateOf}
use Rattle.follow_parts.proofs.Common.{IsPartBefore, IsShaped, IsWithPairs}
use Rattle.std.proofs.Common.{◌≢◌}
use Rattle.follow_parts.proofs.BegunLemmas.{same_view}

none_or : (x : Option ℕ) → or_else x None ≡ x
none_or None = refl
none_or (Some value) = refl

module _ (start empty rest : Contents) (parts : List Part) (reads : List OpenRead) (no_pairs : empty ≡ []) (no_parts : parts ≡ [])
    (no_reads : reads ≡ []) (rising : IsRising start) (came : IsWithPairs start empty rest) where
  rest_rises : IsRising rest
  rest_rises = came.rises (subst (λ (m : Contents). IsRising m) (sym no_pairs) (AllPairs-nil (λ (a b : ℕ × ℕ). a.0 < b.0)))

  rest_is : rest ≡ start
  rest_is = same_pairs rest start rest_rises rising (λ key. subst (λ (m : Contents). value_at rest key ≡ or_else (value_at start key) (value_at m key))
      no_pairs (came.values rising key) ∙ none_or (value_at start key))

  pub start_is_shaped : IsShaped (record { rest = rest; parts = parts; reads = reads; now = 0 })
  start_is_shaped = subst (λ (v : PartsView). IsShaped v)
      (same_view rest rest [] parts [] reads 0 0 refl (sym no_parts) (sym no_reads) refl) (record {
        rest = rest_rises;
        parts = All-nil (IsPartBefore 0 []);
        apart = AllPairs-nil AreBesideEachOther;
        reads = All-nil (λ (read : OpenRead). read.inv < 0);
        distinct = AllPairs-nil (λ (read other : OpenRead). read.inv ≢ other.inv);
      })

  pub start_is_state : IsStateOf start [] (record { rest = rest; parts = parts; reads = reads; now = 0 })
  start_is_state = subst (λ (v : PartsView). IsStateOf start [] v)
      (same_view start rest [] parts [] reads 0 0 (sym rest_is) (sym no_parts) (sym no_reads) refl) (record {
        kept = all_is_kept start rising;
        reads = λ inv low high. (
          (λ read_in. absurd (Contains-nil (record { inv = inv; low = low; high = high }) read_in)),
          (λ (p, p_in, at, pending, keeps, from, to). absurd (Contains-nil p p_in)),
        );
      })
