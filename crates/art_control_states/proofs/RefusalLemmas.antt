-- A refused call's last claim found the capacity of its kind reached.
use Rattle.art_control_states.proofs.Common.{◌≡◌, ℕ, zero, suc, ◌≤◌, List, [], ◌∷◌, ◌++◌, refl, ap, sym, ◌∙◌, Bool, true, false, arith, inl, inr, ◌⊎◌}
use Rattle.art_control_states.proofs.Common.{false≢true, Option, Some, None, Call, Get, Insert, Remove, Scan, Replace, Reply, Kind, rows_of, claims_of}
use Rattle.art_control_states.proofs.Common.{Add, Asks, reply_of, act, Setting, locks, releases_early, is_insert, is_scan, Four, Sixteen, FortyEight}
use Rattle.art_control_states.proofs.Common.{Full, HeldRow, ScanStep, FirstKeys, SecondKeys, Index, Release, ScanAt, at, scan_in, scan_turn, scan_start}
use Rattle.art_control_states.proofs.Common.{scan_after, keys_turn, release_turn, Stage, rest_in, turn_at, start_at, stage_after}
use Rattle.std.proofs.Common.{◌<◌, append_assoc, length, take, subst}
use Rattle.std.proofs.Math.Seq.{get_or-append_seam, take-append_seam}
use Rattle.std.proofs.lemmas.List.{append-nil, get_or_append_left, take-append-le}
use Rattle.events.specs.declared.event.Reply.TheVariants as reply
use Rattle.art_rows.specs.Steps.{Answers}
use Rattle.art_rows.specs.Fits.{Fits, Claims, RefusedAtCapacity, RefusesOnlyAtCapacity}
use Rattle.art_rows.specs.declared.table.Shape.{Shape}
use Rattle.art_rows.specs.declared.variant.Variant.{Variant}
use Rattle.art_control_states.specs.declared.stage.ScanStep.TheVariants.{Lock, Exchange, Wait, Info, Keys, Child, Over as ScanOver}
use Rattle.art_control_states.proofs.ScanLemmas.{scan_next, scan_begins, scan_goes_on}
use Rattle.art_control_states.specs.Stages.{setting}
use Rattle.art_control_states.proofs.TurnLemmas.{next}
use Rattle.art_control_states.proofs.StepLemmas.{begins, goes_on}
use Rattle.art_control_states.proofs.RefusingStageLemmas.{refuses, is_add, no_claim, Came, came, answers_refused}

length_more : (xs : List ℕ) (w : ℕ) → length (xs ++ w ∷ []) ≡ suc (length xs)
length_more [] w = refl
length_more (x ∷ xs) w = ap suc (length_more xs w)

module _ (c : Setting) (pre : List ℕ) (w : ℕ) (stage : Stage) (fits : Fits c.shape c.variant c.call pre (rest_in c stage)) where
  turn : act c.shape c.variant c.call pre ≡ turn_at c stage
  turn = ap (act c.shape c.variant c.call) (sym (append-nil pre)) ∙ (sym (fits []) ∙ next c stage)

  claim_kept : (j : ℕ) (kind : Kind) → Claims c.shape c.variant c.call pre j kind → Claims c.shape c.variant c.call (pre ++ w ∷ []) j kind
  claim_kept j kind x = record {
    made = omega (arith, x.made, length_more pre w);
    point = x.point;
    asks = ap (act c.shape c.variant c.call) (take-append-le j pre (w ∷ []) (omega (arith, x.made))) ∙ x.asks;
  }

  claim_before : (j : ℕ) (kind : Kind) → j < length pre → Claims c.shape c.variant c.call (pre ++ w ∷ []) j kind
      → Claims c.shape c.variant c.call pre j kind
  claim_before j kind h x = record {
    made = h;
    point = x.point;
    asks = ap (act c.shape c.variant c.call) (sym (take-append-le j pre (w ∷ []) (omega (arith, h)))) ∙ x.asks;
  }

  claim_last : (j : ℕ) (kind : Kind) → j ≡ length pre → Claims c.shape c.variant c.call (pre ++ w ∷ []) j kind
      → is_add (turn_at c stage) ≡ true
  claim_last j kind e x =
      ap is_add (sym turn)
      ∙ (ap (λ xs. is_add (act c.shape c.variant c.call xs)) (sym (ap (λ k. take k (pre ++ w ∷ [])) e ∙ take-append_seam pre (w ∷ [])))
      ∙ ap is_add x.asks)

  still_refused : refuses stage ≡ true → RefusedAtCapacity c.shape c.variant c.call pre
      → RefusedAtCapacity c.shape c.variant c.call (pre ++ w ∷ [])
  still_refused r x = record {
    i = x.i;
    kind = x.kind;
    claims = claim_kept x.i x.kind x.claims;
    last = λ j kind y. at_most j kind y (less_or_same j (length pre) (omega (arith, y.made, length_more pre w)));
    full = subst (λ n. rows_of c.shape x.kind ≤ n) (sym (get_or_append_left pre (w ∷ []) 0 x.i x.claims.made)) x.full;
  }
    where
      less_or_same : (j n : ℕ) → j ≤ n → (j < n) ⊎ (j ≡ n)
      less_or_same zero zero h = inr refl
      less_or_same zero (suc n) h = inl (omega arith)
      less_or_same (suc j) zero h = absurd (omega (arith, h))
      less_or_same (suc j) (suc n) h = up (less_or_same j n (omega (arith, h)))
        where
          up : (j < n) ⊎ (j ≡ n) → (suc j < suc n) ⊎ (suc j ≡ suc n)
          up (inl a) = inl (omega (arith, a))
          up (inr a) = inr (ap suc a)

      at_most : (j : ℕ) (kind : Kind) → Claims c.shape c.variant c.call (pre ++ w ∷ []) j kind → (j < length pre)
          ⊎ (j ≡ length pre) → j ≤ x.i
      at_most j kind y (inl h) = x.last j kind (claim_before j kind h y)
      at_most j kind y (inr e) = absurd (false≢true (sym (no_claim c stage r) ∙ claim_last j kind e y))

  newly_refused : (kind : Kind) → turn_at c stage ≡ Asks (Add (claims_of kind)) None → rows_of c.shape kind ≤ w
      → RefusedAtCapacity c.shape c.variant c.call (pre ++ w ∷ [])
  newly_refused kind asks full = record {
    i = length pre;
    kind = kind;
    claims = record {
      made = omega (arith, length_more pre w);
      point = None;
      asks = ap (act c.shape c.variant c.call) (take-append_seam pre (w ∷ [])) ∙ (turn ∙ asks);
    };
    last = λ j other y. omega (arith, y.made, length_more pre w);
    full = subst (λ n. rows_of c.shape kind ≤ n) (sym (get_or-append_seam pre w [] 0)) full;
  }

  one_more : (refuses stage ≡ true → RefusedAtCapacity c.shape c.variant c.call pre) → Came c stage w
      → RefusedAtCapacity c.shape c.variant c.call (pre ++ w ∷ [])
  one_more before (inl r) = still_refused r (before r)
  one_more before (inr x) = newly_refused x.0 x.1 x.2

  fits_on : is_scan c.call ≡ false → Fits c.shape c.variant c.call (pre ++ w ∷ []) (rest_in c (stage_after c stage w))
  fits_on s = λ more. goes_on c stage w more s
      ∙ (fits (w ∷ more) ∙ ap (act c.shape c.variant c.call) (sym (append_assoc pre (w ∷ []) more)))

go_on : (c : Setting) (pre rest : List ℕ) (stage : Stage) → is_scan c.call ≡ false → Fits c.shape c.variant c.call pre (rest_in c stage)
    → (refuses stage ≡ true → RefusedAtCapacity c.shape c.variant c.call pre)
    → act c.shape c.variant c.call (pre ++ rest) ≡ Answers reply.Refused → RefusedAtCapacity c.shape c.variant c.call (pre ++ rest)
go_on c pre [] stage s fits before e =
    subst (RefusedAtCapacity c.shape c.variant c.call) (sym (append-nil pre))
    (before (answers_refused c stage
    (ap reply_of (sym (turn c pre 0 stage fits) ∙ (ap (act c.shape c.variant c.call) (sym (append-nil pre)) ∙ e)))))
go_on c pre (w ∷ rest) stage s fits before e =
    subst (RefusedAtCapacity c.shape c.variant c.call) (append_assoc pre (w ∷ []) rest)
    (go_on c (pre ++ w ∷ []) rest (stage_after c stage w) s (fits_on c pre w stage fits s)
    (λ r. one_more c pre w stage fits before (came c w (locks c.variant) (is_insert c.call) (releases_early c.variant) stage r))
    (ap (act c.shape c.variant c.call) (append_assoc pre (w ∷ []) rest) ∙ e))

no_start : (l : Bool) → refuses (start_at l) ≡ true → ⊥
no_start true h = false≢true h
no_start false h = false≢true h

key_refused : (c : Setting) (got : List ℕ) → is_scan c.call ≡ false → act c.shape c.variant c.call got ≡ Answers reply.Refused
    → RefusedAtCapacity c.shape c.variant c.call got
key_refused c got s e =
    go_on c [] got (start_at (locks c.variant)) s (λ more. begins c more s) (λ r. absurd (no_start (locks c.variant) r)) e

answers_pairs : (c : Setting) (s : ScanAt) → reply_of (scan_turn c s) ≡ Some reply.Refused → ⊥
answers_pairs c s e = go s.step e
  where
    none_refused : ◌≡◌ {A = Option Reply} None (Some reply.Refused) → ⊥
    none_refused h = cc

    release_asks : (l : Bool) (n : HeldRow) → reply_of (release_turn l n) ≡ None
    release_asks true n = refl
    release_asks false n = refl

    keys_ask : (kind : Kind) (n : HeldRow) → reply_of (keys_turn kind n) ≡ None
    keys_ask Four n = refl
    keys_ask Sixteen n = refl
    keys_ask FortyEight n = refl
    keys_ask Full n = refl

    pairs_refused : (ps : List (ℕ × ℕ)) → ◌≡◌ {A = Option Reply} (Some (reply.Pairs ps)) (Some reply.Refused) → ⊥
    pairs_refused ps h = cc

    go : (step : ScanStep) → reply_of (scan_turn c (at step s.walk)) ≡ Some reply.Refused → ⊥
    go (Lock entry true) h = none_refused h
    go (Lock entry false) h = none_refused h
    go (Exchange entry v) h = none_refused h
    go (Wait entry) h = none_refused h
    go (Info base kind kept) h = none_refused h
    go (Keys n) h = none_refused (sym (keys_ask n.kind n) ∙ h)
    go (FirstKeys n count) h = none_refused h
    go (SecondKeys n count first) h = none_refused h
    go (Index n j m) h = none_refused h
    go (Child f slot) h = none_refused h
    go (Release n) h = none_refused (sym (release_asks (locks c.variant) n) ∙ h)
    go ScanOver h = pairs_refused s.walk.pairs h

scan_behind : (c : Setting) (low high : ℕ) (s : ScanAt) (rest : List ℕ) → c.call ≡ Scan low high
    → reply_of (scan_in c low high s rest) ≡ Some reply.Refused → ⊥
scan_behind c low high s [] e h = answers_pairs c s (ap reply_of (sym (scan_next c low high s)) ∙ h)
scan_behind c low high s (w ∷ rest) e h =
    scan_behind c low high (scan_after c low high s w) rest e (ap reply_of (scan_goes_on c low high s w rest e) ∙ h)

refused_as : (c : Setting) (call : Call) (got : List ℕ) → c.call ≡ call → act c.shape c.variant c.call got ≡ Answers reply.Refused
    → RefusedAtCapacity c.shape c.variant c.call got
refused_as c (Get k) got same e = key_refused c got (ap is_scan same) e
refused_as c (Insert k v) got same e = key_refused c got (ap is_scan same) e
refused_as c (Remove k) got same e = key_refused c got (ap is_scan same) e
refused_as c (Replace k old new) got same e = key_refused c got (ap is_scan same) e
refused_as c (Scan low high) got same e =
    absurd (scan_behind c low high (scan_start c) got same (ap reply_of (scan_begins c low high got same ∙ e)))

pub refused : (shape : Shape) (variant : Variant) (call : Call) → RefusesOnlyAtCapacity shape variant call
refused shape variant call = λ got e. refused_as (setting shape variant call) call got refl e
