-- An answered scan was validated.
use Rattle.art_schedules.proofs.Common.{◌≡◌, ◌≢◌, ℕ, ◌+◌, ◌/◌, ◌%◌, ◌<◌, ◌≤◌, List, [], ◌++◌, take, refl, ap, sym, subst, ◌∙◌, inl, inr, arith}
use Rattle.art_schedules.proofs.Common.{Call, None, Option, Reply, Scan, Some, append-nil, false, is_locked, kind_at, row_words, slice_index}
use Rattle.std.specs.Prelude.{◌⊎◌}
use Rattle.art_schedules.proofs.Common.{some-words, Optimistic, Point, Answers, Setting, act, HeldRow, scan_start, scan_turn, OnScan, call_turn}
use Rattle.art_schedules.proofs.Common.{after_all, call_begun, call_after_words, call_next, behind, Plan, BeginsAttempt, Enters, IsValidated}
use Rattle.std.proofs.lemmas.Bool.{ne_eqb}
use Rattle.art_rows.specs.declared.access.Point.TheVariants as point
use Rattle.art_core.specs.Moments.{Reads}
use Rattle.art_schedules.specs.moments.Attempts.{IsOfCheckedRow}
use Rattle.art_schedules.proofs.moments.AttemptLemmas.{stage, Loads, Entered, no-check}
use Rattle.art_schedules.proofs.moments.StandsLemmas.{Releasing}
use Rattle.art_schedules.proofs.moments.ScanLemmas.{all-fold, all-append, AllStand, at-end, attempted, answered}

pub free-unlocked : (v : ℕ) → v % 4 ≡ 0 → is_locked v ≡ false
free-unlocked v e = ne_eqb ((v / 2) % 2) 1 (λ f. omega (arith, e, f))

module _ (plan : Plan) (lo hi : ℕ) (v : plan.variant ≡ Optimistic) (some : 1 ≤ plan.shape.rows256) where
  abbrev call : Call
  call = Scan lo hi

  abbrev c : Setting
  c = Rattle.art_schedules.proofs.moments.AttemptLemmas.c plan.shape lo hi

  turn-behind : (got : List ℕ) → act plan.shape plan.variant call got ≡ call_turn c (call_after_words c got)
  turn-behind got = ap (λ x. act plan.shape x call got) v
      ∙ (ap (act plan.shape Optimistic call) (sym (append-nil got)) ∙ (sym (behind c got []) ∙ call_next c (call_after_words c got)))

  pub turn-is : (attempt : List ℕ) → act plan.shape plan.variant call attempt ≡ scan_turn c (stage plan.shape lo hi attempt)
  turn-is attempt = turn-behind attempt ∙ ap (call_turn c) (all-fold plan.shape some lo hi (scan_start c) attempt)

  -- what follows the words of earlier attempts is what follows none
  begins-anew : (earlier : List ℕ) → call_after_words c earlier ≡ OnScan lo hi (scan_start c) → BeginsAttempt plan call earlier
  begins-anew earlier e more =
      turn-behind (earlier ++ more)
      ∙ (ap (call_turn c) (all-append plan.shape some lo hi (call_begun c) earlier more ∙ ap (λ x. after_all c x more) e)
      ∙ sym (turn-behind more))

  module _ (attempt : List ℕ) where
    abbrev L : ℕ → ℕ → Option Point → Type 0
    L i word mark = Loads plan.shape lo hi attempt i word mark

    to-load : (i word : ℕ) (r : Reads plan call attempt i word) → L i word r.mark
    to-load i word r = record { made = r.made; turn = sym (turn-is (take i attempt)) ∙ r.load }

    abbrev pub from-load : (i word : ℕ) (mark : Option Point) → L i word mark
        → (kind_at plan.shape word ≡ None) ⊎ (is_locked (slice_index attempt i) ≡ false) → Reads plan call attempt i word
    from-load i word mark l settled = record { made = l.made; mark = mark; load = turn-is (take i attempt) ∙ l.turn; settled = settled }

    enters : (n : HeldRow) (i : ℕ) → Entered plan.shape lo hi attempt n i → Enters plan call attempt i n.base n.kind
    enters n i e = record {
      row = e.row;
      reads = from-load i n.base None e.loads (inr (ap is_locked e.kept ∙ free-unlocked n.kept e.free));
      no_check = no-check plan.shape lo hi;
    }

    module _ (h : Releasing plan.shape some lo hi attempt []) where
      checked-row : (n : HeldRow) (i word entry : ℕ) → Entered plan.shape lo hi attempt n entry → entry ≤ i → entry < h.m
          → n.base ≤ word → word < n.base + row_words n.kind → (j : ℕ) → h.m ≤ j → i ≤ j → L j n.base (Some point.Check)
          → slice_index attempt j ≡ n.kept
          → IsOfCheckedRow plan call attempt h.m i word
      checked-row n i word entry e no-later early low high j behind no-sooner loads is = record {
        base = n.base;
        kind = n.kind;
        entry = entry;
        enters = enters n entry e;
        by_then = no-later;
        before = early;
        free = subst (λ x. x % 4 ≡ 0) (sym e.kept) e.free;
        from = low;
        below = high;
        check = j;
        checks = record {
          reads = from-load j n.base (Some point.Check) loads
              (inr (ap is_locked is ∙ free-unlocked n.kept e.free));
          check = refl;
        };
        behind = behind;
        no_sooner = no-sooner;
        same = is ∙ sym e.kept;
      }

      its-row : (i word : ℕ) → Reads plan call attempt i word → IsOfCheckedRow plan call attempt h.m i word
      its-row i word r = elim (h.reads i word r.mark (to-load i word r) r.settled) [
        | inl x ↦ elim (h.checked x.2.row x.2.among) [
          | inl none ↦ absurd none
          | inr done ↦ checked-row x.2.row i word x.2.entry x.2.entered x.2.no_later (omega (arith, x.0, x.2.no_later)) x.2.from x.2.below
              done.0 done.1 (omega (arith, x.0, done.1)) done.2 done.3
        ]
        | inr x ↦
            let e = h.entered x.2 x.3 in
            let here : L i x.2.base (Some point.Check) =
            subst (λ m. L i x.2.base m) x.1 (subst (λ y. L i y r.mark) x.4 (to-load i word r)) in
            checked-row x.2 i word e.0 e.1 (omega (arith, e.2, x.0)) e.2 (omega (arith, x.4)) (omega (arith, x.4, some-words x.2.kind))
            i x.0 (omega arith) here x.5
      ]

      its-part : (i word : ℕ) (r : Reads plan call attempt i word) → ((i < h.m) × (r.mark ≢ Some point.Check))
          ⊎ ((h.m ≤ i) × (r.mark ≡ Some point.Check))
      its-part i word r = elim (h.reads i word r.mark (to-load i word r) r.settled) [
        | inl x ↦ inl (x.0, x.1)
        | inr x ↦ inr (x.0, x.1)
      ]

  -- with what holds of the attempt after each of its words
  pub record Validation (got : List ℕ) : Type 0 where
    pub is : IsValidated plan call got
    pub stands : AllStand plan.shape some lo hi is.attempt

  pub validated : (got : List ℕ) (reply : Reply) → act plan.shape plan.variant call got ≡ Answers reply → Validation got
  validated got reply answers =
      let x = attempted plan.shape some lo hi got in
      let turn : scan_turn c (stage plan.shape lo hi x.attempt) ≡ Answers reply =
      sym (turn-is x.attempt) ∙ (sym (begins-anew x.earlier x.begins x.attempt)
      ∙ (ap (act plan.shape plan.variant call) (sym x.all) ∙ answers)) in
      let h = answered plan.shape some lo hi x.attempt reply turn (at-end plan.shape some lo hi x.attempt x.stands) in
      record {
        is = record {
          earlier = x.earlier;
          attempt = x.attempt;
          all = x.all;
          begins = begins-anew x.earlier x.begins;
          m = h.m;
          most = h.most;
          reads = its-row x.attempt h;
          parts = its-part x.attempt h;
        };
        stands = x.stands;
      }
