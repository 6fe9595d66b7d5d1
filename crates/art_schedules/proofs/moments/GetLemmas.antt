-- An answered get was checked.
use Rattle.art_schedules.proofs.Common.{List, Option, [], ap, arith, false, inl, inr, refl, slice_index, sym, take, ℕ, ◌++◌, ◌∙◌, ◌≡◌, ◌≤◌}
use Rattle.std.specs.Prelude.{◌⊎◌}
use Rattle.art_schedules.proofs.Common.{Some, None, append-nil, none-some, Call, Get, Reply, Kind, kind_at, info_at, is_locked, seven-words}
use Rattle.art_schedules.proofs.Common.{Optimistic, Point, Answers, Setting, act, Root, Wait, turn_at, OnKey, call_turn, after_all, call_begun}
use Rattle.art_schedules.proofs.Common.{call_after_words, call_next, behind, Plan, BeginsAttempt, Enters, IsCheckedGet}
use Rattle.art_rows.specs.declared.access.Point.TheVariants as point
use Rattle.art_core.specs.Moments.{Reads}
use Rattle.art_schedules.specs.moments.Gets.{GoesBy, HasRead}
use Rattle.art_schedules.proofs.moments.RowLemmas.{row-within}
use Rattle.art_schedules.proofs.moments.SeekLemmas.{stage, Loads, Entered, InfoOf, Agrees, AllSeek, all-fold, all-append, at-end, attempted}
use Rattle.art_schedules.proofs.moments.SeekLemmas.{answered}

module _ (plan : Plan) (key : ℕ) (v : plan.variant ≡ Optimistic) (some : 1 ≤ plan.shape.rows256) where
  abbrev call : Call
  call = Get key

  abbrev c : Setting
  c = Rattle.art_schedules.proofs.moments.SeekLemmas.c plan.shape some key

  turn-behind : (got : List ℕ) → act plan.shape plan.variant call got ≡ call_turn c (call_after_words c got)
  turn-behind got = ap (λ x. act plan.shape x call got) v
      ∙ (ap (act plan.shape Optimistic call) (sym (append-nil got)) ∙ (sym (behind c got []) ∙ call_next c (call_after_words c got)))

  pub turn-is : (attempt : List ℕ) → act plan.shape plan.variant call attempt ≡ turn_at c (stage plan.shape some key attempt)
  turn-is attempt = turn-behind attempt ∙ ap (call_turn c) (all-fold plan.shape some key (Wait Root) attempt)

  -- what follows the words of earlier attempts is what follows none
  begins-anew : (earlier : List ℕ) → call_after_words c earlier ≡ OnKey (Wait Root) → BeginsAttempt plan call earlier
  begins-anew earlier e more =
      turn-behind (earlier ++ more)
      ∙ (ap (call_turn c) (all-append plan.shape some key (call_begun c) earlier more ∙ ap (λ x. after_all c x more) e)
      ∙ sym (turn-behind more))

  module _ (attempt : List ℕ) where
    pub to-load : (i word : ℕ) (r : Reads plan call attempt i word) → Loads plan.shape some key attempt i word r.mark
    to-load i word r = record { made = r.made; turn = sym (turn-is (take i attempt)) ∙ r.load }

    abbrev from-load : (i word : ℕ) (mark : Option Point) → Loads plan.shape some key attempt i word mark
        → (kind_at plan.shape word ≡ None) ⊎ (is_locked (slice_index attempt i) ≡ false) → Reads plan call attempt i word
    from-load i word mark l settled = record { made = l.made; mark = mark; load = turn-is (take i attempt) ∙ l.turn; settled = settled }

    to-entry : (i base : ℕ) (kind : Kind) → Enters plan call attempt i base kind → Entered plan.shape some key attempt i base kind
    to-entry i base kind e = record {
      row = e.row;
      mark = e.reads.mark;
      loads = to-load i base e.reads;
      no_check = e.no_check;
      free = elim e.reads.settled [
        | inl none ↦ absurd (none-some kind (sym none ∙ e.row))
        | inr free ↦ free
      ];
    }

    abbrev from-entry : (i base : ℕ) (kind : Kind) → Entered plan.shape some key attempt i base kind → Enters plan call attempt i base kind
    from-entry i base kind e = record { row = e.row; reads = from-load i base e.mark e.loads (inr e.free); no_check = e.no_check }

    module _ (entry base : ℕ) (kind : Kind) (row : kind_at plan.shape base ≡ Some kind) where
      to-goes : (info : ℕ) → InfoOf plan.shape some key attempt entry base info → GoesBy plan call attempt entry base info
      to-goes info (inl h) = inl (h.0, h.1, λ i other its-kind e. h.2 i other its-kind (to-entry i other its-kind e))
      to-goes info (inr h) = inr (
        h.0,
        h.1,
        from-load h.0 (info_at base) None h.2 (inl (row-within plan.shape base (info_at base) kind row (omega arith)
            (omega (arith, seven-words kind)))),
        h.3,
      )

      to-agrees : (words : List ℕ) → HasRead plan call attempt entry base kind words
          → Agrees plan.shape some key attempt entry base kind words
      to-agrees words h i word mark l late low high =
          h i word (from-load i word mark l (inl (row-within plan.shape base word kind row low high))) late low high

  pub record Checking (got : List ℕ) (reply : Reply) : Type 0 where
    pub is : IsCheckedGet plan key got reply
    pub seeks : AllSeek plan.shape some key is.attempt
    pub stages : (words : List ℕ) → call_after_words c (is.earlier ++ words) ≡ OnKey (stage plan.shape some key words)

  pub checked : (got : List ℕ) (reply : Reply) → act plan.shape plan.variant call got ≡ Answers reply → Checking got reply
  checked got reply answers =
      let x = attempted plan.shape some key got in
      let turn : turn_at c (stage plan.shape some key x.attempt) ≡ Answers reply =
      sym (turn-is x.attempt) ∙ (sym (begins-anew x.earlier x.begins x.attempt)
      ∙ (ap (act plan.shape plan.variant call) (sym x.all) ∙ answers)) in
      let h = answered plan.shape some key x.attempt reply turn (at-end plan.shape some key x.attempt x.seeks) in
      let k = h.checked in
      record {
        is = record {
          earlier = x.earlier;
          attempt = x.attempt;
          all = x.all;
          begins = begins-anew x.earlier x.begins;
          base = h.base;
          kind = h.kind;
          entry = h.entry;
          enters = from-entry x.attempt h.entry h.base h.kind k.entered;
          last = λ i other its-kind e. k.last i other its-kind (to-entry x.attempt i other its-kind e);
          check = k.check;
          checks = record {
            reads = from-load x.attempt k.check h.base (Some point.Check) k.loads (inr (ap is_locked k.same ∙ k.entered.free));
            check = refl;
          };
          behind = k.behind;
          same = k.same;
          final = λ i word r. k.final i word r.mark (to-load x.attempt i word r);
          info = h.info;
          goes_by = to-goes x.attempt h.entry h.base h.kind k.entered.row h.info h.goes_by;
          replies = λ words has-read. h.says words (to-agrees x.attempt h.entry h.base h.kind k.entered.row words has-read);
        };
        seeks = x.seeks;
        stages = λ words. all-append plan.shape some key (call_begun c) x.earlier words
            ∙ (ap (λ y. after_all c y words) x.begins ∙ all-fold plan.shape some key (Wait Root) words);
      }
