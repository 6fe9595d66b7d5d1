use Rattle.machine.proofs.Common.{◌≤◌, ◌-◌, length, set, sym, subst, rules, arith, ap, ◌∙◌, with_items_is, length-set, slice_get-get_or, step}
use Rattle.machine.proofs.Common.{ShowsState, start_of, IsUnderWay}
use Rattle.std.proofs.Common.{Some}
use Rattle.machine.proofs.MachineLemmas.{is-for, within-limits, are-for, steps, some-and, refits, under-way-steps, under-way-kept, no-move, has-move}
use Rattle.machine.proofs.MachineLemmas.{positive}
use Rattle.machine.proofs.machines.Machine.turn.Goals as goal

pub turn-requires-clause-is_for : goal.turn-requires-clause-is_for
turn-requires-clause-is_for c =
    is-for c.args.self.now.shape c.args.self.now.runners.items c.args.p c.index_mut.result.now c.args.self.now.tasks
    (slice_get-get_or c.args.self.now.runners.items c.args.p c.index_mut.result.now (search rules)
    ∙ ap Some (sym c.index_mut.ensures.value))

pub turn-requires-clause-limits : goal.turn-requires-clause-limits
turn-requires-clause-limits c =
    within-limits c.args.self.now.shape c.args.self.now.variant c.args.self.now.words.items c.args.self.now.runners.items c.args.p
    c.index_mut.result.now
    (slice_get-get_or c.args.self.now.runners.items c.args.p c.index_mut.result.now (search rules)
    ∙ ap Some (sym c.index_mut.ensures.value))
    c.args.self.now.start.items c.args.self.now.left c.args.self.now.under_way

pub invariant_of-self-in-Ok-clause-tasks : goal.invariant_of-self-in-Ok-clause-tasks
invariant_of-self-in-Ok-clause-tasks c =
    are-for c.args.self.now.shape c.args.self.now.runners.items c.args.p c.turn.new.self c.args.self.now.tasks c.turn.ensures.table

pub invariant_of-self-in-Err-clause-tasks : goal.invariant_of-self-in-Err-clause-tasks
invariant_of-self-in-Err-clause-tasks c =
    are-for c.args.self.now.shape c.args.self.now.runners.items c.args.p c.turn.new.self c.args.self.now.tasks c.turn.ensures.table

pub invariant_of-self-in-Ok-clause-under_way : goal.invariant_of-self-in-Ok-clause-under_way
invariant_of-self-in-Ok-clause-under_way c =
    subst (λ w. ∥ IsUnderWay c.args.self.now.shape c.args.self.now.variant c.args.self.now.start.items (c.args.self.now.left - 1) w
    (set c.args.self.now.runners.items c.args.p c.turn.new.self) ∥₁)
    (sym (with_items_is c.args.self.now.words c.turn.new.words
    (c.turn.ensures.long ∙ (ap length c.deref_mut.ensures.value ∙ sym c.args.self.now.words.ok.0))))
    (under-way-steps c.args.self.now.shape c.args.self.now.variant c.deref_mut.result.now c.args.self.now.runners.items c.args.p
    c.index_mut.result.now
    (slice_get-get_or c.args.self.now.runners.items c.args.p c.index_mut.result.now (search rules)
    ∙ ap Some (sym c.index_mut.ensures.value))
    c.args.self.now.start.items c.args.self.now.left (c.args.self.now.left - 1) c.turn.new.words c.turn.new.self (omega arith)
    (λ plan q shape variant f. c.in-Ok.ensures.moved plan q shape variant f)
    (subst (λ w. ∥ IsUnderWay c.args.self.now.shape c.args.self.now.variant c.args.self.now.start.items c.args.self.now.left w
    c.args.self.now.runners.items ∥₁)
    (sym c.deref_mut.ensures.value) c.args.self.now.under_way))

pub invariant_of-self-in-Err-clause-under_way : goal.invariant_of-self-in-Err-clause-under_way
invariant_of-self-in-Err-clause-under_way c =
    subst (λ w. ∥ IsUnderWay c.args.self.now.shape c.args.self.now.variant c.args.self.now.start.items c.args.self.now.left w
    (set c.args.self.now.runners.items c.args.p c.turn.new.self) ∥₁)
    (sym (with_items_is c.args.self.now.words c.turn.new.words
    (c.turn.ensures.long ∙ (ap length c.deref_mut.ensures.value ∙ sym c.args.self.now.words.ok.0))))
    (under-way-kept c.args.self.now.shape c.args.self.now.variant c.deref_mut.result.now c.args.self.now.runners.items c.args.p
    c.index_mut.result.now
    (slice_get-get_or c.args.self.now.runners.items c.args.p c.index_mut.result.now (search rules)
    ∙ ap Some (sym c.index_mut.ensures.value))
    c.args.self.now.start.items c.args.self.now.left c.turn.new.words c.turn.new.self
    (λ plan q shape variant f. c.in-Err.ensures.kept plan q f)
    (subst (λ w. ∥ IsUnderWay c.args.self.now.shape c.args.self.now.variant c.args.self.now.start.items c.args.self.now.left w
    c.args.self.now.runners.items ∥₁)
    (sym c.deref_mut.ensures.value) c.args.self.now.under_way))

pub returns-in-Ok-clause-moved : goal.returns-in-Ok-clause-moved
returns-in-Ok-clause-moved c = λ plan s shows.
    let st = steps c.args.self.now.shape c.args.self.now.variant c.deref_mut.result.now c.args.self.now.runners.items c.args.p
    c.index_mut.result.now
    (slice_get-get_or c.args.self.now.runners.items c.args.p c.index_mut.result.now (search rules)
    ∙ ap Some (sym c.index_mut.ensures.value))
    plan s c.turn.new.words c.turn.new.self
    (subst (λ w. ShowsState plan c.args.self.now.shape c.args.self.now.variant w c.args.self.now.runners.items s)
    (sym c.deref_mut.ensures.value) shows)
    (λ q f. c.in-Ok.ensures.moved plan q shows.shape shows.variant f) in
    some-and _ (step plan s c.args.p) st.next st.is
    (subst (λ w. ShowsState plan c.args.self.now.shape c.args.self.now.variant w
    (set c.args.self.now.runners.items c.args.p c.turn.new.self) st.next)
    (sym (with_items_is c.args.self.now.words c.turn.new.words
    (c.turn.ensures.long ∙ (ap length c.deref_mut.ensures.value ∙ sym c.args.self.now.words.ok.0))))
    st.shows)

pub returns-in-Err-clause-kept : goal.returns-in-Err-clause-kept
returns-in-Err-clause-kept c = λ plan s shows.
    subst (λ w. ShowsState plan c.args.self.now.shape c.args.self.now.variant w
    (set c.args.self.now.runners.items c.args.p c.turn.new.self) s)
    (sym (with_items_is c.args.self.now.words c.turn.new.words
    (c.turn.ensures.long ∙ (ap length c.deref_mut.ensures.value ∙ sym c.args.self.now.words.ok.0))))
    (refits c.args.self.now.shape c.args.self.now.variant c.deref_mut.result.now c.args.self.now.runners.items c.args.p
    c.index_mut.result.now
    (slice_get-get_or c.args.self.now.runners.items c.args.p c.index_mut.result.now (search rules)
    ∙ ap Some (sym c.index_mut.ensures.value))
    plan s c.turn.new.words c.turn.new.self
    (subst (λ w. ShowsState plan c.args.self.now.shape c.args.self.now.variant w c.args.self.now.runners.items s)
    (sym c.deref_mut.ensures.value) shows)
    (λ q f. c.in-Err.ensures.kept plan q f))

pub invariant_of-self-in-Ok-clause-long : goal.invariant_of-self-in-Ok-clause-long
invariant_of-self-in-Ok-clause-long c =
    ap length
    (with_items_is c.args.self.now.words c.turn.new.words
    (c.turn.ensures.long ∙ (ap length c.deref_mut.ensures.value ∙ sym c.args.self.now.words.ok.0)))
    ∙ (c.turn.ensures.long ∙ (ap length c.deref_mut.ensures.value ∙ c.args.self.now.long))

pub invariant_of-self-in-Ok-clause-few : goal.invariant_of-self-in-Ok-clause-few
invariant_of-self-in-Ok-clause-few c = subst (λ n. n ≤ 64) (sym (length-set c.args.self.now.runners.items c.args.p c.turn.new.self))
    c.args.self.now.few

pub invariant_of-self-in-Err-clause-long : goal.invariant_of-self-in-Err-clause-long
invariant_of-self-in-Err-clause-long c =
    ap length
    (with_items_is c.args.self.now.words c.turn.new.words
    (c.turn.ensures.long ∙ (ap length c.deref_mut.ensures.value ∙ sym c.args.self.now.words.ok.0)))
    ∙ (c.turn.ensures.long ∙ (ap length c.deref_mut.ensures.value ∙ c.args.self.now.long))

pub invariant_of-self-in-Err-clause-few : goal.invariant_of-self-in-Err-clause-few
invariant_of-self-in-Err-clause-few c = subst (λ n. n ≤ 64) (sym (length-set c.args.self.now.runners.items c.args.p c.turn.new.self))
    c.args.self.now.few

pub returns-then-not-has_work-clause-refused : goal.returns-then-not-has_work-clause-refused
returns-then-not-has_work-clause-refused c = λ plan s shows.
    no-move c.args.self.now.shape c.args.self.now.variant c.args.self.now.words.items c.args.self.now.runners.items c.args.p
    c.index.result.now
    (slice_get-get_or c.args.self.now.runners.items c.args.p c.index.result.now (search rules) ∙ ap Some (sym c.index.ensures)) plan s shows
    (c.has_work.ensures.no c.if-not-has_work.true)

pub returns-then-self-eq0-clause-refused : goal.returns-then-self-eq0-clause-refused
returns-then-self-eq0-clause-refused c = λ plan s shows. (
  has-move c.args.self.now.shape c.args.self.now.variant c.args.self.now.words.items c.args.self.now.runners.items c.args.p
      c.index.result.now
      (slice_get-get_or c.args.self.now.runners.items c.args.p c.index.result.now (search rules)
      ∙ ap Some (sym c.index.ensures)) plan s shows
      (c.has_work.ensures.yes c.if-not-has_work.false),
  c.if-self-eq0.true,
)

pub returns-in-Err-clause-refused : goal.returns-in-Err-clause-refused
returns-in-Err-clause-refused c = λ plan s shows. (
  has-move c.args.self.now.shape c.args.self.now.variant c.args.self.now.words.items c.args.self.now.runners.items c.args.p
      c.index.result.now
      (slice_get-get_or c.args.self.now.runners.items c.args.p c.index.result.now (search rules)
      ∙ ap Some (sym c.index.ensures)) plan s shows
      (c.has_work.ensures.yes c.if-not-has_work.false),
  positive c.args.self.now.left c.if-self-eq0.false,
)

pub returns-then-p-len-clause-moments : goal.returns-then-p-len-clause-moments
returns-then-p-len-clause-moments c = λ plan first schedule s run shows is.
    c.answered_scans_have_moments.ensures plan (start_of c.args.self.now) first schedule s run (shows.variant ∙ is)

pub returns-then-not-has_work-clause-moments : goal.returns-then-not-has_work-clause-moments
returns-then-not-has_work-clause-moments c = λ plan first schedule s run shows is.
    c.answered_scans_have_moments.ensures plan (start_of c.args.self.now) first schedule s run (shows.variant ∙ is)

pub returns-then-self-eq0-clause-moments : goal.returns-then-self-eq0-clause-moments
returns-then-self-eq0-clause-moments c = λ plan first schedule s run shows is.
    c.answered_scans_have_moments.ensures plan (start_of c.args.self.now) first schedule s run (shows.variant ∙ is)

pub returns-in-Ok-clause-moments : goal.returns-in-Ok-clause-moments
returns-in-Ok-clause-moments c = λ plan first schedule s run shows is.
    c.answered_scans_have_moments.ensures plan (start_of c.args.self.now) first schedule s run (shows.variant ∙ is)

pub returns-in-Err-clause-moments : goal.returns-in-Err-clause-moments
returns-in-Err-clause-moments c = λ plan first schedule s run shows is.
    c.answered_scans_have_moments.ensures plan (start_of c.args.self.now) first schedule s run (shows.variant ∙ is)

pub returns-then-p-len-clause-gets : goal.returns-then-p-len-clause-gets
returns-then-p-len-clause-gets c = λ plan first schedule s run shows is.
    c.answered_gets_have_moments.ensures plan (start_of c.args.self.now) first schedule s run (shows.variant ∙ is)

pub returns-then-not-has_work-clause-gets : goal.returns-then-not-has_work-clause-gets
returns-then-not-has_work-clause-gets c = λ plan first schedule s run shows is.
    c.answered_gets_have_moments.ensures plan (start_of c.args.self.now) first schedule s run (shows.variant ∙ is)

pub returns-then-self-eq0-clause-gets : goal.returns-then-self-eq0-clause-gets
returns-then-self-eq0-clause-gets c = λ plan first schedule s run shows is.
    c.answered_gets_have_moments.ensures plan (start_of c.args.self.now) first schedule s run (shows.variant ∙ is)

pub returns-in-Ok-clause-gets : goal.returns-in-Ok-clause-gets
returns-in-Ok-clause-gets c = λ plan first schedule s run shows is.
    c.answered_gets_have_moments.ensures plan (start_of c.args.self.now) first schedule s run (shows.variant ∙ is)

pub returns-in-Err-clause-gets : goal.returns-in-Err-clause-gets
returns-in-Err-clause-gets c = λ plan first schedule s run shows is.
    c.answered_gets_have_moments.ensures plan (start_of c.args.self.now) first schedule s run (shows.variant ∙ is)
