use Rattle.follow_parts.proofs.Common.{◌≡◌, suc, ◌+◌, ◌++◌, ◌∷◌, [], List, false, map, inr, refl, sym, ◌∙◌, subst, arith, All, AllZip, All-cons, Operation}
use Rattle.follow_parts.proofs.Common.{low_key, high_key, may_change, Contents, IsLegalCall, IsWithRead, AreKept, HasPasts, lefts_of, covered, outside}
use Rattle.follow_parts.proofs.Common.{resting, kept_part, OpenRead, MayBeLeft, kept_with, AreReadsOf, IsStateOf, IsShaped, AreMet, IsReadIn, PartsView}
use Rattle.follow_parts.proofs.Common.{is_at_rest}
use Rattle.follow_parts.proofs.BegunLemmas.{same_view}
use Rattle.follow_parts.proofs.EndedLemmas.{has_ended}
use Rattle.follow_parts.proofs.GoingLemmas.{lefts_gone, others_have_pasts}
use Rattle.follow_parts.proofs.MetLemmas.{met_same}
use Rattle.follow_parts.proofs.ReportLemmas.{IsReport, met_apart, met_comes, met_shaped, next_is_shaped, report_comes_to, report_is_kept, report_is_left}
use Rattle.follow_parts.proofs.ReportLemmas.{report_keys, taken_at_rest}
use Rattle.follow_parts.proofs.reading.answer_report.Goals as goal

pub invariant_of-result : goal.invariant_of-result
invariant_of-result c =
    let s = c.args.state in
    let o = c.args.operation in
    let left = c.in_ok-parts.parts in
    let met = c.in_ok-parts.met.items in
    let is : AreMet (low_key o.call) (high_key o.call) s.parts left met =
    met_same c.low_key-low.result c.high_key-high.result (low_key o.call) (high_key o.call) c.apart-rest.result.1 s.parts left met
    c.low_key-low.ensures c.high_key-high.ensures c.apart-rest.ensures.parts c.in_ok-parts.ensures in
    let now : suc s.now ≡ c.apart-rest.result.3 + 1 = omega (arith, c.apart-rest.ensures.now) in
    subst (λ (v : PartsView). IsShaped v)
    (same_view s.rest c.apart-rest.result.0 left left s.reads c.apart-rest.result.2 (suc s.now) (c.apart-rest.result.3 + 1)
    (sym c.apart-rest.ensures.rest) refl (sym c.apart-rest.ensures.reads) now)
    (next_is_shaped s c.apart-rest.ensures.shaped left met is.parted s.rest c.apart-rest.ensures.shaped.rest)

pub returns-then-branch-clause-answered : goal.returns-then-branch-clause-answered
returns-then-branch-clause-answered c start front back o response answer kept reads =
    let s = c.args.state in
    let done = c.args.operation in
    let left = c.in_ok-parts.parts in
    let met = c.in_ok-parts.met.items in
    let is : AreMet (low_key done.call) (high_key done.call) s.parts left met =
    met_same c.low_key-low.result c.high_key-high.result (low_key done.call) (high_key done.call) c.apart-rest.result.1 s.parts left met
    c.low_key-low.ensures c.high_key-high.ensures c.apart-rest.ensures.parts c.in_ok-parts.ensures in
    let none : met ≡ [] = sym c.deref.ensures.value ∙ c.in_ok-agrees_at_rest.ensures.none c.if-branch.true in
    let legal : IsLegalCall s.rest done.call done.response =
    subst (λ (m : Contents). IsLegalCall m done.call done.response) c.apart-rest.ensures.rest
    (c.in_ok-agrees_at_rest.ensures.legal c.if-branch.true) in
    let report : IsReport s.now done = record {
      reported = c.requires.reported;
      reads = c.requires.reads;
      shaped = c.requires.shaped;
      form = c.requires.form;
      something = c.requires.something;
    } in
    let now : suc s.now ≡ c.apart-rest.result.3 + 1 = omega (arith, c.apart-rest.ensures.now) in
    let state : IsStateOf start (front ++ done ∷ back) (record { rest = s.rest; parts = left; reads = s.reads; now = suc s.now }) = record {
      kept = taken_at_rest s left met start front back o response done answer is none report legal kept;
      reads = reads;
    } in (
      subst (λ (v : PartsView). IsStateOf start (front ++ done ∷ back) v)
          (same_view s.rest c.apart-rest.result.0 left left s.reads c.apart-rest.result.2 (suc s.now) (c.apart-rest.result.3 + 1)
          (sym c.apart-rest.ensures.rest) refl (sym c.apart-rest.ensures.reads) now) state,
      sym now,
    )

pub read_in-requires-clause-parts : goal.read_in-requires-clause-parts
read_in-requires-clause-parts c =
    let s = c.args.state in
    let o = c.args.operation in
    let left = c.in_ok-parts.parts in
    let met = c.in_ok-parts.met.items in
    let is : AreMet (low_key o.call) (high_key o.call) s.parts left met =
    met_same c.low_key-low.result c.high_key-high.result (low_key o.call) (high_key o.call) c.apart-rest.result.1 s.parts left met
    c.low_key-low.ensures c.high_key-high.ensures c.apart-rest.ensures.parts c.in_ok-parts.ensures in
    met_shaped s c.apart-rest.ensures.shaped left met is.parted s.rest

pub read_in-requires-clause-comes : goal.read_in-requires-clause-comes
read_in-requires-clause-comes c =
    let s = c.args.state in
    let o = c.args.operation in
    let left = c.in_ok-parts.parts in
    let met = c.in_ok-parts.met.items in
    let is : AreMet (low_key o.call) (high_key o.call) s.parts left met =
    met_same c.low_key-low.result c.high_key-high.result (low_key o.call) (high_key o.call) c.apart-rest.result.1 s.parts left met
    c.low_key-low.ensures c.high_key-high.ensures c.apart-rest.ensures.parts c.in_ok-parts.ensures in
    met_comes s c.apart-rest.ensures.shaped left met is.parted s.rest o c.requires.reported c.requires.begun c.requires.own

pub read_in-requires-clause-apart : goal.read_in-requires-clause-apart
read_in-requires-clause-apart c =
    let s = c.args.state in
    let o = c.args.operation in
    let left = c.in_ok-parts.parts in
    let met = c.in_ok-parts.met.items in
    let is : AreMet (low_key o.call) (high_key o.call) s.parts left met =
    met_same c.low_key-low.result c.high_key-high.result (low_key o.call) (high_key o.call) c.apart-rest.result.1 s.parts left met
    c.low_key-low.ensures c.high_key-high.ensures c.apart-rest.ensures.parts c.in_ok-parts.ensures in
    met_apart s c.apart-rest.ensures.shaped left met is.parted s.rest

pub invariant_of-state : goal.invariant_of-state
invariant_of-state c =
    let s = c.args.state in
    let o = c.args.operation in
    let left = c.in_ok-parts.parts in
    let met = c.in_ok-parts.met.items in
    let is : AreMet (low_key o.call) (high_key o.call) s.parts left met =
    met_same c.low_key-low.result c.high_key-high.result (low_key o.call) (high_key o.call) c.apart-rest.result.1 s.parts left met
    c.low_key-low.ensures c.high_key-high.ensures c.apart-rest.ensures.parts c.in_ok-parts.ensures in
    let now : suc s.now ≡ c.apart-rest.result.3 + 1 = omega (arith, c.apart-rest.ensures.now) in
    let read : IsReadIn c.args.budget o c.apart-rest.result.0 c.read_in.new.rest met c.in_ok-ranges.field-0 = c.in_ok-ranges.ensures in
    subst (λ (v : PartsView). IsShaped v)
    (same_view c.read_in.new.rest c.read_in.new.rest left left s.reads c.apart-rest.result.2 (suc s.now) (c.apart-rest.result.3 + 1)
    refl refl (sym c.apart-rest.ensures.reads) now)
    (next_is_shaped s c.apart-rest.ensures.shaped left met is.parted c.read_in.new.rest read.become.rises)

pub go_on-requires : goal.go_on-requires
go_on-requires c =
    let s = c.args.state in
    let o = c.args.operation in
    let left = c.in_ok-parts.parts in
    let met = c.in_ok-parts.met.items in
    let is : AreMet (low_key o.call) (high_key o.call) s.parts left met =
    met_same c.low_key-low.result c.high_key-high.result (low_key o.call) (high_key o.call) c.apart-rest.result.1 s.parts left met
    c.low_key-low.ensures c.high_key-high.ensures c.apart-rest.ensures.parts c.in_ok-parts.ensures in
    let now : suc s.now ≡ c.apart-rest.result.3 + 1 = omega (arith, c.apart-rest.ensures.now) in
    let read : IsReadIn c.args.budget o c.apart-rest.result.0 c.read_in.new.rest met c.in_ok-ranges.field-0 = c.in_ok-ranges.ensures in
    let next : PartsView = record { rest = c.read_in.new.rest; parts = left; reads = s.reads; now = suc s.now } in
    subst (λ (v : PartsView). All (MayBeLeft v) (lefts_of c.in_ok-ranges.field-0.gone))
    (same_view c.read_in.new.rest c.read_in.new.rest left left s.reads c.apart-rest.result.2 (suc s.now) (c.apart-rest.result.3 + 1)
    refl refl (sym c.apart-rest.ensures.reads) now)
    (lefts_gone (MayBeLeft next) c.args.budget read.nexts c.in_ok-ranges.field-0.gone read.gone
    (report_is_left s c.apart-rest.ensures.shaped left met is.parted c.read_in.new.rest o c.requires.reported c.requires.begun c.requires.own
    read.pasts read.nexts read.with_read read.rising read.become.own))

pub returns-clause-answered : goal.returns-clause-answered
returns-clause-answered c start front back o response answer kept reads =
    let s = c.args.state in
    let done = c.args.operation in
    let left = c.in_ok-parts.parts in
    let met = c.in_ok-parts.met.items in
    let new = c.read_in.new.rest in
    let calls = front ++ done ∷ back in
    let is : AreMet (low_key done.call) (high_key done.call) s.parts left met =
    met_same c.low_key-low.result c.high_key-high.result (low_key done.call) (high_key done.call) c.apart-rest.result.1 s.parts left met
    c.low_key-low.ensures c.high_key-high.ensures c.apart-rest.ensures.parts c.in_ok-parts.ensures in
    let now : suc s.now ≡ c.apart-rest.result.3 + 1 = omega (arith, c.apart-rest.ensures.now) in
    let read : IsReadIn c.args.budget done s.rest new met c.in_ok-ranges.field-0 =
    subst (λ (m : Contents). IsReadIn c.args.budget done m new met c.in_ok-ranges.field-0) c.apart-rest.ensures.rest c.in_ok-ranges.ensures in
    let report : IsReport s.now done = record {
      reported = c.requires.reported;
      reads = c.requires.reads;
      shaped = c.requires.shaped;
      form = c.requires.form;
      something = c.requires.something;
    } in
    let keys = covered c.in_ok-ranges.field-0.ranges.items in
    c.go_on.ensures.answered start c.args.budget s calls read.nexts (sym now) read.gone
    (subst (λ (l : List OpenRead). AreReadsOf calls l) (sym c.apart-rest.ensures.reads) reads)
    (subst (λ (v : PartsView). AreKept start v.now calls (kept_with v keys read.nexts))
    (same_view new new left left s.reads c.apart-rest.result.2 (suc s.now) (c.apart-rest.result.3 + 1) refl refl
    (sym c.apart-rest.ensures.reads) now)
    (report_is_kept s left met start front back o response done answer is new c.in_ok-ranges.field-0.ranges.items read.pasts read.nexts
    read.become read.with_read report kept))

pub returns-clause-ended : goal.returns-clause-ended
returns-clause-ended c start front back o response answer kept =
    let s = c.args.state in
    let done = c.args.operation in
    let left = c.in_ok-parts.parts in
    let met = c.in_ok-parts.met.items in
    let new = c.read_in.new.rest in
    let is : AreMet (low_key done.call) (high_key done.call) s.parts left met =
    met_same c.low_key-low.result c.high_key-high.result (low_key done.call) (high_key done.call) c.apart-rest.result.1 s.parts left met
    c.low_key-low.ensures c.high_key-high.ensures c.apart-rest.ensures.parts c.in_ok-parts.ensures in
    let read : IsReadIn c.args.budget done s.rest new met c.in_ok-ranges.field-0 =
    subst (λ (m : Contents). IsReadIn c.args.budget done m new met c.in_ok-ranges.field-0) c.apart-rest.ensures.rest c.in_ok-ranges.ensures in
    let ranges = c.in_ok-ranges.field-0.ranges.items in
    let next : PartsView = record { rest = new; parts = left; reads = s.reads; now = suc s.now } in
    let keys = covered ranges in
    let others = resting (outside (is_at_rest left) keys) new ∷ map kept_part left in
    has_ended start s.now (front ++ o ∷ back) o response ranges read.pasts read.nexts others
    (report_keys s left met start front back o response done answer new ranges read.pasts read.become)
    (report_comes_to s left met start front back o response done answer is new ranges read.pasts read.become kept)
    (All-cons HasPasts (record { keys = keys; pasts = read.pasts }) others read.some (others_have_pasts next keys))
    (inr (
      subst (λ (x : Operation). may_change x.call ≡ false) answer.is c.requires.reads,
      subst (λ (x : Operation). AllZip (IsWithRead x) read.pasts read.nexts) answer.is read.with_read,
    ))
    c.go_on.result (c.go_on.ensures.ended c.args.budget read.nexts read.gone)
