use Rattle.search.proofs.Common.{Result, Ok, Err, ◌≡◌, false, ◌+◌, [], ◌∷◌, ◌++◌, Some, length, refl, sym, ap, ◌∙◌, subst, inl, inr, arith, slice_get}
use Rattle.search.proofs.Common.{slice_index, Contains, OnOk, length-append, slice_get_read, LeadsTo, Level, unlinked, Standing, places}
use Rattle.search.proofs.Common.{HasMoved, IsPushed}
use Rattle.memo.specs.Taking.{after_one, pairs_left}
use Rattle.memo.proofs.TakingLemmas.{Contains-with_place, with_place-rises}
use Rattle.search.proofs.MemoLemmas.{not_new}
use Rattle.search.proofs.WalkLemmas.{IsStateBut-passed, untried-passed, LeadsTo-taken, cursor-seen, IsStateBut-push, untried-pushed, places-push}
use Rattle.search.proofs.WalkLemmas.{IsStateBut-same}
use Rattle.search.proofs.standing.take_next.Goals as goal

-- a result that is weaker said
on_ok : {A E : Type 0} (P Q : Type 0) (r : Result A E) → (P → Q) → OnOk r P → OnOk r Q
on_ok P Q (Ok x) f h = f h
on_ok P Q (Err e) f h = h

pub visit_next-requires : goal.visit_next-requires
visit_next-requires g c =
    let w = c.args.standing.now in
    let s = c.requires.1.1.0 in
    rw s.stands_at.1 (record {
      new = λ h. s.left c.requires.1.1.1.0.known ((s.stands_at.2.taken w.next).0 h);
      holds = s.stands_at.2.pairs ∙ sym s.holds;
    })

pub push-requires : goal.push-requires
push-requires g c =
    let w = c.args.standing.now in
    let s = c.requires.1.1.0 in
    let known = c.requires.1.1.1.0.known in
    let config = after_one s.stands_at.0 w.next (pairs_left w.map c.index-calls-place.result) in
    let visited_is = rw (c.if-new.true, s.stands_at.1) at c.in_ok-new.ensures.visited in
    record {
      size = omega (arith, s.links.number_size);
      place = omega (arith, s.links.number_size, known);
      answer = omega (arith, s.links.answer_size, known);
      visited = omega (arith, ap length visited_is, length-append w.memo (config ∷ []));
    }

pub after-standing-requires : goal.after-standing-requires
after-standing-requires g c = omega (arith, c.requires.1.1.0.links.number_size, c.requires.1.1.1.0.known)

pub returns : goal.returns
returns g c =
    let calls = c.args.calls.now in
    let w = c.args.standing.now in
    let s = c.requires.1.1.0 in
    let may = c.requires.1.1.1.0 in
    let a = c.index-calls-place.result in
    let here : slice_get calls w.next ≡ Some a = slice_get_read calls (length calls) w.next a refl may.known c.index-calls-place.is in
    let before = s.stands_at.0 in
    let config = after_one before w.next (pairs_left w.map a) in
    let legal = rw here at c.requires.1.1.1.1 in
    let leads =
    LeadsTo-taken g.start calls c.requires.1.0 w.levels.items w.next w.at w.map w.memo w.calls w.answers s may.known may.not_order a here
    may.preceded legal
    before config s.stands_at.1 (with_place-rises before.taken w.next s.stands_at.2.rising) (Contains-with_place before.taken w.next) refl in
    let visited_is = rw (c.if-new.false, s.stands_at.1) at c.in_ok-new.ensures.visited in
    let within : Contains w.memo config = not_new config w.memo c.in_ok-new.new (rw s.stands_at.1 at c.in_ok-new.ensures.new) c.if-new.false in
    let cursor =
    cursor-seen g.start calls c.requires.1.0 w.levels.items w.next w.at w.map w.memo w.calls w.answers s may.known may.not_order a here
    may.preceded legal
    config
    leads within in
    let stands = IsStateBut-passed g.start calls c.requires.1.0 w.levels.items w.next w.at w.map w.memo w.calls w.answers s may.known
    may.not_order cursor in
    let less = untried-passed g.start calls c.requires.1.0 w.levels.items w.next w.at w.map w.memo w.calls w.answers s
    may.known may.not_order in
    record {
      stands =
          IsStateBut-same g.start calls w.levels.items w.levels.items
          (slice_index w.calls.after w.next) c.after-standing.result w.at w.at w.map w.map w.memo
          c.visit_next.new.self w.calls w.calls
          w.answers w.answers refl c.after-standing.ensures.after refl refl visited_is refl refl stands;
      progress = inl (visited_is, rw c.after-standing.ensures.after less);
    }

pub returns-then-new : goal.returns-then-new
returns-then-new g c =
    let calls = c.args.calls.now in
    let w = c.args.standing.now in
    let s = c.requires.1.1.0 in
    let may = c.requires.1.1.1.0 in
    let a = c.index-calls-place.result in
    let here : slice_get calls w.next ≡ Some a = slice_get_read calls (length calls) w.next a refl may.known c.index-calls-place.is in
    let before = s.stands_at.0 in
    let config = after_one before w.next (pairs_left w.map a) in
    let legal = rw here at c.requires.1.1.1.1 in
    let leads =
    LeadsTo-taken g.start calls c.requires.1.0 w.levels.items w.next w.at w.map w.memo w.calls w.answers s may.known may.not_order a here
    may.preceded legal
    before config s.stands_at.1 (with_place-rises before.taken w.next s.stands_at.2.rising) (Contains-with_place before.taken w.next) refl in
    let visited_is = rw (c.if-new.true, s.stands_at.1) at c.in_ok-new.ensures.visited in
    let new = (rw s.stands_at.1 at c.in_ok-new.ensures.new).0 c.if-new.true in
    let level : Level = record { place = w.next; undo = c.in_ok-undo.undo; at = w.at } in
    let n = c.push.new.standing in
    let middle : Standing = record {
      levels = w.levels;
      next = w.next;
      at = w.at;
      map = c.take_call.new.map;
      memo = c.visit_next.new.self;
      calls = w.calls;
      answers = w.answers;
    } in
    on_ok (IsPushed (length calls) w.next c.in_ok-undo.undo middle n) (HasMoved g.start calls w n) c.push.result (λ p.
    let stands =
    IsStateBut-push g.start calls c.requires.1.0 w.levels.items w.next w.at w.map w.memo w.calls w.answers s may.known may.not_order
    a here may.preceded
    legal config
    leads new c.in_ok-undo.undo level refl refl c.take_call.new.map c.in_ok-undo.ensures.after c.in_ok-undo.ensures.undo p.calls_within
    p.answers_within in
    let more =
    untried-pushed g.start calls c.requires.1.0 w.levels.items w.next w.at w.map w.memo w.calls w.answers s may.known may.not_order a here
    may.preceded legal
    config
    leads new c.in_ok-undo.undo level refl refl c.take_call.new.map c.in_ok-undo.ensures.after c.in_ok-undo.ensures.undo p.calls_within
    p.answers_within in
    let one_more : length (w.memo ++ config ∷ []) ≡ length w.memo + 1 = length-append w.memo (config ∷ []) in
    record {
      stands =
          IsStateBut-same g.start calls (w.levels.items ++ level ∷ []) n.levels.items
          (slice_index (unlinked w.calls w.next).after (length calls)) n.next
          (length w.memo) n.at c.take_call.new.map n.map (w.memo ++ config ∷ []) n.memo (unlinked w.calls w.next) n.calls
          (unlinked w.answers w.next) n.answers
          p.levels p.next (p.at ∙ omega (arith, ap length visited_is, one_more)) p.map (p.memo ∙ visited_is) p.calls p.answers stands;
      progress = inr (
        config,
        p.memo ∙ visited_is,
        subst (λ ps. LeadsTo g.start calls ps config) (sym (ap places p.levels ∙ places-push w.levels.items level)) leads,
        rw (p.levels, p.next) more,
        ap places p.levels ∙ places-push w.levels.items level,
      );
    }) c.push.ensures
