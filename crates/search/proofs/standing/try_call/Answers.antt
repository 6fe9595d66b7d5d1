use Rattle.search.proofs.Common.{◌≡◌, Some, length, refl, inl, arith, slice_get, iff_false, slice_get_read}
use Rattle.search.proofs.WalkLemmas.{cursor-illegal, IsStateBut-passed, untried-passed}
use Rattle.search.proofs.standing.try_call.Goals as goal

pub take_next-requires : goal.take_next-requires
take_next-requires g c =
    let calls = c.args.calls.now in
    let w = c.args.standing.now in
    let may = c.requires.1.1.1 in
    let a = c.index-calls-place.result in
    let here : slice_get calls w.next ≡ Some a = slice_get_read calls (length calls) w.next a refl may.known c.index-calls-place.is in (
      c.requires.0,
      (c.requires.1.0, (c.requires.1.1.0, (may, rw here (c.may_come_next.ensures.0 c.if-may_come_next.true)))),
    )

pub after-standing-requires : goal.after-standing-requires
after-standing-requires g c = omega (arith, c.requires.1.1.0.links.number_size, c.requires.1.1.1.known)

pub returns : goal.returns
returns g c =
    let calls = c.args.calls.now in
    let w = c.args.standing.now in
    let s = c.requires.1.1.0 in
    let may = c.requires.1.1.1 in
    let a = c.index-calls-place.result in
    let here : slice_get calls w.next ≡ Some a = slice_get_read calls (length calls) w.next a refl may.known c.index-calls-place.is in
    let cursor =
    cursor-illegal g.start calls c.requires.1.0 w.levels.items w.next w.at w.map w.memo w.calls w.answers s may.known may.not_order a here
    (iff_false c.may_come_next.ensures c.if-may_come_next.false) in
    let stands = IsStateBut-passed g.start calls c.requires.1.0 w.levels.items w.next w.at w.map w.memo w.calls w.answers s may.known
    may.not_order cursor in
    let less = untried-passed g.start calls c.requires.1.0 w.levels.items w.next w.at w.map w.memo w.calls w.answers s
    may.known may.not_order in
    record { stands = rw c.after-standing.ensures.after stands; progress = inl (refl, rw c.after-standing.ensures.after less) }
