use Rattle.follow_fronts.proofs.Common.{◌≡◌, [], ◌∷◌, ◌++◌, length, reverse, ap, sym, ◌∙◌, arith, length-map, places, Level}
use Rattle.follow_fronts.proofs.ClosedLemmas.{below-closed}
use Rattle.follow_fronts.proofs.MendLemmas.{cut-longer, room-more, whole-mended}
use Rattle.follow_fronts.proofs.mending.put_back.Goals as goal

pub returns-then-put-clause-whole : goal.returns-then-put-clause-whole
returns-then-put-clause-whole c = λ yes.
    let left = places c.loop-work.front.levels.items in
    let n = c.try_here.new.front in
    let is = c.in_ok-put.ensures.all c.if-put.true ∙ ap (λ xs. left ++ c.args.place ∷ reverse xs) c.as_slice.ensures.value in
    whole-mended n.start c.args.calls.now (places c.args.front.now.levels.items) left (reverse c.loop-work.back.items)
    (places n.levels.items) c.args.place c.in_ok-put.ensures.stands.is_front is c.loop-work.invariant.path_is c.requires.complete

pub take_last-requires-clause-known : goal.take_last-requires-clause-known
take_last-requires-clause-known c =
    below-closed c.args.calls.now (places c.args.front.now.levels.items) c.args.place [] c.requires.closed

pub loop-work-preserved : goal.loop-work-preserved
loop-work-preserved c =
    let w = c.loop-work.front in
    let left = places w.levels.items in
    let tried = places c.try_here.new.front.levels.items in
    let again = places c.go_back.new.front.levels.items in
    let of = w.levels.ok.0 in
    let len_is : c.len-len.result ≡ length left = omega (arith, c.len-len.ensures, of, length-map w.levels.items (λ (l : Level). l.place)) in
    let as_it_was = cut-longer left tried again c.len-len.result len_is c.in_ok-put.ensures.longer c.in_ok-go_back.ensures.left in
    let taken = rw c.in-Some.is at c.in_ok-last.ensures.taken in
    let start_is = c.in_ok-last.ensures.start ∙ c.in_ok-go_back.ensures.start ∙ c.in_ok-put.ensures.start ∙ c.loop-work.invariant.same_start in
    room-more c.args.front.now.start c.args.calls.now (places c.args.front.now.levels.items) c.args.place w c.take_last.new.front
    c.loop-work.back.items c.push.new.self.items c.in-Some.last c.loop-work.invariant c.in_ok-last.ensures.stands start_is
    (sym as_it_was ∙ taken.0) taken.1 c.in_ok-push.ensures.items
