use Rattle.follow_fronts.proofs.Common.{◌≡◌, ◌<◌, Some, length, refl, subst, arith, slice_get, both_ways, slice_get_read, IsLegalCall}
use Rattle.follow_fronts.proofs.guessing.may_be_next.Goals as goal

pub has-requires : goal.has-requires
has-requires c =
    let s = c.requires.stands in
    let lt : c.args.place < length c.args.calls.now = omega arith in
    record { known = omega (arith, s.marked.all, lt); marks = s.marked.marks c.args.place lt }

pub returns : goal.returns
returns c = λ yes.
    let calls = c.args.calls.now in
    let s = c.requires.stands in
    let a = c.index-calls-place.result in
    let lt : c.args.place < length c.args.calls.now = omega arith in
    let here : slice_get calls c.args.place ≡ Some a = slice_get_read calls (length calls) c.args.place a refl lt c.index-calls-place.is in
    record {
      call = a;
      here = here;
      new = λ h. both_ways c.has.result c.if-has.false (c.has.ensures.1 h);
      preceded = c.is_preceded.ensures c.if-is_preceded.false;
      legal = subst (λ m. IsLegalCall m a.call a.response) s.holds (c.may_come_next.ensures.0 yes);
    }
