use Rattle.running.proofs.Common.{IsTrue, shown, IsPlaceOf, IsFirst, IsBeside, is_open, Ran}
use Rattle.running.proofs.runner.Runner.advance.Given as goal

abbrev pub invariant-loop-made : goal.invariant-loop-made
invariant-loop-made l = record {
  own : IsPlaceOf l.core l.place;
  first : IsFirst (shown l.place) l.number l.self;
  beside : IsBeside (shown l.initial.place) (shown l.place);
  ran : Ran l._made (shown l.initial.place) (shown l.place);
  still : IsTrue (is_open (shown l.place));
}
