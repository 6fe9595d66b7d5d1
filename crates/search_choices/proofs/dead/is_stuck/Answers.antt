use Rattle.search_choices.proofs.Common.{◌≡◌, Some, None, length, refl, inl, slice_get, both_ways, slice_get_read}
use Rattle.search_choices.proofs.dead.is_stuck.Goals as goal

pub returns-in-Some-reply : goal.returns-in-Some-reply
returns-in-Some-reply g c = λ yes.
    let calls = c.args.calls.now in
    let a = c.index-calls-place.result in
    let here : slice_get calls c.args.place ≡ Some a =
    slice_get_read calls (length calls) c.args.place a refl c.requires.1.1.1.1 c.index-calls-place.is in
    record {
      call = a;
      response = c.in-Some.response;
      key = c.in-Some-key_of.key;
      value = Some c.in-Some-reply.value;
      here = here;
      new = λ h. both_ways c.is_taken.result c.if-is_taken.false (c.is_taken.ensures.1 h);
      answered = c.in-Some.is;
      reports = inl (record { of_key = c.in-Some-key_of.ensures; found = c.in-Some-reply.is });
      missing = c.is_lost.ensures.missing yes;
      unput = c.is_lost.ensures.unput yes;
    }

pub returns-in-None : goal.returns-in-None
returns-in-None g c = λ yes.
    let calls = c.args.calls.now in
    let a = c.index-calls-place.result in
    let here : slice_get calls c.args.place ≡ Some a =
    slice_get_read calls (length calls) c.args.place a refl c.requires.1.1.1.1 c.index-calls-place.is in
    record {
      call = a;
      response = c.in-Some.response;
      key = c.in-Some-key_of.key;
      value = None;
      here = here;
      new = λ h. both_ways c.is_taken.result c.if-is_taken.false (c.is_taken.ensures.1 h);
      answered = c.in-Some.is;
      reports = inl (record { of_key = c.in-Some-key_of.ensures; found = c.in-None.is });
      missing = c.is_lost-in-None.ensures.missing yes;
      unput = c.is_lost-in-None.ensures.unput yes;
    }
