use Rattle.follow_parts.proofs.Common.{◌≡◌, ◌+◌, suc, ◌++◌, ◌∷◌, [], List, refl, sym, subst, arith, PartsView, IsShaped, IsPut, OpenRead, begun, IsStateOf}
use Rattle.follow_parts.proofs.BeginningLemmas.{read_of}
use Rattle.follow_parts.proofs.BegunLemmas.{same_view, next_is_shaped, next_is_state}
use Rattle.follow_parts.proofs.PutLemmas.{put_last, reads_shaped, reads_state}
use Rattle.follow_parts.proofs.beginning.begin_read.Goals as goal

pub invariant_of-result : goal.invariant_of-result
invariant_of-result c =
    let s = c.args.state in
    let read = read_of (begun c.args.call s.now) in
    let same : record { inv = c.apart-rest.result.3; low = c.low_key.result; high = c.high_key.result } ≡ read =
    cc (c.apart-rest.ensures.now, c.low_key.ensures, c.high_key.ensures) in
    let put : IsPut read s.reads c.put.new.self = subst (λ (r : OpenRead). IsPut r s.reads c.put.new.self) same
    (subst (λ (rs : List OpenRead). IsPut (record { inv = c.apart-rest.result.3; low = c.low_key.result; high = c.high_key.result }) rs c.put.new.self)
    c.apart-rest.ensures.reads c.in_ok-put.ensures) in
    let now : c.apart-rest.result.3 + 1 ≡ suc s.now = omega (arith, c.apart-rest.ensures.now) in
    subst (λ (v : PartsView). IsShaped v) (sym
    (same_view c.apart-rest.result.0 s.rest c.apart-rest.result.1 s.parts c.put.new.self c.put.new.self (c.apart-rest.result.3 + 1) (suc s.now)
    c.apart-rest.ensures.rest c.apart-rest.ensures.parts refl now))
    (reads_shaped read s.reads (s.reads ++ read ∷ []) c.put.new.self (put_last read s.reads) put s.rest s.parts (suc s.now)
    (next_is_shaped s c.args.call c.apart-rest.ensures.shaped))

pub returns-clause-state : goal.returns-clause-state
returns-clause-state c start calls state =
    let s = c.args.state in
    let read = read_of (begun c.args.call s.now) in
    let same : record { inv = c.apart-rest.result.3; low = c.low_key.result; high = c.high_key.result } ≡ read =
    cc (c.apart-rest.ensures.now, c.low_key.ensures, c.high_key.ensures) in
    let put : IsPut read s.reads c.put.new.self = subst (λ (r : OpenRead). IsPut r s.reads c.put.new.self) same
    (subst (λ (rs : List OpenRead). IsPut (record { inv = c.apart-rest.result.3; low = c.low_key.result; high = c.high_key.result }) rs c.put.new.self)
    c.apart-rest.ensures.reads c.in_ok-put.ensures) in
    let now : c.apart-rest.result.3 + 1 ≡ suc s.now = omega (arith, c.apart-rest.ensures.now) in
    subst (λ (v : PartsView). IsStateOf start (calls ++ begun c.args.call s.now ∷ []) v) (sym
    (same_view c.apart-rest.result.0 s.rest c.apart-rest.result.1 s.parts c.put.new.self c.put.new.self (c.apart-rest.result.3 + 1) (suc s.now)
    c.apart-rest.ensures.rest c.apart-rest.ensures.parts refl now))
    (reads_state read s.reads (s.reads ++ read ∷ []) c.put.new.self (put_last read s.reads) put s.rest s.parts (suc s.now) start
    (calls ++ begun c.args.call s.now ∷ []) (next_is_state s c.args.call c.requires.reads start calls state))
