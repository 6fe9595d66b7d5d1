use Rattle.follow_parts.proofs.Common.{◌≡◌, ◌≤◌, ℕ, true, List, [], ◌∷◌, map, length, refl, sym, ap, subst, arith, All, All-head, low_key, high_key, kept_of}
use Rattle.follow_parts.proofs.Common.{covered, kept_part, IsPartShaped, Part, HasGoneIn, IsReadIn, Read}
use Rattle.follow_parts.proofs.SpanLemmas.{span_of, one_part, both_ok, read_in_span, read_in_parts, united_differ}
use Rattle.follow_parts.proofs.reading.read_in.Goals as goal

pub returns-then-span : goal.returns-then-span
returns-then-span c =
    let o = c.args.operation in
    let rest = c.args.rest.now in
    let met = c.args.met.items in
    let part = c.remove.result in
    let one : length met ≡ 1 = omega (arith, c.if-len-eq1.true, c.len.ensures, c.args.met.ok.0) in
    let is : met ≡ part ∷ [] = one_part met part one c.remove.ensures.value in
    let span : (key : ℕ) → low_key o.call ≤ key → key ≤ high_key o.call → covered part.ranges.items key ≡ true =
    span_of met c.index.result.now part c.deref.result.now (low_key o.call) (high_key o.call) c.low_key-low.result c.high_key-high.result
    c.low_key-low.ensures c.high_key-high.ensures (omega (arith, one)) c.index.ensures c.remove.ensures.value c.deref.ensures.value
    (λ key low high. c.if-span.ensures refl key low high) in
    both_ok c.read_in_part.result (λ (read : Read). read.ranges ≡ part.ranges) (HasGoneIn c.args.budget o (kept_part part).pasts)
    (IsReadIn c.args.budget o rest rest met)
    (λ read same gone. subst (λ (l : List Part). IsReadIn c.args.budget o rest rest l read) (sym is)
    (read_in_span c.args.budget o rest part read c.requires.rising
    (All-head IsPartShaped part [] (subst (All IsPartShaped) is c.requires.parts)) span same gone))
    c.read_in_part.ensures.ranges c.read_in_part.ensures.gone

pub read_in_united-requires-clause-other : goal.read_in_united-requires-clause-other
read_in_united-requires-clause-other c =
    united_differ c.args.operation c.args.met.items c.in_ok-united.united.pasts.items c.requires.comes c.in_ok-united.ensures.united.own

pub returns : goal.returns
returns c =
    let o = c.args.operation in
    let united = c.in_ok-united.united in
    both_ok c.read_in_united.result (λ (read : Read). read.ranges ≡ united.ranges) (HasGoneIn c.args.budget o (map kept_of united.pasts.items))
    (IsReadIn c.args.budget o c.args.rest.now c.unite.new.rest c.args.met.items)
    (λ read same gone. read_in_parts c.args.budget o c.low_key-low.result c.high_key-high.result c.args.rest.now c.unite.new.rest
    c.args.met.items united.ranges.items united.pasts.items read c.low_key-low.ensures c.high_key-high.ensures c.in_ok-united.ensures.some
    c.in_ok-united.ensures.united c.in_ok-united.ensures.shaped (ap (λ rs. rs.items) same) gone)
    c.read_in_united.ensures.ranges c.read_in_united.ensures.gone
