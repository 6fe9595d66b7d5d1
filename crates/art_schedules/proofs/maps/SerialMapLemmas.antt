-- Serial schedules of a tree do what the map does, since each call that runs alone does.
use Rattle.art_schedules.proofs.Common.{◌≡◌, ℕ, ◌+◌, ◌%◌, ◌<◌, ◌≤◌, List, length, inr, refl, sym, subst, arith, Call, Get}
use Rattle.art_schedules.proofs.Common.{Insert, Remove, Scan, Replace, call_limit, Contents, reply_to, after, after_reply, after_reply-answer}
use Rattle.art_schedules.proofs.Common.{Shape, clock, IsWithinLimits, Variant, is_tree_call, Means, IsAtRest, TablesOpenAtRest, SameTreesAreOne}
use Rattle.art_schedules.proofs.Common.{SeeksAreTheMaps, ScansAreTheMaps, InsertsAreTheMaps}
use Rattle.std.proofs.Common.{slice_set, IsTrue, slice_index}
use Rattle.std.proofs.Math.Nat.{mod-lt}
use Rattle.map_object.proofs.TellLemmas.{tells_all, reply_to_answers}
use Rattle.art_core.specs.Claims.{SerialIsMap}
use Rattle.art_schedules.specs.alone.Laws.{DoesAlone}
use Rattle.art_schedules.proofs.serial.KeptLemmas.{MayRunAlone, IsKept}
use Rattle.art_schedules.proofs.serial.StartKeptLemmas.{serial-run-keeps}
use Rattle.art_schedules.proofs.maps.LengthLemmas.{after_reply-few}
use Rattle.art_schedules.proofs.maps.ClockLemmas.{rest-more, set-rows, set-rests}

-- After so many calls the table is at rest and means a map of no more pairs. One claim of kind 256 was made where it was opened, and each
-- call makes at most
-- one of a kind.
pub record IsMap (s : Shape) (n : ℕ) (words : List ℕ) (m : Contents) : Type 0 where
  pub rest : IsAtRest s (n + 1) words
  pub means : Means s words m
  pub few : length m ≤ n

-- what the map answers is no refusal
after-answer : (m : Contents) (call : Call) → after_reply m call (reply_to m call) ≡ after m call
after-answer m call = after_reply-answer m call (reply_to m call) (reply_to_answers m call)

module _ (same : SameTreesAreOne) (s : Shape) where
  -- the clock is set to a number of 64 bits
  clock-set : (n : ℕ) (words : List ℕ) (m : Contents) (value : ℕ) → value < 18446744073709551616 → IsMap s n words m
      → IsMap s n (slice_set words clock value) m
  clock-set n words m value small h =
      let rows = set-rows s (n + 1) words h.rest value same m h.means in
      record { rest = set-rests s (n + 1) words h.rest value m rows small; means = rows.means; few = h.few }

  -- a call that does what it does on the map
  done : (variant : Variant) (n : ℕ) (words : List ℕ) (m : Contents) (call : Call) → IsMap s n words m
      → DoesAlone s variant (n + 1) words m call
      → MayRunAlone s variant (IsMap s) n words m call
  done variant n words m call h does = record {
    last = does.later;
    reply = reply_to m call;
    runs = does.runs;
    legal = inr (tells_all m call (reply_to m call) refl);
    keeps = record {
      rest = rest-more s (n + 1) (n + 1 + 1) does.later (omega arith) does.rest;
      means = subst (Means s does.later) (sym (after-answer m call)) does.means;
      few = omega (arith, after_reply-few m call (reply_to m call), h.few);
    };
  }

  module _ (within : IsWithinLimits s) (seeks : SeeksAreTheMaps) (scans : ScansAreTheMaps) (inserts : InsertsAreTheMaps) where
    each : (variant : Variant) (n : ℕ) (words : List ℕ) (m : Contents) (call : Call) → IsTrue (is_tree_call call) → n < call_limit
        → IsMap s n words m
        → MayRunAlone s variant (IsMap s) n words m call
    each variant n words m (Get key) tree few h =
        done variant n words m (Get key) h (seeks s variant (n + 1) words m (Get key) tree refl h.rest h.means)
    each variant n words m (Remove key) tree few h =
        done variant n words m (Remove key) h (seeks s variant (n + 1) words m (Remove key) tree refl h.rest h.means)
    each variant n words m (Replace key expected value) tree few h =
        done variant n words m (Replace key expected value) h
        (seeks s variant (n + 1) words m (Replace key expected value) tree refl h.rest h.means)
    each variant n words m (Scan low high) tree few h =
        done variant n words m (Scan low high) h (scans s variant (n + 1) words m low high (omega (arith, h.few, few)) h.rest h.means)
    each variant n words m (Insert key value) tree few h =
        let i = inserts s variant (n + 1) words m key value tree within (omega (arith, few)) h.rest h.means in
        record {
          last = i.later;
          reply = i.reply;
          runs = i.runs;
          legal = i.legal;
          keeps = record { rest = i.rests; means = i.means; few = omega (arith, after_reply-few m (Insert key value) i.reply, h.few) };
        }

    pub is-kept : (variant : Variant) → IsKept s variant (IsMap s)
    is-kept variant = record {
      stamps = λ n words m h. clock-set n words m ((slice_index words clock + 1) % 18446744073709551616)
          (mod-lt (slice_index words clock + 1) (omega arith)) h;
      resets = λ n words m h. clock-set n words m 0 (omega arith) h;
      calls = each variant;
    }

pub serial-is-map : TablesOpenAtRest → SameTreesAreOne → SeeksAreTheMaps → ScansAreTheMaps → InsertsAreTheMaps → SerialIsMap
serial-is-map opens same seeks scans inserts plan start words schedule s run full serial =
    let within = run.within.shape in
    let opened = opens plan.shape within.root in
    let k = serial-run-keeps plan start words schedule s (IsMap plan.shape) run serial
    (is-kept same plan.shape within seeks scans inserts plan.variant)
    (record { rest = opened.0; means = opened.1; few = omega arith }) in
    (k.0, k.1.rest.unlocked, k.1.means)
