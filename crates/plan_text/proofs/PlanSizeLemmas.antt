-- The text of a plan is never too long: a call takes at most 44 bytes, and there are at most 4,096 of them, in at most 64 scripts.
use Rattle.plan_text.proofs.Common.{◌≡◌, ℕ, ◌+◌, ◌*◌, ◌^◌, ◌<◌, ◌≤◌, Bool, true, false, not, ◌&&◌, nat_lt, nat_le, List, [], ◌∷◌, ◌++◌, length, map}
use Rattle.plan_text.proofs.Common.{arith, All, sum, decimal, and_parts, ltb-true, leb-true, length-decimal-le, length-append, All-head, All-tail}
use Rattle.plan_text.proofs.Common.{sum_by-cons, serde_json_on_literals, items_of, compact_text, comma_if, items_text, Call, Get, Insert, Remove}
use Rattle.plan_text.proofs.Common.{Scan, Replace, text_limit, call_data, is_tree_call, AreTreeCalls, AreScripts, script_data, version_of}
use Rattle.plan_text.proofs.Common.{are_plain_scripts, plan_data}
use Rattle.plan_text.specs.PlanTexts.{written_data}
use Rattle.plan_text.proofs.WrittenPlanLemmas.{IsTreeCall}

-- a number below 2^32 has at most ten digits
digits : (n : ℕ) → nat_lt n (2 ^ 32) ≡ true → length (decimal n) ≤ 10
digits n h = let below : n < 2 ^ 32 = ltb-true n (2 ^ 32) h in length-decimal-le 10 n (omega arith) (omega arith) (omega arith)

-- a number below 2^30 has at most ten digits
value_digits : (n : ℕ) → nat_lt n (2 ^ 30) ≡ true → length (decimal n) ≤ 10
value_digits n h = let below : n < 2 ^ 30 = ltb-true n (2 ^ 30) h in length-decimal-le 10 n (omega arith) (omega arith) (omega arith)

pub size-call : (call : Call) → is_tree_call call ≡ true → length (compact_text (call_data call)) ≤ 44
unfolding serde_json_on_literals
size-call (Get key) h = omega (arith, length-append (decimal key) (93 ∷ []), digits key h)
size-call (Remove key) h = omega (arith, length-append (decimal key) (93 ∷ []), digits key h)
size-call (Insert key value) h =
    let parts = and_parts (nat_lt key (2 ^ 32)) (nat_lt value (2 ^ 30)) h in
    omega (
      arith,
      length-append (decimal key) (44 ∷ (decimal value ++ 93 ∷ [])),
      length-append (decimal value) (93 ∷ []),
      digits key parts.0,
      value_digits value parts.1,
    )
size-call (Scan low high) h =
    let parts = and_parts (nat_le low high) (nat_lt high (2 ^ 32)) h in
    let order : low ≤ high = leb-true low high parts.0 in
    let below : high < 2 ^ 32 = ltb-true high (2 ^ 32) parts.1 in
    omega (
      arith,
      length-append (decimal low) (44 ∷ (decimal high ++ 93 ∷ [])),
      length-append (decimal high) (93 ∷ []),
      length-decimal-le 10 low (omega arith) (omega arith) (omega arith),
      digits high parts.1,
    )
size-call (Replace key old new) h =
    let parts = and_parts (nat_lt key (2 ^ 32)) (nat_lt old (2 ^ 30) && nat_lt new (2 ^ 30)) h in
    let values = and_parts (nat_lt old (2 ^ 30)) (nat_lt new (2 ^ 30)) parts.1 in
    omega (
      arith,
      length-append (decimal key) (44 ∷ (decimal old ++ 44 ∷ (decimal new ++ 93 ∷ []))),
      length-append (decimal old) (44 ∷ (decimal new ++ 93 ∷ [])),
      length-append (decimal new) (93 ∷ []),
      digits key parts.0,
      value_digits old values.0,
      value_digits new values.1,
    )

-- what comes before an item
pub size-comma : (later : Bool) (xs : List ℕ) → length (comma_if later ++ xs) ≤ length xs + 1
size-comma true xs = omega arith
size-comma false xs = omega arith

-- a script, with its closing bracket
size-calls : (later : Bool) (calls : List Call) → All IsTreeCall calls
    → length (items_text later (items_of (map call_data calls))) ≤ 45 * length calls + 1
size-calls later [] h = omega arith
size-calls later (call ∷ calls) h =
    let text = compact_text (call_data call) in
    let rest = items_text true (items_of (map call_data calls)) in
    omega (
      arith,
      size-comma later (text ++ rest),
      length-append text rest,
      size-call call (All-head IsTreeCall call calls h),
      size-calls true calls (All-tail IsTreeCall call calls h),
    )

-- all scripts, with the closing bracket
pub size-scripts : (later : Bool) (scripts : List (List Call)) → AreTreeCalls scripts
    → length (items_text later (items_of (map script_data scripts))) ≤ 45 * sum (map (λ script. length script) scripts) + 3
    * length scripts + 1
size-scripts later [] h = omega arith
size-scripts later (script ∷ scripts) h =
    let text = compact_text (script_data script) in
    let rest = items_text true (items_of (map script_data scripts)) in
    omega (
      arith,
      size-comma later (text ++ rest),
      length-append text rest,
      size-calls false script (All-head (All IsTreeCall) script scripts h),
      size-scripts true scripts (All-tail (All IsTreeCall) script scripts h),
      sum_by-cons (λ (n : ℕ). n) (length script) (map (λ script. length script) scripts),
    )

size-version : (may_replace : Bool) → length (decimal (version_of may_replace)) ≤ 1
size-version true = length-decimal-le 1 2 (omega arith) (omega arith) (omega arith)
size-version false = length-decimal-le 1 1 (omega arith) (omega arith) (omega arith)

-- the text of a plan is within the limit
pub size-plan : (scripts : List (List Call)) → AreScripts scripts → length (compact_text (written_data scripts)) ≤ text_limit
unfolding serde_json_on_literals
size-plan scripts h = whole (not (are_plain_scripts scripts))
  where
    whole : (may_replace : Bool) → length (compact_text (plan_data may_replace scripts)) ≤ text_limit
    whole may_replace =
        let listed = items_text false (items_of (map script_data scripts)) in
        let version = decimal (version_of may_replace) in
        let few = h.few.few_scripts in
        let calls = h.few.few_calls in
        omega (
          arith,
          length-append listed (44 ∷ 34 ∷ 118 ∷ 101 ∷ 114 ∷ 115 ∷ 105 ∷ 111 ∷ 110 ∷ 34 ∷ 58 ∷ (version ++ 125 ∷ [])),
          length-append version (125 ∷ []),
          size-scripts false scripts h.calls,
          size-version may_replace,
        )
