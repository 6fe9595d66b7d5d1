-- The text of a replay is never too long: an item takes at most 43 bytes, a starting pair 24, and a call 45.
use Rattle.plan_text.proofs.Common.{◌≡◌, ℕ, ◌+◌, ◌*◌, ◌^◌, ◌<◌, ◌≤◌, Bool, true, false, ◌&&◌, nat_lt, nat_le, List, [], ◌∷◌, ◌++◌, length, map, arith}
use Rattle.plan_text.proofs.Common.{All, IsTrue, decimal, sum, and_parts, ltb-true, leb-true, length-decimal-le, length-append, All-head, All-tail}
use Rattle.plan_text.proofs.Common.{serde_json_on_literals, Data, Members, member, no_members, string, items_of, compact_text, items_text}
use Rattle.plan_text.proofs.Common.{members_text, Insert, Contents, text_limit, list_data, number_data, pair_data, Shape, is_tree_call, Point, Child}
use Rattle.plan_text.proofs.Common.{Check, LockRoot, LockRow, Unlock, Answer, Variant, Coupled, Optimistic, ReadUnchecked, ScanUnvalidated}
use Rattle.plan_text.proofs.Common.{LockUnchecked, EarlyRelease, inserts, Item, Turns, End, Until, scripts_data, script_data, ReplayView, IsReplay}
use Rattle.plan_text.proofs.Common.{is_item, document, item_data, last_members, other_members, point_name, rows_data, variant_name, AreHeld, is_plain}
use Rattle.plan_text.proofs.Common.{written_data, written_parts}
use Rattle.std.specs.Prelude.{codes}
use Rattle.art_rows.specs.Table.{IsWithinLimits}
use Rattle.art_core.specs.NamedTurns.{process_of_item}
use Rattle.plan_text.proofs.PlanSizeLemmas.{size-call, size-comma, size-scripts}
use Rattle.plan_text.proofs.WrittenPlanLemmas.{IsTreeCall}

-- a number below 10^20 has at most twenty digits
long_digits : (n : ℕ) → n < 2 ^ 64 → length (decimal n) ≤ 20
long_digits n h = length-decimal-le 20 n (omega arith) (omega arith) (omega arith)

digits : (n : ℕ) → n < 2 ^ 32 → length (decimal n) ≤ 10
digits n h = length-decimal-le 10 n (omega arith) (omega arith) (omega arith)

-- ---- items

size-point : (point : Point) → length (compact_text (string (point_name point))) ≤ 11
unfolding serde_json_on_literals
size-point Child = omega arith
size-point Check = omega arith
size-point LockRoot = omega arith
size-point LockRow = omega arith
size-point Unlock = omega arith
size-point Answer = omega arith

size-item : (item : Item) → IsTrue (is_item item) → process_of_item item < 2 ^ 64 → length (compact_text (item_data item)) ≤ 42
unfolding serde_json_on_literals
size-item (Turns process turns) h small =
    let few : turns ≤ 1000000 = leb-true turns 1000000 (and_parts (nat_le 1 turns) (nat_le turns 1000000) h).1 in
    omega (
      arith,
      length-append (decimal process) (44 ∷ 34 ∷ 116 ∷ 117 ∷ 114 ∷ 110 ∷ 115 ∷ 34 ∷ 44 ∷ (decimal turns ++ 93 ∷ [])),
      length-append (decimal turns) (93 ∷ []),
      long_digits process small,
      digits turns (omega (arith, few)),
    )
size-item (End process) h small =
    omega (arith, length-append (decimal process) (44 ∷ 34 ∷ 101 ∷ 110 ∷ 100 ∷ 34 ∷ 93 ∷ []), long_digits process small)
size-item (Until process point) h small =
    omega (
      arith,
      length-append (decimal process) (44 ∷ 34 ∷ 117 ∷ 110 ∷ 116 ∷ 105 ∷ 108 ∷ 34 ∷ 44 ∷ (compact_text (string (point_name point)) ++ 93 ∷ [])),
      length-append (compact_text (string (point_name point))) (93 ∷ []),
      long_digits process small,
      size-point point,
    )

-- items after others, with the closing bracket
size-items : (later : Bool) (items : List Item) → All (λ item. IsTrue (is_item item)) items → AreHeld items
    → length (items_text later (items_of (map item_data items))) ≤ 43 * length items + 1
size-items later [] h held = omega arith
size-items later (item ∷ items) h held =
    let text = compact_text (item_data item) in
    let rest = items_text true (items_of (map item_data items)) in
    omega (
      arith,
      size-comma later (text ++ rest),
      length-append text rest,
      size-item item (All-head (λ item. IsTrue (is_item item)) item items h) (All-head (λ item. process_of_item item < 2 ^ 64) item items held),
      size-items true items (All-tail (λ item. IsTrue (is_item item)) item items h)
          (All-tail (λ item. process_of_item item < 2 ^ 64) item items held),
    )

-- ---- starting pairs

size-pair : (pair : ℕ × ℕ) → is_tree_call (Insert pair.0 pair.1) ≡ true → length (compact_text (pair_data pair)) ≤ 23
unfolding serde_json_on_literals
size-pair pair h =
    let parts = and_parts (nat_lt pair.0 (2 ^ 32)) (nat_lt pair.1 (2 ^ 30)) h in
    let key : pair.0 < 2 ^ 32 = ltb-true pair.0 (2 ^ 32) parts.0 in
    let value : pair.1 < 2 ^ 30 = ltb-true pair.1 (2 ^ 30) parts.1 in
    omega (
      arith,
      length-append (decimal pair.0) (44 ∷ (decimal pair.1 ++ 93 ∷ [])),
      length-append (decimal pair.1) (93 ∷ []),
      digits pair.0 key,
      digits pair.1 (omega (arith, value)),
    )

size-pairs : (later : Bool) (pairs : Contents) → All IsTreeCall (inserts pairs)
    → length (items_text later (items_of (map pair_data pairs))) ≤ 24 * length pairs + 1
size-pairs later [] h = omega arith
size-pairs later (pair ∷ pairs) h =
    let text = compact_text (pair_data pair) in
    let rest = items_text true (items_of (map pair_data pairs)) in
    omega (
      arith,
      size-comma later (text ++ rest),
      length-append text rest,
      size-pair pair (All-head IsTreeCall (Insert pair.0 pair.1) (inserts pairs) h),
      size-pairs true pairs (All-tail IsTreeCall (Insert pair.0 pair.1) (inserts pairs) h),
    )

-- ---- the whole text

size-member : (later : Bool) (name : List ℕ) (d : Data) (ms : Members)
    → length (members_text later (member name d ms)) ≤ length (compact_text (string name)) + length (compact_text d) + length (members_text true ms) + 2
size-member later name d ms =
    let text = compact_text d in
    let rest = members_text true ms in
    omega (
      arith,
      size-comma later (compact_text (string name) ++ 58 ∷ (text ++ rest)),
      length-append (compact_text (string name)) (58 ∷ (text ++ rest)),
      length-append text rest,
    )

size-variant : (variant : Variant) → length (compact_text (string (variant_name variant))) ≤ 18
unfolding serde_json_on_literals
size-variant Coupled = omega arith
size-variant Optimistic = omega arith
size-variant ReadUnchecked = omega arith
size-variant ScanUnvalidated = omega arith
size-variant LockUnchecked = omega arith
size-variant EarlyRelease = omega arith

size-rows : (shape : Shape) → IsWithinLimits shape → length (compact_text (rows_data shape)) ≤ 48
unfolding serde_json_on_literals
size-rows shape within =
    let a = within.rows4 in
    let b = within.rows16 in
    let c = within.rows48 in
    let d = within.rows256 in
    omega (
      arith,
      length-append (decimal shape.rows4)
          (44 ∷ (decimal shape.rows16 ++ 44 ∷ (decimal shape.rows48 ++ 44 ∷ (decimal shape.rows256 ++ 93 ∷ [])))),
      length-append (decimal shape.rows16) (44 ∷ (decimal shape.rows48 ++ 44 ∷ (decimal shape.rows256 ++ 93 ∷ []))),
      length-append (decimal shape.rows48) (44 ∷ (decimal shape.rows256 ++ 93 ∷ [])),
      length-append (decimal shape.rows256) (93 ∷ []),
      digits shape.rows4 (omega (arith, a)),
      digits shape.rows16 (omega (arith, b)),
      digits shape.rows48 (omega (arith, c)),
      digits shape.rows256 (omega (arith, d)),
    )

-- the last members, of a version
size-last : (variant : Variant) (version : ℕ) → version ≤ 2
    → length (members_text true (last_members (string (variant_name variant)) version)) ≤ 64
unfolding serde_json_on_literals
size-last variant version few =
    let name = string (variant_name variant) in
    omega (
      arith,
      size-member true (codes "variant") name (member (codes "version") (number_data version) no_members),
      size-member true (codes "version") (number_data version) no_members,
      size-variant variant,
      digits version (omega (arith, few)),
    )

module _ (r : ReplayView) (within : IsReplay r) (held : AreHeld r.schedule) where
  -- the members after the scripts
  size-others : (plain : Bool)
      → length (members_text true (other_members (written_parts plain r).start (string (variant_name r.variant)))) ≤ 98500
  unfolding serde_json_on_literals
  size-others true = omega (arith, size-last r.variant 1 (omega arith))
  size-others false =
      let few = within.start.few in
      omega (
        arith,
        size-member true (codes "start") (list_data (map pair_data r.start)) (last_members (string (variant_name r.variant)) 2),
        size-pairs false r.start within.start.calls,
        size-last r.variant 2 (omega arith),
      )

  size-document : (plain : Bool) → length (compact_text (document (written_parts plain r))) < text_limit
  unfolding serde_json_on_literals
  size-document plain =
      let limit = number_data r.limit in
      let rows = rows_data r.shape in
      let schedule = list_data (map item_data r.schedule) in
      let scripts = scripts_data r.scripts in
      let others = other_members (written_parts plain r).start (string (variant_name r.variant)) in
      let from_scripts = member (codes "scripts") scripts others in
      let from_schedule = member (codes "schedule") schedule from_scripts in
      let from_rows = member (codes "rows") rows from_schedule in
      let few_turns = within.few_turns in
      let few_items = within.few_items in
      let few_scripts = within.plan.few_scripts in
      let few_calls = within.plan.few_calls in
      omega (
        arith,
        size-member false (codes "limit") limit from_rows,
        size-member true (codes "rows") rows from_schedule,
        size-member true (codes "schedule") schedule from_scripts,
        size-member true (codes "scripts") scripts others,
        digits r.limit (omega (arith, few_turns)),
        size-rows r.shape within.plan.shape,
        size-items false r.schedule within.items held,
        size-scripts false r.scripts within.plan.calls,
        size-others plain,
      )

  -- the text of a replay is within the limit
  pub size-replay : length (compact_text (written_data r)) < text_limit
  size-replay = size-document (is_plain r)
