-- A text is too long, or no JSON, or JSON of one value.
use Rattle.plan_text.proofs.Common.{ℕ, List, arith, Data, IsTooLong, IsNoJson, IsJson}

pub long_or_short : (text : List ℕ) → IsTooLong text → IsNoJson text → ⊥
long_or_short text long none = let short = none.0 in omega (arith, long, short)

pub long_or_json : (text : List ℕ) (d : Data) → IsTooLong text → IsJson text d → ⊥
long_or_json text d long json = let short = json.fits in omega (arith, long, short)

pub none_or_json : (text : List ℕ) (d : Data) → IsNoJson text → IsJson text d → ⊥
none_or_json text d none json = none.1 d json.utf8 json.value
