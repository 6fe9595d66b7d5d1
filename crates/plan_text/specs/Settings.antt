-- The values of a replay's turns, of its shape and of its variant.
use Rattle.std.specs.Prelude.{◌≡◌, ℕ, ◌≤◌}
use Rattle.serde_json.specs.Data.{Data, string}
use Rattle.history_text.specs.Texts.{number_data}
use Rattle.art_rows.specs.declared.table.Shape.{Shape}
use Rattle.art_rows.specs.Table.{IsWithinLimits}
use Rattle.art_rows.specs.declared.variant.Variant.{Variant}
use Rattle.plan_text.specs.Replays.{turn_limit}
use Rattle.plan_text.specs.ReplayTexts.{rows_data, variant_name}

-- these values are those of turns, a shape and a variant, within the limits
pub record AreSettings (limit rows variant : Data) (turns : ℕ) (shape : Shape) (name : Variant) : Type 0 where
  pub limit_is : limit ≡ number_data turns
  pub some_turn : 1 ≤ turns
  pub few_turns : turns ≤ turn_limit
  pub rows_are : rows ≡ rows_data shape
  pub within : IsWithinLimits shape
  pub variant_is : variant ≡ string (variant_name name)
