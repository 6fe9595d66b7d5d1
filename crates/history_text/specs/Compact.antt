-- Values and texts in the compact form: no spaces, members by rising bytes, numbers in plain decimal.
use Rattle.std.specs.Prelude.{◌≡◌, ℕ, ◌≤◌, List, [], ◌∷◌, ◌++◌, Some, ⊤, codes, decimal}
use Rattle.std.specs.Str.{IsAscii}
use Rattle.json.specs.Tree.{HasNumbers}
use Rattle.serde_json.specs.Data.{Data, depth}
use Rattle.serde_json.specs.Read.{of_json, max_depth}
use Rattle.serde_json.specs.Written.{outline, compact_text}
use Rattle.history_text.specs.WhiteSpace.{AreWhiteSpace}
use Rattle.events.specs.HistoryView.{HistoryView}
use Rattle.history_text.specs.declared.version.TextVersion.{TextVersion}
use Rattle.history_text.specs.Versions.{version_number}
use Rattle.history_text.specs.Texts.{SpellsAs}

-- a value whose compact text is ASCII, and JSON of this value
pub record IsPlain (d : Data) : Type 0 where
  pub numbers : HasNumbers (outline d)
  pub same : of_json (outline d) ≡ Some d
  pub ascii : IsAscii (compact_text d)

abbrev pub ArePlain : List Data → Type 0
ArePlain [] = ⊤
ArePlain (d ∷ ds) = IsPlain d × ArePlain ds

-- the text is the compact text of this value, as which it is read
pub record IsCompact (d : Data) (text : List ℕ) : Type 0 where
  pub whole : text ≡ compact_text d
  pub plain : IsPlain d

-- a text begins with the compact text of such a value, and this is left after it
pub record BeginsWith (d : Data) (text rest : List ℕ) : Type 0 where
  pub parts : text ≡ compact_text d ++ rest
  pub plain : IsPlain d

-- what is left of a text is the number of this version, the brace that ends a document, and white
-- space
pub record EndsAs (version : TextVersion) (text : List ℕ) : Type 0 where
  pub behind : List ℕ
  pub parts : text ≡ codes ",\"version\":" ++ (decimal (version_number version) ++ (codes "}" ++ behind))
  pub white : AreWhiteSpace behind

-- a text is the compact text of a value that spells this history, with white space after it
pub record SpellsCompactly (text : List ℕ) (history : HistoryView) : Type 0 where
  pub value : Data
  pub behind : List ℕ
  pub whole : BeginsWith value text behind
  pub white : AreWhiteSpace behind
  pub shallow : depth value ≤ max_depth
  pub spelled : SpellsAs value history
