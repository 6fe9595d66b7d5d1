-- The value of a replay has no float, nests five deep at most, and spells the replay.
use Rattle.plan_text.proofs.Common.{◌≡◌, ℕ, ◌≤◌, Bool, true, false, not, ◌&&◌, List, [], ◌∷◌, refl, arith, and_parts, depth, items_depth, items_of}
use Rattle.plan_text.proofs.Common.{has_float, items_have_float, has_no_pairs, pair_data, IsJson, items_have_float-map, items_depth-map, Item, Turns}
use Rattle.plan_text.proofs.Common.{End, Until, SpellsScripts, scripts_data, are_plain_scripts, ReplayView, IsReplay, document, item_data, ArePartsOf}
use Rattle.plan_text.proofs.Common.{SpellsReplay, SpellsStart, is_plain, written_data, written_parts, written_start}
use Rattle.plan_text.proofs.WrittenPlanLemmas.{any_scripts, depth-scripts, has_float-scripts, plain_scripts}

has_float-item : (item : Item) → has_float (item_data item) ≡ false
has_float-item (Turns process turns) = refl
has_float-item (End process) = refl
has_float-item (Until process point) = refl

has_float-document : (plain : Bool) (r : ReplayView) → has_float (document (written_parts plain r)) ≡ false
has_float-document true r = rw (items_have_float-map item_data has_float-item r.schedule, has_float-scripts r.scripts) refl
has_float-document false r = rw (
  items_have_float-map item_data has_float-item r.schedule,
  has_float-scripts r.scripts,
  items_have_float-map pair_data (λ pair. refl) r.start,
) refl

-- a replay has no float
pub has_float-replay : (r : ReplayView) → has_float (written_data r) ≡ false
has_float-replay r = has_float-document (is_plain r) r

depth-item : (item : Item) → depth (item_data item) ≤ 1
depth-item (Turns process turns) = omega arith
depth-item (End process) = omega arith
depth-item (Until process point) = omega arith

depth-document : (plain : Bool) (r : ReplayView) → depth (document (written_parts plain r)) ≤ 5
depth-document true r = omega (arith, depth-scripts r.scripts, items_depth-map item_data 1 depth-item r.schedule)
depth-document false r =
    omega (
      arith,
      depth-scripts r.scripts,
      items_depth-map item_data 1 depth-item r.schedule,
      items_depth-map pair_data 1 (λ pair. omega arith) r.start,
    )

-- the value of a replay nests at most five deep
pub depth-replay : (r : ReplayView) → depth (written_data r) ≤ 5
depth-replay r = depth-document (is_plain r) r

no_pairs : (pairs : List (ℕ × ℕ)) → has_no_pairs pairs ≡ true → pairs ≡ []
no_pairs [] h = refl
no_pairs (pair ∷ pairs) h = cc

module _ (r : ReplayView) (within : IsReplay r) where
  parts : (plain : Bool) → is_plain r ≡ plain → ArePartsOf (written_parts plain r) r
  parts true h =
      let both = and_parts (has_no_pairs r.start) (are_plain_scripts r.scripts) h in
      record {
        limit = refl;
        rows = refl;
        schedule = refl;
        scripts = record { value = refl; standing = plain_scripts r.scripts within.plan.calls both.1 };
        start = no_pairs r.start both.0;
        variant = refl;
        within = within;
      }
  parts false h = record {
    limit = refl;
    rows = refl;
    schedule = refl;
    scripts = record { value = refl; standing = any_scripts r.scripts within.plan.calls };
    start = refl;
    variant = refl;
    within = within;
  }

  -- the text that a replay is written as spells it
  pub Spells-written : (text : List ℕ) → IsJson text (written_data r) → SpellsReplay text r
  Spells-written text json = record {
    value = written_data r;
    json = json;
    spelled = record { parts = written_parts (is_plain r) r; value = refl; spelled = parts (is_plain r) refl };
  }
