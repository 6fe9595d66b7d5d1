-- The report of a location: JSON, with members by rising bytes.
use Rattle.std.specs.Prelude.{ℕ, List, Option, Some, None, codes}
use Rattle.serde_json.specs.Data.{Data, string, object, no_members, member}
use Rattle.history_text.specs.Texts.{number_data}
use Rattle.judge.specs.Reports.{numbers_data}
use Rattle.explain_locate.specs.declared.location.Location.{Location}
use Rattle.explain_locate.specs.declared.location.Location.TheVariants.{Yes, No, Lost, Undecided}

-- a no at this event of this call
abbrev pub no_data : ℕ → ℕ → Data
no_data event number = object (member (codes "call") (number_data number)
    (member (codes "event") (number_data event) (member (codes "verdict") (string (codes "no")) no_members)))

-- a location
abbrev pub location_data : Location → Data
location_data Yes = object (member (codes "verdict") (string (codes "yes")) no_members)
location_data (No event number) = no_data event number
location_data (Lost loss) = no_data loss.event loss.number
location_data (Undecided event number) = object (member (codes "call") (number_data number)
    (member (codes "event") (number_data event)
    (member (codes "reason") (string (codes "budget")) (member (codes "verdict") (string (codes "undecided")) no_members))))

-- a no with an order of the events before it
abbrev pub ordered_no_data : ℕ → ℕ → List ℕ → Data
ordered_no_data event number order = object (member (codes "call") (number_data number)
    (member (codes "event") (number_data event)
    (member (codes "order") (numbers_data order) (member (codes "verdict") (string (codes "no")) no_members))))

-- a location with an order; one that is undecided has none
abbrev pub ordered_data : Location → List ℕ → Data
ordered_data Yes order = object (member (codes "order") (numbers_data order) (member (codes "verdict") (string (codes "yes")) no_members))
ordered_data (No event number) order = ordered_no_data event number order
ordered_data (Lost loss) order = ordered_no_data loss.event loss.number order
ordered_data (Undecided event number) order = location_data (Undecided event number)

-- a location that may have an order
abbrev pub found_data : Location → Option (List ℕ) → Data
found_data location None = location_data location
found_data location (Some order) = ordered_data location order
