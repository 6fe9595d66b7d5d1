-- The additions to a text that is long, or that shows a part of a picture.
use Rattle.std.specs.Prelude.{ℕ, zero, suc, ◌+◌, ◌==◌, if◌then◌else◌, Bool, true, false, List, [], ◌∷◌, ◌++◌, length, Option, Some, None, codes, decimal}
use Rattle.draw_picture.specs.declared.picture.Heading.{Heading}
use Rattle.draw_picture.specs.declared.picture.Heading.TheVariants.{Order, NoOrder, Undecided}
use Rattle.draw_picture.specs.declared.picture.PicturePart.{PicturePart}
use Rattle.draw_picture.specs.declared.picture.Picture.{Picture}
use Rattle.draw_svg.specs.Layout.{x_of, y_of, names_at}

-- ---- the names of the lanes once more

-- the name of a lane at a place
abbrev pub again_text : ℕ → ℕ → ℕ → List ℕ
again_text x y process =
    codes "<g class='lane'><text x='" ++ (decimal x ++ (codes "' y='" ++ (decimal y ++ (codes "'>process " ++ (decimal process
    ++ (codes "</text></g>" ++ 10 ∷ []))))))

-- a column of names, from a lane on
abbrev pub with_names : List ℕ → ℕ → ℕ → List ℕ → List ℕ
with_names text x lane [] = text
with_names text x lane (process ∷ processes) = with_names (text ++ again_text x (y_of lane + 32) process) x (lane + 1) processes

-- this many columns of names after one of them
abbrev pub with_screens : List ℕ → ℕ → List ℕ → ℕ → ℕ → List ℕ
with_screens text width lanes screen zero = text
with_screens text width lanes screen (suc more) =
    with_screens (with_names text (names_at width (screen + 1)) 0 lanes) width lanes (screen + 1) more

-- ---- a part

-- a dashed line across the lanes
abbrev pub line_text : ℕ → ℕ → List ℕ
line_text x bottom =
    codes "<path stroke='#5c6b77' stroke-dasharray='4 3' d='M" ++ (decimal x ++ (codes " 70V" ++ (decimal bottom ++ codes "'/>")))

-- the words on how many columns are before the part, and how many after it
abbrev pub before_text : ℕ → List ℕ
before_text count = codes "<text class='note' x='96' y='66'>&#8592; " ++ (decimal count ++ (codes " more columns</text>" ++ 10 ∷ []))

abbrev pub after_text : ℕ → ℕ → List ℕ
after_text x count =
    codes "<text class='note' text-anchor='end' x='" ++ (decimal x ++ (codes "' y='66'>" ++ (decimal count
    ++ (codes " more columns &#8594;</text>" ++ 10 ∷ []))))

-- a mark at each end at which there is more
abbrev pub with_before : List ℕ → ℕ → ℕ → List ℕ
with_before text count bottom = if count == 0 then text else text ++ line_text 84 bottom ++ before_text count

abbrev pub with_after : List ℕ → ℕ → ℕ → ℕ → List ℕ
with_after text x count bottom = if count == 0 then text else text ++ line_text x bottom ++ after_text x count

-- how many columns are shown, of how many, and around which event
abbrev pub counts_text : ℕ → PicturePart → List ℕ
counts_text columns part =
    decimal columns ++ (codes " of " ++ (decimal (part.before + columns + part.after) ++ (codes " columns, around event "
    ++ (decimal part.event ++ codes ". "))))

-- the counts, if not all columns are shown
abbrev pub with_counts : List ℕ → ℕ → PicturePart → List ℕ
with_counts text columns part = if part.before + part.after == 0 then text else text ++ counts_text columns part

-- the words on which calls are left out: a part of a no or an undecided shows only the named
-- segment, or a few calls of it
abbrev pub alone_text : Bool → Heading → List ℕ
alone_text true heading = codes "Calls that show where it goes wrong, with those that put what they read and those that they miss."
alone_text false Order = codes ""
alone_text false (NoOrder lo hi) = codes "Calls outside of the named segment are left out."
alone_text false (Undecided lo hi) = codes "Calls outside of the named segment are left out."

-- the beginning of a line of words
abbrev pub note_text : ℕ → List ℕ
note_text y = codes "<text class='note' x='16' y='" ++ (decimal y ++ codes "'>")

-- the words on what is shown
abbrev pub with_note : List ℕ → ℕ → ℕ → PicturePart → Bool → Heading → List ℕ
with_note text y columns part few heading =
    with_counts (text ++ note_text y) columns part ++ alone_text few heading ++ (codes "</text>" ++ 10 ∷ [])

-- the words on a part
abbrev pub with_part_of : List ℕ → ℕ → Picture → Option PicturePart → List ℕ
with_part_of text width picture None = text
with_part_of text width picture (Some part) =
    let bottom = y_of (length picture.lanes.items) in
    with_note (with_after (with_before text part.before bottom) (x_of width picture.columns + 8) part.after bottom)
    (bottom + 52) picture.columns part picture.is_few picture.heading

unfoldable pub with_part : List ℕ → ℕ → Picture → List ℕ
with_part text width picture = with_part_of text width picture picture.part
