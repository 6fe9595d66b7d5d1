-- The parts of a text around the bars.
use Rattle.std.specs.Prelude.{ℕ, ◌+◌, ◌==◌, nat_le, Bool, true, false, if◌then◌else◌, List, [], ◌∷◌, ◌++◌, length, Option, Some, None, codes, decimal}
use Rattle.std.specs.List.{list_any}
use Rattle.draw_picture.specs.declared.picture.Bar.{Bar}
use Rattle.draw_picture.specs.declared.picture.Heading.{Heading}
use Rattle.draw_picture.specs.declared.picture.Heading.TheVariants.{Order, NoOrder, Undecided}
use Rattle.draw_picture.specs.declared.picture.PicturePart.{PicturePart}
use Rattle.draw_picture.specs.Words.{pairs_words}
use Rattle.draw_svg.specs.Content.{escaped, shown}
use Rattle.draw_svg.specs.Layout.{y_of}

-- the head of a text of this size
abbrev pub head_text : ℕ → ℕ → List ℕ
head_text width height =
    codes "<svg xmlns='http://www.w3.org/2000/svg' width='" ++ (decimal width ++ (codes "' height='" ++ (decimal height ++ (codes "'>"
    ++ 10 ∷ []))))

-- a range of keys, or its only key
abbrev pub keys_text : ℕ → ℕ → List ℕ
keys_text lo hi = if lo == hi then codes "key " ++ decimal lo else codes "keys " ++ (decimal lo ++ (codes " to " ++ decimal hi))

-- the verdict in words
abbrev pub verdict_text : Heading → List ℕ
verdict_text Order = codes "Linearizable"
verdict_text (NoOrder lo hi) = codes "Not linearizable: " ++ keys_text lo hi
verdict_text (Undecided lo hi) = codes "Undecided: " ++ keys_text lo hi

-- what a picture says at its top
abbrev pub with_heading : List ℕ → Heading → List ℕ
with_heading text heading = text ++ codes "<text class='title' x='16' y='28'>" ++ verdict_text heading ++ (codes "</text>" ++ 10 ∷ [])

-- words that have more letters than there is room for, in full
abbrev pub whole_text : ℕ → List ℕ → List ℕ
whole_text room words = if nat_le (length words) room then [] else codes "<title>" ++ escaped words ++ codes "</title>"

-- the words before the pairs at the start; in a part of a picture the pairs are those at keys of
-- its calls
abbrev pub start_text : Option PicturePart → List ℕ
start_text None = codes "starts with "
start_text (Some part) = codes "starts at these calls' keys with "

-- the pairs at the start, in words; also in full in a title if they are cut
abbrev pub with_start_words : List ℕ → Option PicturePart → List ℕ → ℕ → List ℕ
with_start_words text part words room =
    text ++ codes "<g class='start'>" ++ whole_text room words ++ codes "<text x='16' y='50'>" ++ start_text part ++ shown room words
    ++ (codes "</text></g>" ++ 10 ∷ [])

abbrev pub with_start : List ℕ → Option PicturePart → List (ℕ × ℕ) → ℕ → List ℕ
with_start text part start room = with_start_words text part (pairs_words start) room

-- the ground of a lane
abbrev pub ground_text : ℕ → ℕ → List ℕ
ground_text end y =
    codes "<g class='lane'><rect x='8' y='" ++ (decimal y ++ (codes "' width='" ++ (decimal end ++ codes "' height='56'/>")))

-- the name of a lane
abbrev pub name_text : ℕ → ℕ → List ℕ
name_text y process =
    codes "<text x='16' y='" ++ (decimal y ++ (codes "'>process " ++ (decimal process ++ (codes "</text></g>" ++ 10 ∷ []))))

-- the lane of a process
unfoldable pub with_lane : List ℕ → ℕ → ℕ → ℕ → List ℕ
with_lane text end lane process = text ++ ground_text end (y_of lane + 1) ++ name_text (y_of lane + 32) process

-- whether a bar is drawn as the one at which the history goes wrong
abbrev pub has_wrong : List Bar → Bool
has_wrong bars = list_any (λ bar. bar.is_wrong) bars

-- what a bar means
abbrev pub bars_text : ℕ → List ℕ
bars_text y =
    codes "<text class='note' x='16' y='" ++ (decimal y
    ++ (codes "'>A bar is a call, from its invocation to its answer; the number in it is the call's.</text>" ++ 10 ∷ []))

-- the words on what a circle means, and on a red and striped bar if there is one
abbrev pub marks_text : Heading → Bool → List ℕ
marks_text Order red = codes "A circle has the call's place in the order."
marks_text (NoOrder lo hi) true = codes "A circle has the call's place in an order, as far as one gets; red stripes show where it goes wrong."
marks_text (NoOrder lo hi) false = codes "A circle has the call's place in an order, as far as one gets."
marks_text (Undecided lo hi) true =
    codes "A circle has the call's place in an order, as far as one got within the budget; red stripes show where it goes wrong."
marks_text (Undecided lo hi) false = codes "A circle has the call's place in an order, as far as one got within the budget."

-- the line with these words
abbrev pub with_marks_text : List ℕ → ℕ → Heading → Bool → List ℕ
with_marks_text text y heading red =
    text ++ (codes "<text class='note' x='16' y='" ++ (decimal y ++ codes "'>")) ++ marks_text heading red ++ (codes "</text>" ++ 10 ∷ [])

-- what the shapes mean, below the lanes
abbrev pub with_legend : List ℕ → ℕ → Heading → Bool → List ℕ
with_legend text y heading red = with_marks_text (text ++ bars_text y) (y + 16) heading red
