-- The bars of a text. Each definition gives the text so far with one more part at the end.
use Rattle.std.specs.Prelude.{ℕ, ◌+◌, ◌-◌, nat_lt, Bool, true, false, if◌then◌else◌, List, [], ◌∷◌, ◌++◌, Option, Some, None, option_map, codes}
use Rattle.std.specs.Prelude.{decimal, string_bytes}
use Rattle.draw_picture.specs.declared.picture.Bar.{Bar}
use Rattle.draw_svg.specs.Content.{escaped, shown}
use Rattle.draw_svg.specs.Layout.{x_of, y_of, end_of, room_of}

-- how a bar is drawn
abbrev pub class_of : Bar → List ℕ
class_of bar = if bar.is_wrong then codes "wrong" else if bar.is_pale then codes "pale" else codes "call"

-- how the text of a bar begins
abbrev pub opening_text : Bar → List ℕ
opening_text bar = codes "<g class='" ++ (class_of bar ++ codes "'>")

-- the event at which a call is answered
abbrev pub answered_text : Option ℕ → List ℕ
answered_text None = codes " on, pending"
answered_text (Some res) = codes " to event " ++ decimal res

-- a reply, if there is one
abbrev pub with_reply : List ℕ → Option (List ℕ) → List ℕ
with_reply text None = text
with_reply text (Some words) = text ++ codes ": " ++ escaped words

-- a call with its process and the event at which it is invoked
abbrev pub called_text : Bar → List ℕ
called_text bar =
    codes "call " ++ (decimal bar.number ++ (codes " of process " ++ (decimal bar.process ++ (codes ", event " ++ decimal bar.inv))))

-- a call in full: its number with its process and events, and all its words
abbrev pub with_call : List ℕ → Bar → List ℕ
with_call text bar =
    with_reply (text ++ called_text bar ++ answered_text bar.res ++ codes ": "
    ++ escaped (string_bytes bar.call)) (option_map string_bytes bar.reply)

-- the title of a bar: its call in full
abbrev pub with_title : List ℕ → Bar → List ℕ
with_title text bar = with_call (text ++ codes "<title>") bar ++ codes "</title>"

-- a rectangle, and one that is open at the right
abbrev pub rectangle_text : ℕ → ℕ → ℕ → List ℕ
rectangle_text x y span =
    codes "<rect class='bar' x='" ++ (decimal x ++ (codes "' y='" ++ (decimal y ++ (codes "' width='" ++ (decimal span
    ++ codes "' height='18' rx='3'/>")))))

abbrev pub with_open : List ℕ → ℕ → ℕ → ℕ → List ℕ
with_open text x y end =
    text ++ (codes "<path class='bar' d='M" ++ (decimal end ++ (codes " " ++ decimal y))) ++ (codes "H" ++ (decimal x ++ (codes "v18H"
    ++ (decimal end ++ codes "'/>"))))

-- a line to the right, down and back; a rectangle that is open at the left; a rectangle that is
-- open at both ends, whose line leaves out its right side
abbrev pub turn_text : ℕ → ℕ → List ℕ
turn_text x end = codes "H" ++ (decimal end ++ (codes "v18H" ++ (decimal x ++ codes "'/>")))

abbrev pub with_left_open : List ℕ → ℕ → ℕ → ℕ → List ℕ
with_left_open text x y end = text ++ (codes "<path class='bar' d='M" ++ (decimal x ++ (codes " " ++ decimal y))) ++ turn_text x end

abbrev pub dashes_text : ℕ → ℕ → ℕ → List ℕ
dashes_text x y span =
    codes "<path class='bar' stroke-dasharray='" ++ (decimal span ++ (codes " 18' d='M" ++ (decimal x ++ (codes " " ++ decimal y))))

abbrev pub with_both_open : List ℕ → ℕ → ℕ → ℕ → List ℕ
with_both_open text x y end = text ++ dashes_text x y (end - x) ++ turn_text x end

-- the shape of a bar: a rectangle from its invocation to its response; or one that is open at the
-- end; or one that is open at the beginning of the part that is shown
abbrev pub with_shape_from : List ℕ → ℕ → ℕ → ℕ → ℕ → Bool → Option ℕ → List ℕ
with_shape_from text width columns from y false (Some to) = text ++ rectangle_text (x_of width from) y (x_of width to - x_of width from)
with_shape_from text width columns from y false None = with_open text (x_of width from) y (x_of width columns)
with_shape_from text width columns from y true (Some to) = with_left_open text (x_of width from) y (x_of width to)
with_shape_from text width columns from y true None = with_both_open text (x_of width from) y (x_of width columns)

abbrev pub with_shape : List ℕ → ℕ → ℕ → Bar → List ℕ
with_shape text width columns bar = with_shape_from text width columns bar.from (y_of bar.lane + 19) bar.is_cut bar.to

-- stripes across a bar: a line as thick as it is, of dashes
abbrev pub stripes_text : ℕ → ℕ → ℕ → List ℕ
stripes_text x y end =
    codes "<path class='stripes' d='M" ++ (decimal x ++ (codes " " ++ (decimal y ++ (codes "H" ++ (decimal end ++ codes "'/>")))))

-- the bar of the call whose answer is where the history goes wrong is striped
abbrev pub with_stripes : List ℕ → ℕ → ℕ → Bar → List ℕ
with_stripes text width columns bar =
    if bar.is_wrong then text ++ stripes_text (x_of width bar.from) (y_of bar.lane + 28) (x_of width (end_of columns bar)) else text

-- how the number of a call is drawn: smaller if it has more than three digits, so that it ends
-- before the circle in the next column
abbrev pub number_class : ℕ → List ℕ
number_class number = if nat_lt 999 number then codes "number long" else codes "number"

-- the number of a bar's call
abbrev pub number_text : ℕ → Bar → List ℕ
number_text width bar =
    codes "<text class='" ++ (number_class bar.number ++ (codes "' x='" ++ (decimal (x_of width bar.from + 3) ++ (codes "' y='"
    ++ (decimal (y_of bar.lane + 32) ++ (codes "'>" ++ (decimal bar.number ++ codes "</text>")))))))

-- words at a place, cut to the room that they have
abbrev pub with_label : List ℕ → ℕ → ℕ → List ℕ → ℕ → List ℕ
with_label text x y words room =
    text ++ (codes "<text x='" ++ (decimal x ++ (codes "' y='" ++ (decimal y ++ codes "'>")))) ++ shown room words ++ codes "</text>"

-- the words of a reply, or that it is pending
abbrev pub reply_label : Option (List ℕ) → List ℕ
reply_label None = codes "pending"
reply_label (Some words) = words

-- the words of a bar: the call above it, its reply below
abbrev pub with_words : List ℕ → ℕ → ℕ → Bar → List ℕ
with_words text width columns bar =
    let room = room_of width columns bar in
    let x = x_of width bar.from + 1 in
    with_label (with_label text x (y_of bar.lane + 14) (string_bytes bar.call) room) x (y_of bar.lane + 49)
    (reply_label (option_map string_bytes bar.reply)) room

-- a bar
unfoldable pub with_bar : List ℕ → ℕ → ℕ → Bar → List ℕ
with_bar text width columns bar =
    with_words (with_stripes (with_shape (with_title (text ++ opening_text bar) bar) width columns bar) width columns bar
    ++ number_text width bar)
    width columns bar ++ (codes "</g>" ++ 10 ∷ [])
