-- The marks of a text. The last definition gives the text so far with one more mark at the end.
use Rattle.std.specs.Prelude.{ℕ, ◌+◌, ◌==◌, nat_lt, if◌then◌else◌, List, [], ◌∷◌, ◌++◌, Option, Some, None, find, codes, decimal}
use Rattle.draw_picture.specs.declared.picture.Bar.{Bar}
use Rattle.draw_picture.specs.declared.picture.Mark.{Mark}
use Rattle.draw_svg.specs.Bars.{with_call}
use Rattle.draw_svg.specs.Layout.{x_of, y_of}

-- how the text of a mark begins: its place in the order
abbrev pub place_title : ℕ → List ℕ
place_title place = codes "<g class='mark'><title>place " ++ (decimal place ++ codes ": ")

-- the bar of the call with a number
abbrev pub bar_of : List Bar → ℕ → Option Bar
bar_of bars number = find (λ bar. bar.number == number) bars

-- a call in full if the picture has its bar, otherwise its number
abbrev pub with_call_of : List ℕ → ℕ → Option Bar → List ℕ
with_call_of text number None = text ++ (codes "call " ++ decimal number)
with_call_of text number (Some bar) = with_call text bar

-- the title of a mark: its place, and its call in full
abbrev pub with_mark_title : List ℕ → List Bar → Mark → List ℕ
with_mark_title text bars mark = with_call_of (text ++ place_title mark.place) mark.number (bar_of bars mark.number) ++ codes "</title>"

-- a circle at a place
abbrev pub circle_text : ℕ → ℕ → List ℕ
circle_text x y = codes "<circle cx='" ++ (decimal x ++ (codes "' cy='" ++ (decimal y ++ codes "' r='8'/>")))

-- how a place is drawn: smaller if it has more than three digits, so that it fits the circle
abbrev pub place_class : ℕ → List ℕ
place_class place = if nat_lt 999 place then codes " class='long'" else codes ""

-- the place in the order
abbrev pub place_text : ℕ → ℕ → ℕ → List ℕ
place_text x y place =
    codes "<text" ++ (place_class place ++ (codes " x='" ++ (decimal x ++ (codes "' y='" ++ (decimal y ++ (codes "'>" ++ (decimal place
    ++ (codes "</text></g>" ++ 10 ∷ []))))))))

-- a mark of a picture with these bars: a circle at its column and in its lane, with its place
unfoldable pub with_mark : List ℕ → ℕ → List Bar → Mark → List ℕ
with_mark text width bars mark =
    with_mark_title text bars mark ++ circle_text (x_of width mark.column) (y_of mark.lane + 28) ++ place_text (x_of width mark.column)
    (y_of mark.lane + 31) mark.place
