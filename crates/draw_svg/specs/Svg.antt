-- The text of a picture: Scalable Vector Graphics 1.1.
use Rattle.std.specs.Prelude.{◌≡◌, ℕ, ◌+◌, ◌-◌, ◌/◌, List, [], ◌∷◌, ◌++◌, length, codes}
use Rattle.draw_picture.specs.declared.picture.Bar.{Bar}
use Rattle.draw_picture.specs.declared.picture.Mark.{Mark}
use Rattle.draw_picture.specs.declared.picture.Picture.{Picture}
use Rattle.draw_svg.specs.Bars.{with_bar}
use Rattle.draw_svg.specs.Marks.{with_mark}
use Rattle.draw_svg.specs.Frame.{head_text, with_heading, with_start, with_lane, has_wrong, with_legend}
use Rattle.draw_svg.specs.Layout.{y_of, width_of, height_of, start_width, screens_before, column_width}
use Rattle.draw_svg.specs.Parts.{with_screens, with_part}

-- the lanes, from one on
abbrev pub with_lanes : List ℕ → ℕ → ℕ → List ℕ → List ℕ
with_lanes text end lane [] = text
with_lanes text end lane (process ∷ processes) = with_lanes (with_lane text end lane process) end (lane + 1) processes

-- the bars, and the marks
abbrev pub with_bars : List ℕ → ℕ → ℕ → List Bar → List ℕ
with_bars text width columns [] = text
with_bars text width columns (bar ∷ bars) = with_bars (with_bar text width columns bar) width columns bars

abbrev pub with_marks : List ℕ → ℕ → List Bar → List Mark → List ℕ
with_marks text width bars [] = text
with_marks text width bars (mark ∷ marks) = with_marks (with_mark text width bars mark) width bars marks

-- the text above the lanes
unfoldable pub top_text : List ℕ → ℕ → Picture → List ℕ
top_text style all picture =
    with_start (with_heading (head_text all (height_of (length picture.lanes.items) picture.part) ++ style) picture.heading)
    picture.part picture.start.items ((all - 32 - start_width picture.part) / 6)

-- what the shapes of a picture mean
abbrev pub with_legend_of : List ℕ → Picture → List ℕ
with_legend_of text picture =
    with_legend text (y_of (length picture.lanes.items) + 20) picture.heading (has_wrong picture.bars.items)

-- the text of a picture, with these lines of style, at a width of a column
abbrev pub svg_text : List ℕ → ℕ → Picture → List ℕ
svg_text style width picture =
    let all = width_of width picture.columns in
    let lanes = with_lanes (top_text style all picture) (all - 16) 0 picture.lanes.items in
    let bars = with_bars lanes width picture.columns picture.bars.items in
    let names = with_screens bars width picture.lanes.items 0 (screens_before width picture.columns) in
    let legend = with_legend_of (with_marks names width picture.bars.items picture.marks.items) picture in
    with_part legend width picture ++ codes "</svg>"

-- the text of a picture, at the width of a column that its words need
abbrev pub IsSvgOf : List ℕ → Picture → List ℕ → Type 0
IsSvgOf style picture text = text ≡ svg_text style (column_width picture.columns picture.bars.items) picture
