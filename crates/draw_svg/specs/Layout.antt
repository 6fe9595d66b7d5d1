-- Positions in the picture, in the units of the text, for a width of a column.
use Rattle.std.specs.Prelude.{ℕ, ◌+◌, ◌-◌, ◌*◌, ◌/◌, ◌≤◌, nat_le, if◌then◌else◌, max, min, List, length, map, Option, Some, None, option_map, string_bytes}
use Rattle.events.specs.Lists.{greatest}
use Rattle.draw_picture.specs.declared.picture.Bar.{Bar}
use Rattle.draw_picture.specs.declared.picture.PicturePart.{PicturePart}

-- how many columns are between two columns of names: together with one of these they fill 1,200
-- units
abbrev pub per_screen : ℕ → ℕ
per_screen width = 1104 / max width 1

-- how many columns of names are before a column, apart from that at the left
abbrev pub screens_before : ℕ → ℕ → ℕ
screens_before width column = (column - 1) / max (per_screen width) 1

-- the width of a column of names together with the columns up to the next one
abbrev pub screen_width : ℕ → ℕ
screen_width width = width * per_screen width + 96

-- the left end of a column of names: 80 units before the column that follows it
abbrev pub names_at : ℕ → ℕ → ℕ
names_at width screen = 16 + width + screen_width width * screen

-- the position of a column from the left, after the columns of names before it, and of a lane from
-- the top
abbrev pub x_of : ℕ → ℕ → ℕ
x_of width column = 96 + width * column + 96 * screens_before width column

abbrev pub y_of : ℕ → ℕ
y_of lane = 70 + 58 * lane

-- the column of a response; for a pending call, the one after all columns
abbrev pub end_from : ℕ → Option ℕ → ℕ
end_from columns None = columns
end_from columns (Some to) = to

-- the column in which a bar ends
abbrev pub end_of : ℕ → Bar → ℕ
end_of columns bar = end_from columns bar.to

-- how many letters have room above a bar
abbrev pub room_of : ℕ → ℕ → Bar → ℕ
room_of width columns bar = (width * (end_of columns bar - bar.from + 1) - 6) / 6

-- how many letters a call has, or its reply, whichever has more
abbrev pub letters : List ℕ → Option (List ℕ) → ℕ
letters call None = length call
letters call (Some reply) = max (length call) (length reply)

abbrev pub letters_of : Bar → ℕ
letters_of bar = letters (string_bytes bar.call) (option_map string_bytes bar.reply)

-- a width of a column at which these letters have room above a bar
abbrev pub width_for : ℕ → Bar → ℕ
width_for columns bar = (letters_of bar * 6 + 6) / (end_of columns bar - bar.from + 1) + 1

-- the width of a column that the words of all bars need, from 28 to 72
abbrev pub asked_width : ℕ → List Bar → ℕ
asked_width columns bars = min 72 (max 28 (greatest (map (width_for columns) bars)))

-- the greatest width of a column: 72, or less if the columns then fit on 1,200 units, which they do
-- if there are at most 38
abbrev pub widest : ℕ → ℕ
widest columns = if nat_le columns 38 then min 72 (1072 / max columns 1) else 72

-- the width of a column
abbrev pub column_width : ℕ → List Bar → ℕ
column_width columns bars = min (widest columns) (asked_width columns bars)

-- room below for the words on a part
abbrev pub part_height : Option PicturePart → ℕ
part_height None = 0
part_height (Some part) = 16

-- the width of the words before the pairs at the start
abbrev pub start_width : Option PicturePart → ℕ
start_width None = 72
start_width (Some part) = 198

-- the width and the height of a picture; there is room for the words above and below its lanes
abbrev pub width_of : ℕ → ℕ → ℕ
width_of width columns = max (x_of width columns + 32) 680

abbrev pub height_of : ℕ → Option PicturePart → ℕ
height_of lanes part = y_of lanes + 50 + part_height part

-- ---- laws

-- at most 38 columns fit on 1,200 units
abbrev pub FewColumnsFit : Type 0
FewColumnsFit = (columns : ℕ) (bars : List Bar) → columns ≤ 38 → width_of (column_width columns bars) columns ≤ 1200
