-- What is in a text, worked out step by step.
use Rattle.std.proofs.Common.{◌≡◌, ℕ, ◌+◌, ◌-◌, [], ◌∷◌, ◌++◌, Bool, List, Some, length, codes, refl}
use Rattle.draw_picture.specs.declared.picture.Bar.{Bar}
use Rattle.draw_picture.specs.declared.picture.PicturePart.{PicturePart}
use Rattle.draw_picture.specs.declared.picture.Picture.{Picture}
use Rattle.draw_svg.specs.Bars.{number_text, opening_text, with_shape, with_stripes, with_title, with_words}
use Rattle.draw_svg.specs.Frame.{has_wrong, with_legend}
use Rattle.draw_svg.specs.Layout.{x_of, y_of, column_width, screens_before, width_of}
use Rattle.draw_svg.specs.Parts.{with_before, with_after, with_note, with_part, with_part_of, with_screens}
use Rattle.draw_svg.specs.Svg.{top_text, with_bars, with_lanes, with_legend_of, with_marks, IsSvgOf}

-- a bar
pub bar-whole : (text opened titled shaped striped numbered worded whole : List ℕ) (width columns : ℕ) (bar : Bar)
    → opened ≡ text ++ opening_text bar → titled ≡ with_title opened bar → shaped ≡ with_shape titled width columns bar
    → striped ≡ with_stripes shaped width columns bar → numbered ≡ striped ++ number_text width bar
    → worded ≡ with_words numbered width columns bar → whole ≡ worded ++ (codes "</g>" ++ 10 ∷ [])
    → whole ≡ with_words (with_stripes (with_shape (with_title (text ++ opening_text bar) bar) width columns bar) width columns bar
    ++ number_text width bar) width columns bar ++ (codes "</g>" ++ 10 ∷ [])
bar-whole text opened titled shaped striped numbered worded whole width columns bar o t s r n w is = rw (is, w, n, r, s, t, o) refl

-- what is said of a part
pub part-whole : (text before next counts : List ℕ) (width bottom end many : ℕ) (picture : Picture) (part : PicturePart)
    → picture.part ≡ Some part → many ≡ length picture.lanes.items → bottom ≡ y_of many → end ≡ x_of width picture.columns
    → before ≡ with_before text part.before bottom → next ≡ with_after before (end + 8) part.after bottom
    → counts ≡ with_note next (bottom + 52) picture.columns part picture.is_few picture.heading
    → counts ≡ with_part_of text width picture picture.part
part-whole text before next counts width bottom end many picture part is m b e first second third =
    rw (third, second, first, b, e, m, is) refl

-- what the shapes mean
pub legend-whole : (text legend : List ℕ) (many bottom : ℕ) (picture : Picture) (bars : List Bar) (red : Bool)
    → many ≡ length picture.lanes.items → bottom ≡ y_of many → bars ≡ picture.bars.items → red ≡ has_wrong bars
    → legend ≡ with_legend text (bottom + 20) picture.heading red → legend ≡ with_legend_of text picture
legend-whole text legend many bottom picture bars red m b same r is = rw (is, r, same, b, m) refl

-- the whole text
pub svg-whole : (style top calls order text : List ℕ) (width all : ℕ) (picture : Picture)
    → width ≡ column_width picture.columns picture.bars.items → all ≡ width_of width picture.columns → top ≡ top_text style all picture
    → calls ≡ with_bars (with_lanes top (all - 16) 0 picture.lanes.items) width picture.columns picture.bars.items
    → order ≡ with_marks (with_screens calls width picture.lanes.items 0 (screens_before width picture.columns)) width picture.bars.items
    picture.marks.items
    → text ≡ with_part (with_legend_of order picture) width picture ++ codes "</svg>"
    → IsSvgOf style picture text
svg-whole style top calls order text width all picture w a t c o is = rw (is, o, c, t, a, w) refl
