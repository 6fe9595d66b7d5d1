use Rattle.cli_draw.proofs.drawing.drawn_text.Goals as goal

pub returns : goal.returns
returns c = record { part = c.in_ok-part.part; shown = c.in_ok-part.ensures; text_is = c.in_ok-text.ensures }
