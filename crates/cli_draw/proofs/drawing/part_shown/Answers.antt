use Rattle.cli_draw.proofs.drawing.part_shown.Goals as goal

pub returns : goal.returns
returns c = record {
  picture = c.in_ok-picture.picture;
  pictured = c.in_ok-picture.ensures;
  viewed = rw c.events.ensures.events at c.in_ok-part.ensures;
}
