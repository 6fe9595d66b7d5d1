use Rattle.cli_draw.proofs.drawing.drawing_with.Goals as goal

pub drawn_text-requires : goal.drawn_text-requires
drawn_text-requires c = rw c.deref.ensures.value c.in_ok-front.ensures.markable

pub returns : goal.returns
returns c =
    let drawn = rw (c.deref.ensures.value, c.event_of-wrong.ensures) at c.in_ok-drawing.ensures in
    record {
      verdict = c.args.verdict.now;
      location = c.args.location.now;
      front = c.in_ok-front.front.items;
      choice = c.in_ok-choice.choice;
      picture = drawn.shown.picture;
      part = drawn.part;
      shown = c.requires.shown;
      exact = c.requires.exact;
      located = c.requires.located;
      fronted = c.in_ok-front.ensures.front;
      pictured = drawn.shown.pictured;
      chosen = c.in_ok-choice.ensures;
      viewed = drawn.shown.viewed;
      text_is = drawn.text_is;
      answer_is = c.answer_of.ensures;
    }
