use Rattle.follow_parts.proofs.Common.{◌≡◌, ℕ, ◌∷◌, ◌++◌, refl, ap, subst, IfOk, begun, HasEndedBy, is_reported, IsAnswered, response_at, PartsView}
use Rattle.follow_parts.proofs.state.Parts.answer.Goals as goal

pub returns-then-may_change-clause-answered : goal.returns-then-may_change-clause-answered
returns-then-may_change-clause-answered c = λ start front back state.
    let at : c.self.inside.now ≡ c.args.self.now = ap (λ (v : PartsView). v.now) c.self.view_is in
    let o = begun c.args.call c.args.inv in
    subst (λ (n : ℕ). IfOk c.answer_change.result (IsAnswered start c.args.budget c.args.self (front ++ is_reported o c.args.reply n ∷ back))) at
    (c.answer_change.ensures.answered start front back o (record { res = c.self.inside.now; reply = c.args.reply }) (record { pending = refl; is = refl })
    state)

pub returns-clause-answered : goal.returns-clause-answered
returns-clause-answered c = λ start front back state.
    let at : c.self.inside.now ≡ c.args.self.now = ap (λ (v : PartsView). v.now) c.self.view_is in
    let o = begun c.args.call c.args.inv in
    subst (λ (n : ℕ). IfOk c.answer_read.result (IsAnswered start c.args.budget c.args.self (front ++ is_reported o c.args.reply n ∷ back))) at
    (c.answer_read.ensures.answered start front back o (record { res = c.self.inside.now; reply = c.args.reply }) (record { pending = refl; is = refl })
    state)

pub returns-then-may_change-clause-ended : goal.returns-then-may_change-clause-ended
returns-then-may_change-clause-ended c = λ start front back state.
    let at : c.self.inside.now ≡ c.args.self.now = ap (λ (v : PartsView). v.now) c.self.view_is in
    let o = begun c.args.call c.args.inv in
    subst (λ (n : ℕ). IfOk c.answer_change.result
    (HasEndedBy start c.args.self.now (front ++ o ∷ back) o (response_at c.args.reply n))) at
    (c.answer_change.ensures.ended start front back o (response_at c.args.reply c.self.inside.now) (record { pending = refl; is = refl }) state)

pub returns-clause-ended : goal.returns-clause-ended
returns-clause-ended c = λ start front back state.
    let at : c.self.inside.now ≡ c.args.self.now = ap (λ (v : PartsView). v.now) c.self.view_is in
    let o = begun c.args.call c.args.inv in
    subst (λ (n : ℕ). IfOk c.answer_read.result (HasEndedBy start c.args.self.now (front ++ o ∷ back) o (response_at c.args.reply n))) at
    (c.answer_read.ensures.ended start front back o (response_at c.args.reply c.self.inside.now) (record { pending = refl; is = refl }) state)
