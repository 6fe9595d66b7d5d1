use Rattle.command_line.proofs.Common.{ap, subst, sym, refl, true, map, codes, ℕ, Bool, List, [], Option, Some, None, ◌≡◌, ◌∙◌, Bor, option_map}
use Rattle.command_line.proofs.Common.{unwrap_or, IfOk-weaker, texts, Text, found_of, matched_of, raw_values, rows_of, Found, raw_values-rows}
use Rattle.command_line.proofs.Common.{number_of, AreCallsOf, values_of}
use Rattle.command_line.proofs.request.calls_of.Goals.{After-unwrap_or}
use Rattle.command_line.proofs.request.calls_of.Goals as goal

-- the texts that a getter lends are the values of the argument, none where it has no row
texts_are : (got : Option (Bor (List (Bor Text)))) (none : Bor (List (Bor Text))) (f : Found) (id : Text) → none.now ≡ []
    → option_map (λ s. texts s.now) got ≡ option_map raw_values (matched_of f id)
    → texts (unwrap_or got none).now ≡ values_of id (rows_of f)
texts_are None none f id empty given = ap texts empty ∙ ap (λ o. unwrap_or o []) (given ∙ raw_values-rows f id)
texts_are (Some s) none f id empty given = ap (λ o. unwrap_or o []) (given ∙ raw_values-rows f id)

module _ (c : After-unwrap_or) where
  -- the words that the code reads are the values of CALL
  words_are : values_of (codes "CALL") (rows_of (found_of c.args.matches.now)) ≡ texts c.unwrap_or.result.now
  words_are =
      sym (ap (λ s. texts s.now) c.unwrap_or.ensures ∙ texts_are c.get_strs.result _ (found_of c.args.matches.now) (codes "CALL") refl c.get_strs.ensures)

  -- and some numbers are those that they spell
  read : AreCallsOf true (texts c.unwrap_or.result.now) c.requires.0
  read = subst (λ (ts : List Text). AreCallsOf true ts c.requires.0) words_are
      (subst (λ (b : Bool). AreCallsOf b (values_of (codes "CALL") (rows_of (found_of c.args.matches.now))) c.requires.0) c.if-takes_calls.true c.requires.1)

  -- so they are what is asked for
  asked : (ns : List ℕ) → ns ≡ map number_of (texts c.unwrap_or.result.now)
      → AreCallsOf c.args.takes_calls (values_of (codes "CALL") (rows_of (found_of c.args.matches.now))) ns
  asked ns are = subst (λ (b : Bool). AreCallsOf b (values_of (codes "CALL") (rows_of (found_of c.args.matches.now))) ns) (sym c.if-takes_calls.true)
      (subst (λ (ts : List Text). AreCallsOf true ts ns) (sym words_are) (read.0, are))

pub numbers_of-requires : goal.numbers_of-requires
numbers_of-requires c = (read c).0

pub returns-then-takes_calls : goal.returns-then-takes_calls
returns-then-takes_calls c =
    IfOk-weaker c.numbers_of.result _ _ (λ v are. asked (goal.at.returns-then-takes_calls c).After-unwrap_or v.items are)
    c.numbers_of.ensures
