-- A line in the compact form spells the event of its value.
use Rattle.stream_text.proofs.Common.{◌≡◌, ℕ, ◌≤◌, List, [], ◌++◌, length, Option, Some, None, inl, refl, sym, ap, ◌∙◌, subst, append-nil, arith}
use Rattle.stream_text.proofs.Common.{IfSome, IsAscii, Data, Event, TextVersion, event_data, line_limit, as_event, MayStandIn, SpellsEvent}
use Rattle.stream_text.proofs.Common.{StreamEvent}
use Rattle.std.proofs.lemmas.Str.{IsUtf8-from_ascii}
use Rattle.serde_json.specs.Written.{compact_text}
use Rattle.history_text.specs.Compact.{IsCompact, BeginsWith}
use Rattle.history_text.proofs.CompactLemmas.{read_compact}
use Rattle.history_text.proofs.WrittenLemmas.{depth-event}

-- a line that is the compact text of an event spells it
spells_compact : (version : TextVersion) (line : List ℕ) (e : Event) → length line ≤ line_limit → IsCompact (event_data e) line
    → MayStandIn version e → SpellsEvent version line e
spells_compact version line e short h stands = record {
  value = event_data e;
  is_line = record {
    short = short;
    json = record {
      fits = omega arith;
      utf8 = IsUtf8-from_ascii line (subst IsAscii (sym h.whole) h.plain.ascii);
      value = read_compact (event_data e) line h (omega (arith, depth-event e));
    };
  };
  spelled = inl refl;
  stands = stands;
}

pub all_spelled : (version : TextVersion) (line : List ℕ) (r : Option StreamEvent) → length line ≤ line_limit
    → IfSome r (λ e. IsCompact (event_data (as_event e)) line) → IfSome r (λ e. MayStandIn version (as_event e))
    → IfSome r (λ e. SpellsEvent version line (as_event e))
all_spelled version line None short h stands = tt
all_spelled version line (Some e) short h stands = spells_compact version line (as_event e) short h stands

-- a line after whose event nothing is left
pub whole_line : (p n : ℕ) (value : ℕ → Data) (line rest : List ℕ) → BeginsWith (value n) line rest → rest ≡ [] → p ≡ n
    → IsCompact (value p) line
whole_line p n value line rest b nothing same = rw same (record {
  whole = b.parts ∙ ap (λ l. compact_text (value n) ++ l) nothing ∙ append-nil (compact_text (value n));
  plain = b.plain;
})
