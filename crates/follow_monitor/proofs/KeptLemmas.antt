-- What a monitor keeps is what contracts see of it (`same_with`), also while its parts are taken out.
use Rattle.follow_monitor.proofs.Common.{MonitorView, parts_of, Kept, PartsView, ◌≡◌, Option, Some, sym, ap, ◌∙◌}

-- what contracts see of it with these parts
abbrev pub seen_with : PartsView → Kept → MonitorView
seen_with parts kept = record {
  parts = parts;
  open_calls = kept.open_calls.entries;
  puts = kept.puts.items;
  calls = kept.calls;
}

abbrev pub seen : Kept → MonitorView
seen kept = seen_with (parts_of kept.parts) kept

pub same_with : (inside kept : Kept) (taken : Option PartsView) (parts : PartsView) (self : MonitorView) → kept ≡ inside → taken ≡ kept.parts
    → taken ≡ Some parts → seen inside ≡ self → seen_with parts kept ≡ self
same_with inside kept taken parts self is was some view_is =
    ap (λ (p : PartsView). seen_with p kept) (sym (ap parts_of (sym was ∙ some))) ∙ (ap seen is ∙ view_is)
