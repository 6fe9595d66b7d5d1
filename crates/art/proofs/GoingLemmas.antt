-- A task that goes on, by where it is.
use Rattle.std.proofs.Common.{◌≡◌, ℕ, ◌<◌, ◌≤◌, List, [], ◌∷◌, ◌++◌, append_assoc, refl, ap, sym, subst, ◌∙◌, Bool, true, false}
use Rattle.std.proofs.Math.Logic.{∥∥₁_elim, ∥∥₁_map}
use Rattle.std.proofs.Props.{props}
use Rattle.std.proofs.lemmas.Bool.{false≢true, true≢false}
use Rattle.std.proofs.lemmas.Option.{none-some, same_Some}
use Rattle.std.specs.Prelude.{if◌then◌else◌, Option, Some, None, is_some}
use Rattle.events.specs.declared.event.Call.{Call}
use Rattle.events.specs.declared.event.Call.TheVariants.{Get, Insert, Remove, Scan, Replace}
use Rattle.events.specs.declared.event.Reply.{Reply}
use Rattle.art_rows.specs.Table.{table_words}
use Rattle.art_rows.specs.declared.access.Access.{Access}
use Rattle.art_rows.specs.declared.access.Point.{Point}
use Rattle.art_rows.specs.Act.{point_of, act}
use Rattle.art_rows.specs.Fits.{Fits, word_of}
use Rattle.art_rows.specs.Rows.{Setting, locks, is_scan}
use Rattle.art_rows.specs.Steps.{Turn, Rest, access_of, reply_of}
use Rattle.art_rows.proofs.AccessLemmas.{act-stays}
use Rattle.art_rows.proofs.TurnLemmas.{asks-of}
use Rattle.art_control_states.specs.declared.stage.Stage.{Stage}
use Rattle.art_control_states.specs.declared.stage.Entry.TheVariants.{Root}
use Rattle.art_control_states.specs.declared.stage.ScanStep.TheVariants.{Lock, Wait}
use Rattle.art_control_states.specs.Automaton.{start_at, stage_after, turn_at}
use Rattle.art_control_states.specs.Scans.{ScanAt, at, no_walk, scan_turn, scan_start, scan_after}
use Rattle.art_control_states.specs.Calls.{CallAt, OnKey, OnScan, rest_at, call_turn, call_begun, begun_as}
use Rattle.art_control_states.proofs.BehindLemmas.{call_next, behind}
use Rattle.art_control_states.proofs.StepLemmas.{goes_on}
use Rattle.art_control_states.proofs.ScanLemmas.{scan_goes_on}
use Rattle.art_scan.specs.declared.scanning.Scanning.{Scanning}
use Rattle.art_scan.specs.Scans.{scan_of, low_of, high_of}
use Rattle.art.specs.declared.task.Going.{Going}
use Rattle.art.specs.declared.task.Going.TheVariants.{OnKey as KeyIs, OnScan as ScanIs}
use Rattle.art.specs.declared.key_call.KeyCall.{KeyCall}
use Rattle.art.specs.Going.{at_of, keys_between, scanned_in, WordsLeadTo}

-- Whether a call is a scan, and of which keys.

pub no_scan : (call : Call) → keys_between call ≡ None → is_scan call ≡ false
no_scan (Get k) e = refl
no_scan (Insert k v) e = refl
no_scan (Remove k) e = refl
no_scan (Replace k old new) e = refl
no_scan (Scan low high) e = absurd (none-some _ (sym e))

pub a_scan : (call : Call) (low high : ℕ) → keys_between call ≡ Some (low, high) → call ≡ Scan low high
a_scan (Get k) low high e = absurd (none-some _ e)
a_scan (Insert k v) low high e = absurd (none-some _ e)
a_scan (Remove k) low high e = absurd (none-some _ e)
a_scan (Replace k old new) low high e = absurd (none-some _ e)
a_scan (Scan a b) low high e = both (same_Some _ _ e)
  where
    both : ◌≡◌ {A = ℕ × ℕ} (a, b) (low, high) → Scan a b ≡ Scan low high
    both h = ap (λ p. Scan p.0 p.1) h

-- where it begins

not_a_scan : (call : Call) → ((low high : ℕ) → call ≡ Scan low high → ⊥) → is_scan call ≡ false
not_a_scan (Get k) h = refl
not_a_scan (Insert k v) h = refl
not_a_scan (Remove k) h = refl
not_a_scan (Replace k old new) h = refl
not_a_scan (Scan low high) h = absurd (h low high refl)

begun_as_key : (c : Setting) (call : Call) → is_scan call ≡ false → begun_as call c ≡ OnKey (start_at (locks c.variant))
begun_as_key c (Get k) e = refl
begun_as_key c (Insert k v) e = refl
begun_as_key c (Remove k) e = refl
begun_as_key c (Replace k old new) e = refl
begun_as_key c (Scan low high) e = absurd (false≢true (sym e))

none_between : (call : Call) → is_scan call ≡ false → keys_between call ≡ None
none_between (Get k) e = refl
none_between (Insert k v) e = refl
none_between (Remove k) e = refl
none_between (Replace k old new) e = refl
none_between (Scan low high) e = absurd (false≢true (sym e))

pub begun_key : (c : Setting) (call : Call) (k : KeyCall) → call ≡ c.call → ((low high : ℕ) → call ≡ Scan low high → ⊥)
    → k.stage ≡ start_at (locks c.variant) → at_of (KeyIs k) ≡ call_begun c
begun_key c call k same other e = ap OnKey e ∙ (sym (begun_as_key c call (not_a_scan call other)) ∙ ap (λ x. begun_as x c) same)

pub keys_of_key : (call made : Call) → made ≡ call → ((low high : ℕ) → made ≡ Scan low high → ⊥) → keys_between call ≡ None
keys_of_key call made same other = ap keys_between (sym same) ∙ none_between made (not_a_scan made other)

at_scan : (a low b high : ℕ) (s t : ScanAt) → a ≡ low → b ≡ high → s ≡ t → OnScan a b s ≡ OnScan low high t
at_scan a low b high s t e f g = ap (λ x. OnScan x b s) e ∙ (ap (λ x. OnScan low x s) f ∙ ap (OnScan low high) g)

pub begun_scan : (c : Setting) (low high : ℕ) (s : Scanning) → Scan low high ≡ c.call → low_of s ≡ low → high_of s ≡ high
    → scan_of s ≡ scan_start c
    → at_of (ScanIs s) ≡ call_begun c
begun_scan c low high s same e f g =
    at_scan (low_of s) low (high_of s) high (scan_of s) (scan_start c) e f g ∙ ap (λ x. begun_as x c) same

abbrev scanned : ℕ → ℕ → Option (ℕ × ℕ)
scanned a b = Some (a, b)

pub keys_of_scan : (call : Call) (low high a b : ℕ) → Scan low high ≡ call → a ≡ low → b ≡ high → keys_between call ≡ scanned a b
keys_of_scan call low high a b same e f = ap keys_between (sym same) ∙ (ap (λ x. scanned x high) (sym e) ∙ ap (λ x. scanned a x) (sym f))

start_asks : (c : Setting) (l : Bool) → is_some (reply_of (turn_at c (start_at l))) ≡ false
start_asks c true = refl
start_asks c false = refl

enter_asks : (c : Setting) (l : Bool) → is_some (reply_of (scan_turn c (if l then at (Lock Root true) no_walk else at (Wait Root)
    no_walk))) ≡ false
enter_asks c true = refl
enter_asks c false = refl

begun_asks_as : (c : Setting) (call : Call) → is_some (reply_of (call_turn c (begun_as call c))) ≡ false
begun_asks_as c (Get k) = start_asks c (locks c.variant)
begun_asks_as c (Insert k v) = start_asks c (locks c.variant)
begun_asks_as c (Remove k) = start_asks c (locks c.variant)
begun_asks_as c (Replace k old new) = start_asks c (locks c.variant)
begun_asks_as c (Scan low high) = enter_asks c (locks c.variant)

pub begun_asks : (c : Setting) (at : CallAt) → at ≡ call_begun c → is_some (reply_of (rest_at c at [])) ≡ false
begun_asks c at e =
    ap (λ x. is_some (reply_of (rest_at c x []))) e ∙ (ap (λ t. is_some (reply_of t)) (call_next c (call_begun c)) ∙ begun_asks_as c c.call)

pub begins : (c : Setting) (at : CallAt) (rest : List ℕ) → at ≡ call_begun c → rest_at c at rest ≡ act c.shape c.variant c.call rest
begins c at rest e = ap (λ x. rest_at c x rest) e ∙ behind c [] rest

-- what it does next

module _ (c : Setting) (going g : Going) (is : going ≡ g) where
  pub asks_going : reply_of (rest_at c (at_of going) []) ≡ None → reply_of (call_turn c (at_of g)) ≡ None
  asks_going e = ap (λ x. reply_of (call_turn c (at_of x))) (sym is) ∙ (ap reply_of (sym (call_next c (at_of going))) ∙ e)

  pub access_going : (a : Access) → access_of (call_turn c (at_of g)) ≡ Some a → access_of (rest_at c (at_of going) []) ≡ Some a
  access_going a e = ap access_of (call_next c (at_of going)) ∙ (ap (λ x. access_of (call_turn c (at_of x))) is ∙ e)

  pub point_going : (p : Option Point) → p ≡ point_of (call_turn c (at_of g)) → p ≡ point_of (rest_at c (at_of going) [])
  point_going p e = e ∙ (ap (λ x. point_of (call_turn c (at_of x))) (sym is) ∙ ap point_of (sym (call_next c (at_of going))))

pub unanswered : (o : Option Reply) → is_some o ≡ false → o ≡ None
unanswered None h = refl
unanswered (Some r) h = absurd (true≢false h)

access_asks : (t : Turn) (a : Access) → access_of t ≡ Some a → is_some (reply_of t) ≡ false
access_asks t a e = ap (λ t. is_some (reply_of t)) (asks-of t a e).1

pub in_table : (c : Setting) (at : CallAt) (a : Access) → 1 ≤ c.shape.rows256
    → (is_some (reply_of (rest_at c at [])) ≡ false → ∥ WordsLeadTo c at ∥₁)
    → access_of (rest_at c at []) ≡ Some a → word_of a < table_words c.shape
in_table c at a root reached asks = ∥∥₁_elim (reached (access_asks (rest_at c at []) a asks)) (Prim.hlevel props) λ (x : WordsLeadTo c at).
    let found = asks-of (rest_at c at []) a asks in
    (act-stays c.shape c.variant c.call root (x.0 ++ []) a found.0 (sym (x.1 []) ∙ found.1)).1

-- how it goes on

key_on : (c : Setting) (stage after : Stage) (w : ℕ) (rest : List ℕ) → keys_between c.call ≡ None → after ≡ stage_after c stage w
    → rest_at c (OnKey after) rest ≡ rest_at c (OnKey stage) (w ∷ rest)
key_on c stage after w rest keys e = ap (λ x. rest_at c (OnKey x) rest) e ∙ goes_on c stage w rest (no_scan c.call keys)

scan_on : (c : Setting) (low high : ℕ) (s : ScanAt) (w : ℕ) (rest : List ℕ) → keys_between c.call ≡ Some (low, high)
    → rest_at c (OnScan low high (scan_after c low high s w)) rest ≡ rest_at c (OnScan low high s) (w ∷ rest)
scan_on c low high s w rest keys = scan_goes_on c low high s w rest (a_scan c.call low high keys)

fits_more : (c : Setting) (got : List ℕ) (w : ℕ) (rest rest' : Rest) → Fits c.shape c.variant c.call got rest
    → ((more : List ℕ) → rest' more ≡ rest (w ∷ more)) → Fits c.shape c.variant c.call (got ++ w ∷ []) rest'
fits_more c got w rest rest' fits goes =
    λ more. goes more ∙ (fits (w ∷ more) ∙ ap (act c.shape c.variant c.call) (sym (append_assoc got (w ∷ []) more)))

reached_more : (c : Setting) (at next : CallAt) (w : ℕ) → ∥ WordsLeadTo c at ∥₁
    → ((more : List ℕ) → rest_at c next more ≡ rest_at c at (w ∷ more)) → ∥ WordsLeadTo c next ∥₁
reached_more c at next w reached goes =
    ∥∥₁_map reached
    (λ (x : WordsLeadTo c at). (x.0 ++ w ∷ [], fits_more c x.0 w (rest_at c at) (rest_at c next) x.1 goes))

module _ (c : Setting) (going : Going) (k after : KeyCall) (w : ℕ) (result : Option Reply) (is : going ≡ KeyIs k)
    (keys : keys_between c.call ≡ scanned_in going) (next : after.stage ≡ stage_after c k.stage w)
    (reply : reply_of (turn_at c after.stage) ≡ result) where
  pub key_fits : (rest : List ℕ) → rest_at c (at_of (KeyIs after)) rest ≡ rest_at c (at_of going) (w ∷ rest)
  key_fits rest = key_on c k.stage after.stage w rest (keys ∙ ap scanned_in is) next ∙ ap (λ g. rest_at c (at_of g) (w ∷ rest)) (sym is)

  pub key_reply : reply_of (rest_at c (at_of going) (w ∷ [])) ≡ result
  key_reply = ap reply_of (sym (key_fits [])) ∙ (ap reply_of (call_next c (at_of (KeyIs after))) ∙ reply)

  pub key_over : is_some (reply_of (rest_at c (at_of (KeyIs after)) [])) ≡ is_some result
  key_over = ap is_some (ap reply_of (call_next c (at_of (KeyIs after))) ∙ reply)

  pub key_keys : keys_between c.call ≡ scanned_in (KeyIs after)
  key_keys = keys ∙ ap scanned_in is

  pub key_reached : reply_of (rest_at c (at_of going) []) ≡ None
      → (is_some (reply_of (rest_at c (at_of going) [])) ≡ false → ∥ WordsLeadTo c (at_of going) ∥₁)
      → is_some (reply_of (rest_at c (at_of (KeyIs after)) [])) ≡ false → ∥ WordsLeadTo c (at_of (KeyIs after)) ∥₁
  key_reached asked reached h = reached_more c (at_of going) (at_of (KeyIs after)) w (reached (ap is_some asked)) key_fits

module _ (c : Setting) (going : Going) (s after : Scanning) (is : going ≡ ScanIs s) (keys : keys_between c.call ≡ scanned_in going)
    (low : low_of after ≡ low_of s) (high : high_of after ≡ high_of s) where
  pub scan_keys : keys_between c.call ≡ scanned_in (ScanIs after)
  scan_keys = keys ∙ (ap scanned_in is ∙ (ap (λ x. scanned x (high_of s)) (sym low) ∙ ap (λ x. scanned (low_of after) x) (sym high)))

  pub scan_same : scan_of after ≡ scan_of s → at_of (ScanIs after) ≡ at_of going
  scan_same e = at_scan (low_of after) (low_of s) (high_of after) (high_of s) (scan_of after) (scan_of s) low high e ∙ ap at_of (sym is)

  pub scan_still_reached : scan_of after ≡ scan_of s
      → (is_some (reply_of (rest_at c (at_of going) [])) ≡ false → ∥ WordsLeadTo c (at_of going) ∥₁)
      → is_some (reply_of (rest_at c (at_of (ScanIs after)) [])) ≡ false → ∥ WordsLeadTo c (at_of (ScanIs after)) ∥₁
  scan_still_reached e reached = subst (λ at. is_some (reply_of (rest_at c at [])) ≡ false → ∥ WordsLeadTo c at ∥₁)
      (sym (scan_same e)) reached

  module _ (w : ℕ) (result : Option Reply)
      (next : result ≡ None → scan_of after ≡ scan_after c (low_of s) (high_of s) (scan_of s) w)
      (reply : reply_of (scan_turn c (scan_after c (low_of s) (high_of s) (scan_of s) w)) ≡ result)
      (over : is_some (reply_of (scan_turn c (scan_of after))) ≡ is_some result) where
    goes_on_scan : (rest : List ℕ) → rest_at c (OnScan (low_of s) (high_of s) (scan_after c (low_of s) (high_of s) (scan_of s) w)) rest
        ≡ rest_at c (at_of going) (w ∷ rest)
    goes_on_scan rest = scan_on c (low_of s) (high_of s) (scan_of s) w rest (keys ∙ ap scanned_in is)
        ∙ ap (λ g. rest_at c (at_of g) (w ∷ rest)) (sym is)

    pub scan_fits : result ≡ None → (rest : List ℕ) → rest_at c (at_of (ScanIs after)) rest ≡ rest_at c (at_of going) (w ∷ rest)
    scan_fits none rest =
        ap (λ x. rest_at c x rest)
        (at_scan (low_of after) (low_of s) (high_of after) (high_of s) (scan_of after) (scan_after c (low_of s) (high_of s) (scan_of s) w)
        low high (next none))
        ∙ goes_on_scan rest

    pub scan_reply : reply_of (rest_at c (at_of going) (w ∷ [])) ≡ result
    scan_reply =
        ap reply_of (sym (goes_on_scan []))
        ∙ (ap reply_of (call_next c (OnScan (low_of s) (high_of s) (scan_after c (low_of s) (high_of s) (scan_of s) w))) ∙ reply)

    pub scan_over : is_some (reply_of (rest_at c (at_of (ScanIs after)) [])) ≡ is_some result
    scan_over = ap (λ t. is_some (reply_of t)) (call_next c (at_of (ScanIs after))) ∙ over

    pub scan_reached : reply_of (rest_at c (at_of going) []) ≡ None
        → (is_some (reply_of (rest_at c (at_of going) [])) ≡ false → ∥ WordsLeadTo c (at_of going) ∥₁)
        → is_some (reply_of (rest_at c (at_of (ScanIs after)) [])) ≡ false → ∥ WordsLeadTo c (at_of (ScanIs after)) ∥₁
    scan_reached asked reached h =
        reached_more c (at_of going) (at_of (ScanIs after)) w (reached (ap is_some asked))
        (scan_fits (unanswered result (sym scan_over ∙ h)))
