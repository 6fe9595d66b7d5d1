-- An insert that runs alone on a table at rest does what it does on the map, or is refused.
use Rattle.art_schedules.proofs.Common.{◌≡◌, ◌⊎◌, inl, inr, ℕ, ◌<◌, ◌≤◌, List, Bool, true, false, refl, ap, arith, Insert, Contents}
use Rattle.std.proofs.Common.{if◌then◌else◌}
use Rattle.art_schedules.specs.alone.Alone.{Ends}
use Rattle.art_schedules.proofs.Common.{Shape, table_words, IsWithinLimits, Variant, Setting, locks, procedure, is_tree_call, Means, IsAtRest}
use Rattle.art_schedules.proofs.Common.{Comes, InsertsAreTheMaps}
use Rattle.art_rows.specs.Coupled as coupled
use Rattle.art_rows.specs.Optimistic as optimistic
use Rattle.art_schedules.proofs.alone.AloneLemmas.{act-comes, act-ends, act-comes-accesses, act-ends-accesses}
use Rattle.art_schedules.specs.inserts.Laws.{DoesOrRefuses}
use Rattle.art_schedules.proofs.inserts.InsertEndLemmas.{Given, Inserts, same-part}
use Rattle.art_schedules.proofs.inserts.ShortLemmas.{steps_of}
use Rattle.art_schedules.proofs.inserts.CoupledInsertLemmas.{inserts-coupled}
use Rattle.art_schedules.proofs.inserts.OptimisticInsertLemmas.{inserts-optimistic}

key-bound : (key value : ℕ) → is_tree_call (Insert key value) ≡ true → key < 4294967296
key-bound key value e = grind (arith, e)

value-bound : (key value : ℕ) → is_tree_call (Insert key value) ≡ true → value < 1073741824
value-bound key value e = grind (arith, e)

module _ (g : Given) (s : Shape) (variant : Variant) (n : ℕ) (words : List ℕ) (rest : IsAtRest s n words) (few : n < 4611686018427387904)
    (bounded : table_words s < 2305843009213693952) (m : Contents)
    (means : Means s words m) (key value : ℕ) (key_small : key < 4294967296) (value_small : value < 1073741824) where
  abbrev c : Setting
  c = record { shape = s; variant = variant; call = Insert key value }

  -- under the variant's way to go down
  by_variant : (b : Bool) → locks variant ≡ b
      → Inserts g s variant n words rest few bounded m means key value key_small value_small 1000
      (if locks variant then coupled.insert c else optimistic.insert c) words
  by_variant true e =
      same-part g s variant n words rest few bounded m means key value key_small value_small
      (λ again after got. ap (λ (b : Bool). (if b then coupled.insert c else optimistic.insert c) again after got) e)
      (inserts-coupled g s variant n words rest few bounded m means key value key_small value_small)
  by_variant false e =
      same-part g s variant n words rest few bounded m means key value key_small value_small
      (λ again after got. ap (λ (b : Bool). (if b then coupled.insert c else optimistic.insert c) again after got) e)
      (inserts-optimistic g s variant n words rest few bounded m means key value key_small value_small)

  whole : Inserts g s variant n words rest few bounded m means key value key_small value_small 1000 (procedure c (Insert key value)) words
  unfolding procedure
  whole = by_variant (locks variant) refl

  does : DoesOrRefuses s variant n words m (Insert key value)
  does = go whole.comes whole.brief
    where
      go : (o : Comes (procedure c (Insert key value)) words whole.reply whole.later
          ⊎ Ends (procedure c (Insert key value)) words whole.reply whole.later)
          → steps_of o ≤ 1000 → DoesOrRefuses s variant n words m (Insert key value)
      go (inl k) few_steps =
          let as_many = act-comes-accesses s variant (Insert key value) k in
          record {
            reply = whole.reply;
            later = whole.later;
            runs = act-comes s variant (Insert key value) k;
            few = omega (arith, as_many, few_steps);
            legal = whole.outcome.legal;
            rests = whole.outcome.rests;
            means = whole.outcome.meant;
          }
      go (inr k) few_steps =
          let as_many = act-ends-accesses s variant (Insert key value) k in
          record {
            reply = whole.reply;
            later = whole.later;
            runs = act-ends s variant (Insert key value) k;
            few = omega (arith, as_many, few_steps);
            legal = whole.outcome.legal;
            rests = whole.outcome.rests;
            means = whole.outcome.meant;
          }

table-bound : (s : Shape) → IsWithinLimits s → table_words s < 2305843009213693952
table-bound s limits = omega (arith, limits.rows4, limits.rows16, limits.rows48, limits.rows256)

pub inserts-are-the-maps : Given → InsertsAreTheMaps
inserts-are-the-maps g s variant n words m key value tree limits few rest means =
    does g s variant n words rest few (table-bound s limits) m means key value (key-bound key value tree) (value-bound key value tree)
