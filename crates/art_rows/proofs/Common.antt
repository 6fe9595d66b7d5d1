-- The names that most proofs of this crate cite, passed on from one place. Declares nothing.
pub use Rattle.std.proofs.Common.{Bool, List, [], ap, arith, drop, eqb-true, false, length, map, option_map, refl, set, slice_index, subst, suc, sym}
pub use Rattle.std.proofs.Common.{take, true, zero, ℕ, ⊎_elim, ◌%◌, ◌*◌, ◌++◌, ◌+◌, ◌-◌, ◌/◌, ◌<◌, ◌^◌, ◌∙◌, ◌∷◌, ◌≡◌, ◌≤◌}
pub use Rattle.std.proofs.Math.Nat.{div-one, pow-le-pow_right, pow-suc}
pub use Rattle.std.proofs.lemmas.Bool.{cases_lt, false≢true, le-leb, le-ltb, leb-true, lt-ltb, ltb-true}
pub use Rattle.std.proofs.lemmas.List.{append-nil, get_or_past, length-append, length-take}
pub use Rattle.std.proofs.lemmas.Nat.{div_below, shr-shr}
pub use Rattle.std.proofs.lemmas.Option.{none-some, same_Some}
pub use Rattle.std.specs.Prelude.{None, Option, Some, filter, if◌then◌else◌, min, nat_le, nat_lt, ◌&&◌, ◌==◌}
pub use Rattle.events.specs.Limits.{pair_limit}
pub use Rattle.events.specs.declared.event.Call.{Call}
pub use Rattle.events.specs.declared.event.Call.TheVariants.{Get, Insert, Remove, Replace, Scan}
pub use Rattle.events.specs.declared.event.Reply.{Reply}
unfoldable pub use Rattle.art_rows.specs.Act.{act, procedure}
pub use Rattle.art_rows.specs.Fits.{AnswersFewPairs, StaysInTable, word_of}
pub use Rattle.art_rows.specs.Rows.{Found, Has, Lacks, Place, Row, Setting, byte_at, is_full, is_insert, key_of, leaves_out_check, lock_point, locks}
pub use Rattle.art_rows.specs.Rows.{path_differs_at, releases_early, root_row, row_of, takes_unchecked}
unfoldable pub use Rattle.art_rows.specs.Rows.{check, check_of, claim, find, find_among, find_child, find_in, find_indexed, load_child, lock}
unfoldable pub use Rattle.art_rows.specs.Rows.{lock_again, take_row, unlock, unlock_all, unlock_obsolete, wait}
pub use Rattle.art_rows.specs.Scan.{At, Walked, bytes_of, can_lie, enter, has_row, with_leaf, with_row}
unfoldable pub use Rattle.art_rows.specs.Scan.{scan, walk_bytes, walk_child, walk_entry, walk_from, walk_in, walk_index, walk_keys, walk_place}
unfoldable pub use Rattle.art_rows.specs.Scan.{walk_slot}
pub use Rattle.art_rows.specs.Steps.{Answers, Asks, Part, Rest, Turn, access, access_of, add, answer, calls_of, each, exchange, first_at, from_start}
pub use Rattle.art_rows.specs.Steps.{give, load, load_at, marked, numbers, numbers_down, over, recursive, repeat, reply_of, start_again, store}
pub use Rattle.art_rows.specs.Steps.{store_at, ◌>>=◌, ◌>>◌}
pub use Rattle.art_rows.specs.Table.{base_of, capacity, child_at, claims_of, count_at, first_child, index_at, info_at, is_base_of, keys_at, kind_at}
pub use Rattle.art_rows.specs.Table.{more_keys_at, root_base, row_words, rows_of, table_words}
pub use Rattle.art_rows.specs.Updates.{Under, keys_differ_at, next_kind, overwriting}
unfoldable pub use Rattle.art_rows.specs.Updates.{copy_child, fill, grow, insert_beside, insert_in, make_room, pair, pair_in, put, put_in}
unfoldable pub use Rattle.art_rows.specs.Updates.{spread_entry, spread_index, store_index}
pub use Rattle.art_rows.specs.Words.{child_of, count_of, entries_of, entry_of, first_difference, info_of, is_locked, is_obsolete, key_bytes}
pub use Rattle.art_rows.specs.Words.{keys16_of, keys16_word, keys4_of, keys4_word, kind_code, locked_word, low_bytes, more_keys16_word, new_place}
pub use Rattle.art_rows.specs.Words.{packed, place_of, row_child, with_key}
pub use Rattle.art_rows.specs.declared.access.Access.{Access}
pub use Rattle.art_rows.specs.declared.access.Point.{Point}
pub use Rattle.art_rows.specs.declared.table.Child.{Child}
pub use Rattle.art_rows.specs.declared.table.Child.TheVariants.{Empty, Leaf}
pub use Rattle.art_rows.specs.declared.table.Kind.{Kind}
pub use Rattle.art_rows.specs.declared.table.Kind.TheVariants.{FortyEight, Four, Full, Sixteen}
pub use Rattle.art_rows.specs.declared.table.Shape.{Shape}
pub use Rattle.art_rows.specs.declared.variant.Variant.{Variant}
