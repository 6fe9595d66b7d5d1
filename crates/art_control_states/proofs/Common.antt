-- The names that most proofs of this crate cite, passed on from one place. Declares nothing.
pub use Rattle.std.proofs.Common.{Bool, List, [], ap, arith, false, inl, inr, refl, suc, sym, true, zero, ℕ, ◌*◌, ◌++◌, ◌+◌, ◌-◌, ◌∙◌, ◌∷◌, ◌≡◌}
pub use Rattle.std.proofs.Common.{◌≤◌, ◌⊎◌}
pub use Rattle.std.proofs.lemmas.Bool.{false≢true}
pub use Rattle.std.specs.Prelude.{None, Option, Some, if◌then◌else◌, nat_le, nat_lt, slice_index, ◌==◌}
pub use Rattle.art_rows.specs.Table.{base_of, child_at, claims_of, rows_of}
pub use Rattle.art_rows.specs.Words.{child_of, entries_of, is_locked, is_obsolete, locked_word}
pub use Rattle.art_rows.specs.declared.table.Child.TheVariants.{Empty, Leaf, Row as ChildRow}
pub use Rattle.art_rows.specs.declared.table.Kind.{Kind}
pub use Rattle.art_rows.specs.declared.table.Kind.TheVariants.{FortyEight, Four, Full, Sixteen}
pub use Rattle.art_control_states.specs.Automaton.{after_with, among_at, arrived_at, below_at, between_turn, checked_at, copies_at, entered_at}
pub use Rattle.art_control_states.specs.Automaton.{entries_at, fill_at, find_at, find_turn, found_at, grow_count_turn, grow_keys_turn, grow_leaf_turn}
pub use Rattle.art_control_states.specs.Automaton.{grow_unlocked, indexed_at, insert_coupled, insert_unlocked, keys_at_after, keys_one, leaf_after}
pub use Rattle.art_control_states.specs.Automaton.{let_go_at, moves_at, no_value, overwrite_at, overwrite_unlocked, pair_after, pair_turn, place_coupled}
pub use Rattle.art_control_states.specs.Automaton.{put_at, put_keys_after, put_keys_turn, release_at, seek_coupled, seek_unlocked, spreads_at}
pub use Rattle.art_control_states.specs.Automaton.{stage_after, start_at, take_at, taken_at, turn_at, work_at}
pub use Rattle.art_control_states.specs.Scans.{ScanAt, at, keys_turn, release_turn, scan_after, scan_start, scan_turn}
unfoldable pub use Rattle.art_control_states.specs.Scans.{scan_in}
pub use Rattle.art_control_states.specs.Stages.{count_in, ends, entered, found_of, found_then, held, inform, place_at, row_at, rows_at, taken}
unfoldable pub use Rattle.art_control_states.specs.Stages.{part_of, rest_in}
pub use Rattle.art_control_states.specs.declared.stage.Down.{Down}
pub use Rattle.art_control_states.specs.declared.stage.Finding.{Finding}
pub use Rattle.art_control_states.specs.declared.stage.Growing.{Growing}
pub use Rattle.art_control_states.specs.declared.stage.HeldRow.{HeldRow}
pub use Rattle.art_control_states.specs.declared.stage.Hold.{Hold}
pub use Rattle.art_control_states.specs.declared.stage.Keys.{Keys}
pub use Rattle.art_control_states.specs.declared.stage.Outcome.{Outcome}
pub use Rattle.art_control_states.specs.declared.stage.Outcome.TheVariants.{Refused}
pub use Rattle.art_control_states.specs.declared.stage.Pair.{Pair}
pub use Rattle.art_control_states.specs.declared.stage.PairWord.{PairWord}
pub use Rattle.art_control_states.specs.declared.stage.Position.{Position}
pub use Rattle.art_control_states.specs.declared.stage.ScanStep.{ScanStep}
pub use Rattle.art_control_states.specs.declared.stage.ScanStep.TheVariants.{FirstKeys, Index, Release, SecondKeys}
pub use Rattle.art_control_states.specs.declared.stage.Spread.{Spread}
pub use Rattle.art_control_states.specs.declared.stage.Stage.{Stage}
pub use Rattle.art_control_states.specs.declared.stage.Stage.TheVariants.{Between, Check, CheckLast, ClaimGrow, ClaimPair, Exchange, Find, FindCount}
pub use Rattle.art_control_states.specs.declared.stage.Stage.TheVariants.{FindKeys, FindMore, GrowCount, GrowInfo, GrowKeys, GrowLeaf, GrowLoad}
pub use Rattle.art_control_states.specs.declared.stage.Stage.TheVariants.{GrowStore, Hang, Info, Leave, LetGo, Lock, Obsolete, Over, PutCount, PutKeys}
pub use Rattle.art_control_states.specs.declared.stage.Stage.TheVariants.{PutLeaf, PutLoad, PutMore, PutStore, Slot, SpreadIndex, SpreadLoad}
pub use Rattle.art_control_states.specs.declared.stage.Stage.TheVariants.{SpreadStore, StorePair, Take, Unlock, Wait, Write}
pub use Rattle.art_control_states.specs.declared.stage.Taking.{Taking}
pub use Rattle.art_control_states.specs.declared.stage.Target.{Target}
pub use Rattle.art_control_states.specs.declared.stage.Target.TheVariants.{Below, Root, Taken}
pub use Rattle.art_control_states.specs.declared.stage.Work.{Work}
pub use Rattle.art_rows.proofs.GuardLemmas.{act-body, lock_again-body, wait-body}
unfoldable pub use Rattle.art_rows.proofs.GuardLemmas.{lock_turn, wait_turn}
unfoldable pub use Rattle.art_rows.specs.Act.{act, procedure}
pub use Rattle.art_rows.specs.Rows.{Setting, is_full, is_insert, is_scan, key_of, leaves_out_check, locks, releases_early, row_of}
pub use Rattle.art_rows.specs.Rows.{takes_unchecked}
unfoldable pub use Rattle.art_rows.specs.Rows.{check, check_of, claim, find, find_child, find_in, load_child, lock, lock_again, unlock}
unfoldable pub use Rattle.art_rows.specs.Rows.{unlock_all, unlock_obsolete, wait}
pub use Rattle.art_rows.specs.Steps.{Asks, Part, Rest, each, exchange as swap, give, load, reply_of, start_again, store, ◌>>=◌, ◌>>◌}
pub use Rattle.art_rows.specs.Updates.{keys_differ_at, next_kind, overwriting}
unfoldable pub use Rattle.art_rows.specs.Updates.{copy_child, grow, pair, pair_in, spread_index, store_index}
pub use Rattle.art_rows.specs.declared.access.Access.TheVariants.{Add}
pub use Rattle.events.specs.declared.event.Call.{Call}
pub use Rattle.events.specs.declared.event.Call.TheVariants.{Get, Insert, Remove, Replace, Scan}
pub use Rattle.events.specs.declared.event.Reply.{Reply}
