-- The names that most proofs of this crate cite, passed on from one place. Declares nothing.
pub use Rattle.std.proofs.Common.{Bool, List, Some, [], ap, arith, false, inl, inr, length, refl, subst, suc, sym, true, zero, ℕ, ⊎_elim, ◌%◌, ◌*◌}
pub use Rattle.std.proofs.Common.{◌++◌, ◌+◌, ◌-◌, ◌/◌, ◌<◌, ◌^◌, ◌∙◌, ◌∷◌, ◌≡◌, ◌≤◌}
pub use Rattle.std.proofs.lemmas.Bool.{and_left, and_right, cases_lt, eq-eqb, false≢true, le-ltb, leb-true, lt-leb, ltb-true, ne_eqb}
pub use Rattle.std.specs.Prelude.{None, Option, filter, if◌then◌else◌, nat_le, nat_lt, ◌&&◌, ◌⊎◌}
pub use Rattle.art_rows.proofs.WriterLemmas.{length-keys4, less_one}
pub use Rattle.art_rows.specs.Words.{big_endian, child_of, info_of, keys16_of, keys4_of, low_bytes, place_of}
pub use Rattle.art_rows.specs.declared.table.Kind.{Kind}
pub use Rattle.art_rows.specs.declared.table.Kind.TheVariants.{FortyEight, Four, Full, Sixteen}
pub use Rattle.art_control_states.specs.Scans.{ScanAt, Walk, at, bytes_at, child_after, child_from, frame_at, frame_of, in_word, index_at_list, lies, on_way}
pub use Rattle.art_control_states.specs.Scans.{place_slot, resume_at, row_begins, scan_turn, slot_at, step_after, visit_list, way_at, with_frame, with_held}
pub use Rattle.art_control_states.specs.Scans.{words_at}
pub use Rattle.art_control_states.specs.Settings.{setting_of}
pub use Rattle.art_control_states.specs.Stages.{keys_among, row_at}
pub use Rattle.art_control_states.specs.declared.stage.Frame.{Frame}
pub use Rattle.art_control_states.specs.declared.stage.HeldRow.{HeldRow}
pub use Rattle.art_control_states.specs.declared.stage.ScanStep.TheVariants.{Child, Exchange, FirstKeys, Index, Info, Keys, Lock, Over, Release, SecondKeys}
pub use Rattle.art_control_states.specs.declared.stage.ScanStep.TheVariants.{Wait}
pub use Rattle.art_rows.specs.Scan.{bytes_of, can_lie}
pub use Rattle.art_rows.specs.Steps.{numbers, reply_of}
pub use Rattle.art_scan.specs.Sound.{is_over, is_sound_frame}
pub use Rattle.art_scan.specs.Walks.{IsPassed, frame_slot, frame_test, has_any, walk_of, with_pair, words_that_follow}
