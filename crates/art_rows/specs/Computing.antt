-- A name under which every procedure unfolds, for tests that compute: write 'unfolding computing'.
use Rattle.art_rows.specs.Rows.{lock_again, lock, unlock, unlock_obsolete, unlock_all, wait, check, check_of, take_row, load_child}
use Rattle.art_rows.specs.Rows.{find_child, find_among}
use Rattle.art_rows.specs.Rows.{find_indexed, find_in, find, claim}
use Rattle.art_rows.specs.Updates.{pair, pair_in, copy_child, make_room, put_in, put, store_index, spread_entry, spread_index, fill, grow}
use Rattle.art_rows.specs.Updates.{insert_in}
use Rattle.art_rows.specs.Updates.{insert_beside}
use Rattle.art_rows.specs.Coupled as coupled
use Rattle.art_rows.specs.Optimistic as optimistic
use Rattle.art_rows.specs.Scan.{walk_child, walk_slot, walk_place, walk_keys, walk_entry, walk_index, walk_in, walk_bytes, walk_from, scan}
use Rattle.art_rows.specs.Act.{procedure, act}

unfoldable pub computing : Unit {0}
unfolding lock_again lock unlock unlock_obsolete unlock_all wait check check_of take_row load_child find_child find_among
    find_indexed find_in find
    claim pair pair_in copy_child make_room put_in put store_index spread_entry spread_index fill grow insert_in
    insert_beside coupled.step_down
    coupled.seek_at coupled.seek_from coupled.seek coupled.insert_at coupled.insert_from coupled.insert optimistic.step_down
    optimistic.seek_at
    optimistic.seek_from optimistic.seek optimistic.insert_leaf optimistic.insert_at optimistic.insert_from optimistic.insert
    walk_child walk_slot
    walk_place walk_keys walk_entry walk_index walk_in walk_bytes walk_from scan procedure act
computing = tt
