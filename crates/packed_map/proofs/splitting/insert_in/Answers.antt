-- Making room leaves the entries as they were.
use Rattle.packed_map.proofs.Common.{Some, is_ok, sym, subst, if◌then◌else◌, IsEdit, value_at, entries_of}
use Rattle.packed_map.proofs.EditLemmas.{edit_nothing}
use Rattle.packed_map.proofs.splitting.insert_in.Goals as goal

pub returns-in-Ok-clause-put : goal.returns-in-Ok-clause-put
returns-in-Ok-clause-put g c =
    let key = c.args.key in
    subst (λ es. IsEdit key (value_at es key) (if is_ok c.put_in.result then Some c.args.value else value_at es key) es (entries_of c.put_in.new.leaves.items))
    c.in-Ok.ensures.same c.put_in.ensures.put

pub returns-in-Err-clause-put : goal.returns-in-Err-clause-put
returns-in-Err-clause-put g c =
    let old = entries_of c.args.leaves.now.items in
    let was = value_at old c.args.key in
    subst (λ es. IsEdit c.args.key was was old es) (sym c.in-Err.ensures.same) (edit_nothing c.args.key old c.requires.rising)
