use Rattle.follow_violations.proofs.Common.{low_key, high_key, ListsOther, Names, ◌≡◌, ◌∙◌, ℕ, sym, subst, on_ok_weaker, ◌↔◌}
use Rattle.follow_violations.proofs.NameLemmas.{added_as, lists_names}
use Rattle.follow_violations.proofs.named_keys.note_call.Goals as goal

pub returns-in-Some : goal.returns-in-Some
returns-in-Some c =
    let pairs = c.args.map.now in
    let o = c.args.call.now in
    let reply = c.in-Some.response.reply in
    let more : low_key o.call ≡ high_key o.call → ⊥ =
    λ same. c.if-low-high.false (c.low_key-low.ensures ∙ (same ∙ sym c.high_key-high.ensures)) in
    on_ok_weaker c.note_reply.result
    (λ added. added_as (ListsOther pairs reply c.low_key-low.result c.high_key-high.result) (Names pairs o) c.args.keys.now.items
    c.note_reply.new.keys.items
    (λ key. subst (λ (low : ℕ). ListsOther pairs reply low c.high_key-high.result key ↔ Names pairs o key) (sym c.low_key-low.ensures)
    (subst (λ (high : ℕ). ListsOther pairs reply (low_key o.call) high key ↔ Names pairs o key) (sym c.high_key-high.ensures)
    (lists_names pairs o c.in-Some.response key more c.in-Some.is))) added) c.note_reply.ensures
