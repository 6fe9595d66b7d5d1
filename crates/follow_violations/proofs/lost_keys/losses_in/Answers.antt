use Rattle.follow_violations.proofs.Common.{kept_of, AreSpansOf, ◌∙◌, ℕ, List, map, subst, sym}
use Rattle.follow_violations.proofs.LossLemmas.{all_losses}
use Rattle.follow_violations.proofs.lost_keys.losses_in.Goals as goal

pub losses_of-requires : goal.losses_of-requires
losses_of-requires c =
    subst (λ (spans : List (ℕ × ℕ × ℕ)). AreSpansOf (map kept_of c.args.pasts.now) spans) (sym c.deref.ensures.value) c.in_ok-spans.ensures

pub returns : goal.returns
returns c =
    all_losses c.args.own (map kept_of c.args.pasts.now) c.args.puts.now c.in_ok-keys.keys.items c.in_ok-losses.losses.items c.in_ok-keys.ensures.rising
    c.in_ok-keys.ensures.named (c.in_ok-losses.ensures.keys ∙ c.deref-2.ensures.value) c.in_ok-losses.ensures.each
