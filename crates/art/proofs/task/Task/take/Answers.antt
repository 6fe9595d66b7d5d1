use Rattle.art.specs.Tasks.{setting_of}
use Rattle.art.specs.declared.task.Going.TheVariants.{OnKey}
use Rattle.art.proofs.GoingLemmas.{asks_going, key_fits, key_reply, key_over, key_keys, key_reached}
use Rattle.art.proofs.GoingLemmas.{scan_keys, scan_fits, scan_reply, scan_over, scan_reached}
use Rattle.art.proofs.task.Task.take.Goals as goal

pub take-requires : goal.take-requires
take-requires c = record {
  asks = asks_going (setting_of c.args.self.now) c.args.self.now.going (OnKey c.in-OnKey.call) c.in-OnKey.is c.requires.asks;
}

pub invariant_of-self-clause-keys : goal.invariant_of-self-clause-keys
invariant_of-self-clause-keys c =
    key_keys (setting_of c.args.self.now) c.args.self.now.going c.in-OnKey.call c.take.new.self c.args.got c.take.result c.in-OnKey.is
    c.args.self.now.keys
    c.take.ensures.next c.take.ensures.reply

pub invariant_of-self-clause-reached : goal.invariant_of-self-clause-reached
invariant_of-self-clause-reached c =
    key_reached (setting_of c.args.self.now) c.args.self.now.going c.in-OnKey.call c.take.new.self c.args.got c.take.result c.in-OnKey.is
    c.args.self.now.keys
    c.take.ensures.next c.take.ensures.reply
    c.requires.asks c.args.self.now.reached

pub invariant_of-self-in-OnScan-clause-keys : goal.invariant_of-self-in-OnScan-clause-keys
invariant_of-self-in-OnScan-clause-keys c =
    scan_keys (setting_of c.args.self.now) c.args.self.now.going c.in-OnScan.scan c.take-in-OnScan.new.self c.in-OnScan.is
    c.args.self.now.keys
    c.take-in-OnScan.ensures.low c.take-in-OnScan.ensures.high

pub invariant_of-self-in-OnScan-clause-reached : goal.invariant_of-self-in-OnScan-clause-reached
invariant_of-self-in-OnScan-clause-reached c =
    scan_reached (setting_of c.args.self.now) c.args.self.now.going c.in-OnScan.scan c.take-in-OnScan.new.self c.in-OnScan.is
    c.args.self.now.keys
    c.take-in-OnScan.ensures.low c.take-in-OnScan.ensures.high
    c.args.got c.take-in-OnScan.result c.take-in-OnScan.ensures.next c.take-in-OnScan.ensures.reply c.take-in-OnScan.ensures.over
    c.requires.asks c.args.self.now.reached

pub returns-in-OnKey-clause-fits : goal.returns-in-OnKey-clause-fits
returns-in-OnKey-clause-fits c = λ none.
    key_fits (setting_of c.args.self.now) c.args.self.now.going c.in-OnKey.call c.take.new.self c.args.got c.take.result c.in-OnKey.is
    c.args.self.now.keys
    c.take.ensures.next c.take.ensures.reply

pub returns-in-OnKey-clause-reply : goal.returns-in-OnKey-clause-reply
returns-in-OnKey-clause-reply c =
    key_reply (setting_of c.args.self.now) c.args.self.now.going c.in-OnKey.call c.take.new.self c.args.got c.take.result c.in-OnKey.is
    c.args.self.now.keys
    c.take.ensures.next c.take.ensures.reply

pub returns-in-OnKey-clause-over : goal.returns-in-OnKey-clause-over
returns-in-OnKey-clause-over c =
    key_over (setting_of c.args.self.now) c.args.self.now.going c.in-OnKey.call c.take.new.self c.args.got c.take.result c.in-OnKey.is
    c.args.self.now.keys
    c.take.ensures.next c.take.ensures.reply

pub returns-in-OnScan-clause-fits : goal.returns-in-OnScan-clause-fits
returns-in-OnScan-clause-fits c =
    scan_fits (setting_of c.args.self.now) c.args.self.now.going c.in-OnScan.scan c.take-in-OnScan.new.self c.in-OnScan.is
    c.args.self.now.keys
    c.take-in-OnScan.ensures.low c.take-in-OnScan.ensures.high
    c.args.got c.take-in-OnScan.result c.take-in-OnScan.ensures.next c.take-in-OnScan.ensures.reply c.take-in-OnScan.ensures.over

pub returns-in-OnScan-clause-reply : goal.returns-in-OnScan-clause-reply
returns-in-OnScan-clause-reply c =
    scan_reply (setting_of c.args.self.now) c.args.self.now.going c.in-OnScan.scan c.take-in-OnScan.new.self c.in-OnScan.is
    c.args.self.now.keys
    c.take-in-OnScan.ensures.low c.take-in-OnScan.ensures.high
    c.args.got c.take-in-OnScan.result c.take-in-OnScan.ensures.next c.take-in-OnScan.ensures.reply c.take-in-OnScan.ensures.over

pub returns-in-OnScan-clause-over : goal.returns-in-OnScan-clause-over
returns-in-OnScan-clause-over c =
    scan_over (setting_of c.args.self.now) c.args.self.now.going c.in-OnScan.scan c.take-in-OnScan.new.self c.in-OnScan.is
    c.args.self.now.keys
    c.take-in-OnScan.ensures.low c.take-in-OnScan.ensures.high
    c.args.got c.take-in-OnScan.result c.take-in-OnScan.ensures.next c.take-in-OnScan.ensures.reply c.take-in-OnScan.ensures.over
