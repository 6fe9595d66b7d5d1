use Rattle.art.specs.Tasks.{setting_of}
use Rattle.art.proofs.GoingLemmas.{scan_keys, scan_still_reached}
use Rattle.art.proofs.task.Task.ready.Goals as goal

pub invariant_of-self-in-OnScan-clause-keys : goal.invariant_of-self-in-OnScan-clause-keys
invariant_of-self-in-OnScan-clause-keys c =
    scan_keys (setting_of c.args.self.now) c.args.self.now.going c.in-OnScan.scan c.ready.new.self c.in-OnScan.is c.args.self.now.keys
    c.ready.ensures.low c.ready.ensures.high

pub invariant_of-self-in-OnScan-clause-reached : goal.invariant_of-self-in-OnScan-clause-reached
invariant_of-self-in-OnScan-clause-reached c =
    scan_still_reached (setting_of c.args.self.now) c.args.self.now.going c.in-OnScan.scan c.ready.new.self c.in-OnScan.is
    c.args.self.now.keys
    c.ready.ensures.low c.ready.ensures.high c.ready.ensures.same c.args.self.now.reached
