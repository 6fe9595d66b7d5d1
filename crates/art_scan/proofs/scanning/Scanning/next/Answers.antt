use Rattle.art_control_states.specs.Settings.{setting_of}
use Rattle.art_scan.specs.Scans.{walk_in}
use Rattle.art_scan.proofs.WayLemmas.{asks_on}
use Rattle.art_scan.proofs.scanning.Scanning.next.Goals as goal

pub access_at-requires-clause-asks : goal.access_at-requires-clause-asks
access_at-requires-clause-asks c = asks_on (setting_of c.args.setting.now) c.args.self.now.step
    (walk_in c.args.self.now.lists) c.requires.asks
