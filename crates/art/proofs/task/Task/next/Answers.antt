use Rattle.art.specs.Going.{at_of}
use Rattle.art.specs.Tasks.{setting_of}
use Rattle.art.specs.declared.task.Going.TheVariants.{OnKey, OnScan}
use Rattle.art.proofs.GoingLemmas.{asks_going, access_going, in_table}
use Rattle.art.proofs.task.Task.next.Goals as goal

pub next-requires : goal.next-requires
next-requires c = record {
  asks = asks_going (setting_of c.args.self.now) c.args.self.now.going (OnKey c.in-OnKey.call) c.in-OnKey.is c.requires.asks;
}

pub next-requires-in-OnScan : goal.next-requires-in-OnScan
next-requires-in-OnScan c = record {
  asks = asks_going (setting_of c.args.self.now) c.args.self.now.going (OnScan c.in-OnScan.scan) c.in-OnScan.is c.requires.asks;
}

pub returns-in-OnKey-clause-access : goal.returns-in-OnKey-clause-access
returns-in-OnKey-clause-access c =
    access_going (setting_of c.args.self.now) c.args.self.now.going (OnKey c.in-OnKey.call) c.in-OnKey.is c.next.result c.next.ensures

pub returns-in-OnKey-clause-in_table : goal.returns-in-OnKey-clause-in_table
returns-in-OnKey-clause-in_table c =
    in_table (setting_of c.args.self.now) (at_of c.args.self.now.going) c.next.result c.args.self.now.setting.within.root
    c.args.self.now.reached
    (access_going (setting_of c.args.self.now) c.args.self.now.going (OnKey c.in-OnKey.call) c.in-OnKey.is c.next.result c.next.ensures)

pub returns-in-OnScan-clause-access : goal.returns-in-OnScan-clause-access
returns-in-OnScan-clause-access c =
    access_going (setting_of c.args.self.now) c.args.self.now.going (OnScan c.in-OnScan.scan) c.in-OnScan.is
    c.next-in-OnScan.result c.next-in-OnScan.ensures

pub returns-in-OnScan-clause-in_table : goal.returns-in-OnScan-clause-in_table
returns-in-OnScan-clause-in_table c =
    in_table (setting_of c.args.self.now) (at_of c.args.self.now.going) c.next-in-OnScan.result
    c.args.self.now.setting.within.root c.args.self.now.reached
    (access_going (setting_of c.args.self.now) c.args.self.now.going (OnScan c.in-OnScan.scan) c.in-OnScan.is
    c.next-in-OnScan.result c.next-in-OnScan.ensures)
