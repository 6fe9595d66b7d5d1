-- The laws of the moments of reads, for what a machine shows.
use Rattle.machine.proofs.Common.{◌∙◌, Machine}
use Rattle.art_schedules.specs.moments.Reads.{RunsHaveMomentsOfScans, RunsHaveMomentsOfGets}
use Rattle.machine.specs.ReadMoments.{ScansHaveMoments, GetsHaveMoments}

pub scans-have-moments : RunsHaveMomentsOfScans → (m : Machine) → ScansHaveMoments m
scans-have-moments law m plan first schedule s run shows is = law plan m.start.items first schedule s run (shows.variant ∙ is)

pub gets-have-moments : RunsHaveMomentsOfGets → (m : Machine) → GetsHaveMoments m
gets-have-moments law m plan first schedule s run shows is = law plan m.start.items first schedule s run (shows.variant ∙ is)
