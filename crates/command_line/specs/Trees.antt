-- The trees that a drive may do its calls at, and those of schedules with their strategies.
use Rattle.std.specs.Prelude.{ℕ, List, [], ◌∷◌, codes}
use Rattle.clap.specs.Words.{Text}
use Rattle.command_line.specs.declared.line.Tree.{Tree}
use Rattle.command_line.specs.declared.line.Tree.TheVariants.{Locked, Coupled, Optimistic, ReadUnchecked}
use Rattle.command_line.specs.declared.line.Tree.TheVariants.{ScanUnvalidated, LockUnchecked}
use Rattle.command_line.specs.declared.line.Tree.TheVariants.{EarlyRelease}
use Rattle.command_line.specs.declared.line.Strategy.{Strategy}
use Rattle.command_line.specs.declared.line.Strategy.TheVariants.{Walk, Pos, Pct}

-- the word that names a tree
abbrev pub name_of : Tree → Text
name_of Locked = codes "locked"
name_of Coupled = codes "coupled"
name_of Optimistic = codes "optimistic"
name_of ReadUnchecked = codes "read-unchecked"
name_of ScanUnvalidated = codes "scan-unvalidated"
name_of LockUnchecked = codes "lock-unchecked"
name_of EarlyRelease = codes "early-release"

-- and its place among the trees
abbrev pub place_of : Tree → ℕ
place_of Locked = 0
place_of Coupled = 1
place_of Optimistic = 2
place_of ReadUnchecked = 3
place_of ScanUnvalidated = 4
place_of LockUnchecked = 5
place_of EarlyRelease = 6

-- the trees, in this order
abbrev pub trees : List Tree
trees = Locked ∷ Coupled ∷ Optimistic ∷ ReadUnchecked ∷ ScanUnvalidated ∷ LockUnchecked ∷ EarlyRelease ∷ []

-- the trees that schedules run: all but the map under a lock
abbrev pub scheduled_trees : List Tree
scheduled_trees = Coupled ∷ Optimistic ∷ ReadUnchecked ∷ ScanUnvalidated ∷ LockUnchecked ∷ EarlyRelease ∷ []

-- a tree's place among them; the map under a lock is past them
abbrev pub scheduled_place_of : Tree → ℕ
scheduled_place_of Coupled = 0
scheduled_place_of Optimistic = 1
scheduled_place_of ReadUnchecked = 2
scheduled_place_of ScanUnvalidated = 3
scheduled_place_of LockUnchecked = 4
scheduled_place_of EarlyRelease = 5
scheduled_place_of Locked = 6

-- the word that names a strategy
abbrev pub strategy_name : Strategy → Text
strategy_name Walk = codes "walk"
strategy_name Pos = codes "pos"
strategy_name Pct = codes "pct"

-- and its place among the strategies
abbrev pub strategy_place : Strategy → ℕ
strategy_place Walk = 0
strategy_place Pos = 1
strategy_place Pct = 2

-- the strategies, in this order
abbrev pub strategies : List Strategy
strategies = Walk ∷ Pos ∷ Pct ∷ []
