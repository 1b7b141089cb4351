-- What a node of any kind keeps between two events.
use Rattle.std.specs.Prelude.{ℕ, Bool, List, []}

-- a stage of a tandem: its positions, and whether the service of the front one is done
pub record Line : Type 0 where
  pub queue : List ℕ
  pub done : Bool

-- a branch of a fork-join: the positions at each server, and how many went through the branch
pub record Branch : Type 0 where
  pub queues : List (List ℕ)
  pub through : ℕ

-- What a node keeps: the positions at a server or a loss station, the one in service first; those that a delay or a trunk group is
-- serving; the stages of a tandem; the branches of a fork-join; the ports and positions that a join hasn't matched yet.
pub record Local : Type 0 where
  pub queue : List ℕ
  pub scheduled : List ℕ
  pub lines : List Line
  pub branches : List Branch
  pub held : List (ℕ × ℕ)

-- nothing kept
abbrev pub empty : Local
empty = record { queue = []; scheduled = []; lines = []; branches = []; held = [] }
