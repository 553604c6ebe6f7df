-- Algorithm: square tables for a row's reach and for where its edges land. Where a node's states can wait is worked out once per node, a row's
-- reach by one more meeting, and what an edge's landings have of the invariant that they land at by another. Assumes nothing.
use Rattle.std.specs.Prelude.{ℕ, ◌≤◌, ◌<◌, ◌≡◌, Bool, false, ◌&&◌, List, length, get_or, ltb}
use Rattle.zone.specs.Squares.{met, tightened, delayed_square, inside?}
use Rattle.zone.specs.Stores.{zone_at}
use Rattle.zone.specs.declared.zones.Zone.{Zone as Square}
use Rattle.table.specs.Nodes.{entry_at}
use Rattle.table.specs.declared.nodes.Node.{Node as Entry}

-- what two zones have in common, tightened
unfoldable pub common : Square → Square → Square
common y z = tightened (met y z)

-- what waiting attains from the states in the zone y, within the invariant i; of that, an action's reach has `common` with its guard
unfoldable pub waited_square : Square → Square → Square
waited_square y i = met (delayed_square (common y i)) i

-- the bounds of the node N, not tightened, are within those of its location's invariant, cell by cell: then its zone lies within it; the other way round
-- is not claimed. zs are the zones of the model
abbrev pub contained? : List Square → Entry → Bool
contained? zs N = inside? N.zone (zone_at zs N.location)

-- the flags say so of each of these nodes, and behind them none is set
pub record Contained (zs : List Square) (ns : List Entry) (flags : List Bool) : Type 0 where
  pub at : (n : ℕ) → get_or flags n false ≡ (ltb n (length ns) && contained? zs (entry_at ns n))

-- what it asks: there are no more of them than flags, and the invariant of each one's location is there
pub record NodesAsked (ns : List Entry) : Type 0 where
  pub limit : length ns ≤ 64
  pub locations : (n : ℕ) → n < length ns → (entry_at ns n).location < 16
