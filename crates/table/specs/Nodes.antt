-- Algorithm: what is kept of a table and of its nodes. Assumes nothing.
use Rattle.std.specs.Prelude.{ℕ, List, get_or, set}
use Rattle.zone.specs.Stores.{no_zone}
use Rattle.zone.specs.declared.zones.Zone.{Zone as Square}
use Rattle.zone.specs.declared.zones.TheConstants.Zone.{ZEROS}
use Rattle.table.specs.Fields.{value_of}
use Rattle.table.specs.declared.nodes.Node.{Node as Entry}
use Rattle.table.specs.declared.nodes.IndexedTable.{IndexedTable}

-- how many nodes a table has at most
abbrev pub node_count : ℕ
node_count = 64

-- before a node is read
abbrev pub unread : Entry
unread = record { location = 0; place = 0; value = 0; zone = ZEROS }

-- past the end zeros are read; no index of the code reaches them
abbrev pub no_entry : Entry
no_entry = record { location = 0; value = 0; place = 0; zone = no_zone }

abbrev pub entry_at : List Entry → ℕ → Entry
entry_at ns n = get_or ns n no_entry

abbrev pub put_entry : Entry → ℕ → List Entry → List Entry
put_entry N n ns = set ns n N

-- with another zone
abbrev pub with_zone : Square → Entry → Entry
with_zone z N = record N { zone = z }

-- completed, at the location l, with its value word w at the place p
abbrev pub completed : ℕ → ℕ → ℕ → Entry → Entry
completed l w p N = record N { location = l; value = value_of w; place = p }

-- with another node n
abbrev pub with_entry : ℕ → Entry → IndexedTable → IndexedTable
with_entry n N k = record k { nodes = put_entry N n k.nodes }

-- before the first word: no V, no node and no start node
abbrev pub begun : IndexedTable → IndexedTable
begun k = record k { whole = 0; count = 0; start = 0; place = 0 }
