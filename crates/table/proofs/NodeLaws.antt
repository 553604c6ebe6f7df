-- Laws of nodes in an array: what is put for a node stands there, the other nodes keep theirs, and the array keeps its length. Assumes nothing.
use Rattle.std.proofs.Common.{ℕ, ◌<◌, ◌≡◌, ◌≢◌, List, length}
use lib.ListN.{length-set}
use lib.Seq.{get_or-set_same, get_or-set_other}
use Rattle.table.specs.Nodes.{no_entry, entry_at, put_entry}
use Rattle.table.specs.declared.nodes.Node.{Node as Entry}

module _ (N : Entry) (n : ℕ) (ns : List Entry) where
  pub entry_length : length (put_entry N n ns) ≡ length ns
  entry_length = length-set ns n N

  pub entry_here : n < length ns → entry_at (put_entry N n ns) n ≡ N
  entry_here r = get_or-set_same ns n N no_entry r

  pub entry-apart : (q : ℕ) → q ≢ n → entry_at (put_entry N n ns) q ≡ entry_at ns q
  entry-apart q d = get_or-set_other ns n q N no_entry d
