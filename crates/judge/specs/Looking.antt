-- Algorithm: the checks of a table's parts by what judging looks at. Assumes nothing.
use Rattle.std.specs.Prelude.{ℕ, ◌<◌, Bool, get_or, length, Result}
use Rattle.zone.specs.declared.zones.Zone.{Zone as Square}
use Rattle.answers.specs.declared.Refusal.{Refusal}
use Rattle.acceptance.specs.declared.certificate.Certificate.{Certificate}
use Rattle.table.specs.Fields.{number_of}
use Rattle.table.specs.Nodes.{entry_at}
use Rattle.table.specs.declared.nodes.Node.{Node as Entry}
use Rattle.judge.specs.Steps.{Checked}
use Rattle.judge.specs.Landing.{successor_share, SuccessorAsked}
use Rattle.judge.specs.Cutting.{part_checked, cut_checked, CutAsked}
use Rattle.judge.specs.Walk.{rows_checked, node_checked, walked, RowsAsked, NodeAsked, WalkAsked}
use Rattle.judge.specs.Deciding.{start_verdict}
use Rattle.judge.specs.declared.judging.Judging.{Judging}

-- the node n, and the number of the node that is named at a place
abbrev pub node_numbered : Judging → ℕ → Entry
node_numbered j n = entry_at j.table.now.nodes n

abbrev pub named_at : Judging → ℕ → ℕ
named_at j p = number_of (get_or j.words.now p 0)

-- 17 and 18 of a successor, and its share in the sum
abbrev pub successor_of : Judging → Square → ℕ → ℕ → Result ℕ Refusal
successor_of j reach w p = successor_share j.model.now j.table.now reach w (named_at j p) p

abbrev pub AsksSuccessor : Judging → Square → Bool → ℕ → ℕ → Type 0
AsksSuccessor j reach empty w p = SuccessorAsked j.words.now j.model.now reach empty w p

-- 51 to 53 of a part of a node, and of its cut
abbrev pub part_of : Judging → Square → ℕ → ℕ → Checked
part_of j z n p = part_checked j.table.now z n (node_numbered j n) (named_at j p) p

abbrev pub AsksPart : Judging → ℕ → ℕ → Type 0
AsksPart j n p = (n < 64) × (p < length j.words.now)

abbrev pub cut_of : Judging → ℕ → Checked
cut_of j n = cut_checked j.words.now j.table.now n (node_numbered j n)

abbrev pub AsksCut : Judging → ℕ → Type 0
AsksCut j n = (n < 64) × CutAsked j.words.now (node_numbered j n)

-- the rows of a node, a node, and all of them
abbrev pub rows_of : Judging → ℕ → Checked
rows_of j n = rows_checked j.words.now j.model.now j.table.now (node_numbered j n)

abbrev pub AsksRows : Judging → ℕ → Type 0
AsksRows j n = (n < 64) × RowsAsked j.words.now j.model.now (node_numbered j n)

abbrev pub node_of : Judging → ℕ → Checked
node_of j n = node_checked j.words.now j.model.now j.table.now n

abbrev pub AsksNode : Judging → ℕ → Type 0
AsksNode j n = (n < 64) × NodeAsked j.words.now j.model.now (node_numbered j n)

abbrev pub all_of : Judging → Checked
all_of j = walked j.words.now j.model.now j.table.now

abbrev pub AsksAll : Judging → Type 0
AsksAll j = WalkAsked j.words.now j.model.now j.table.now

-- the start
abbrev pub start_of : Judging → Square → Result Certificate Refusal
start_of j initial = start_verdict j.model.now j.table.now initial
