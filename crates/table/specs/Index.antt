-- Algorithm: one pass over a table's words, and what it leaves for judging. Assumes nothing.
use Rattle.std.specs.Prelude.{ℕ, ◌+◌, ◌-◌, Bool, ◌&&◌, ◌||◌, cond, List, leb, ltb, position, Option, Some, None, Result, Ok, Err}
use Rattle.answers.specs.declared.Reason.TheVariants as reason
use Rattle.answers.specs.declared.Refusal.{Refusal}
use Rattle.answers.specs.Refusals.{refuse}
use Rattle.zone.specs.Squares.{universe}
use Rattle.zone.specs.Reading.{with_word}
use Rattle.model.specs.declared.table_kinds.TableKind.{TableKind}
use Rattle.model.specs.declared.table_kinds.TableKind.TheVariants.{None as no_kind, Head as table_head, Node as node, Bound as node_bound, Value as value, Blocked as blocked, Successor as successor, StartNode as start_node, Cut as cut}
use Rattle.model.specs.TableKinds.{is_table, table_kind_of}
use Rattle.model.specs.declared.index.Index.{Index}
use Rattle.pass.specs.Steps.{Steps, Passed, pass_from}
use Rattle.table.specs.Fields.{whole_of, number_of}
use Rattle.table.specs.Nodes.{entry_at, with_entry, with_zone, completed, begun}
use Rattle.table.specs.Scan.{nothing, checked, checked_end, seen_with}
use Rattle.table.specs.declared.nodes.IndexedTable.{IndexedTable}
use Rattle.table.specs.declared.seen.Seen.{Seen}

-- with the word w, of a kind, at the place p behind words that come to s: the head gives V; a node's zone begins as every valuation, a bound goes
-- to the zone of the last node, and a value completes what is kept of it; the start node's word gives its number and place
unfoldable pub kept_with_kind : TableKind → Seen → ℕ → ℕ → IndexedTable → IndexedTable
kept_with_kind no_kind s w p k = k
kept_with_kind table_head s w p k = record k { whole = whole_of w }
kept_with_kind node s w p k = record (with_entry s.nodes (with_zone universe (entry_at k.nodes s.nodes)) k) { count = s.nodes + 1 }
kept_with_kind node_bound s w p k =
    let n : ℕ = s.nodes - 1 in
    with_entry n (with_zone (with_word w (entry_at k.nodes n).zone) (entry_at k.nodes n)) k
kept_with_kind value s w p k = let n : ℕ = s.nodes - 1 in with_entry n (completed s.location w p (entry_at k.nodes n)) k
kept_with_kind blocked s w p k = k
kept_with_kind successor s w p k = k
kept_with_kind start_node s w p k = record k { start = number_of w; place = p }
kept_with_kind cut s w p k = k

unfoldable pub kept_with : Seen → ℕ → ℕ → IndexedTable → IndexedTable
kept_with s w p k = kept_with_kind (table_kind_of w) s w p k

-- ---- the pass

-- for a model of the index x; the end of the words adds nothing
abbrev pub steps : Index → Steps Seen IndexedTable
steps x =
    record {
      checked = checked x;
      with_word = λ s w p. seen_with x s w;
      kept_with = kept_with;
      closed = λ s k. k;
      checked_end = checked_end;
    }

-- the table is k at first
unfoldable pub scanned : Index → List ℕ → IndexedTable → Passed Seen IndexedTable
scanned x words k = pass_from (steps x) nothing (begun k) 0 words

-- ---- on the whole file

-- a B or C word's node is not one of so many
abbrev pub lacks_node? : ℕ → ℕ → Bool
lacks_node? nodes w = (is_table successor w || is_table start_node w) && leb nodes (number_of w)

-- the place of the first word whose node is not there. The words are searched only if the furthest node that they name is not there
unfoldable pub missing_of : Seen → List ℕ → Option ℕ
missing_of s words = cond (ltb s.furthest s.nodes) None (position (lacks_node? s.nodes) words)

-- the place of a word whose node is not there refuses
unfoldable pub unless_missing : Option ℕ → Result (Unit {0}) Refusal
unless_missing None = Ok tt
unless_missing (Some p) = refuse reason.NoNode p

-- what reading a table gives: the refusal of the pass, or that of the first word whose node is not there
unfoldable pub and_numbers : Result Seen Refusal → List ℕ → Result (Unit {0}) Refusal
and_numbers (Ok s) words = unless_missing (position (lacks_node? s.nodes) words)
and_numbers (Err f) words = Err f

unfoldable pub read_of : Passed Seen IndexedTable → List ℕ → Result (Unit {0}) Refusal
read_of q words = and_numbers q.outcome words
