-- The limits that hold while no check has failed are what the calls ask for, and hold behind the word.
use Rattle.std.proofs.Common.{sym, ◌∙◌}
use Rattle.model.specs.declared.table_kinds.TableKind.TheVariants.{Head as table_head, Node as node, Value as value, Blocked as blocked, Successor as successor, StartNode as start_node, Cut as cut}
use Rattle.table.specs.Scan.{seen_with_kind}
use Rattle.table.proofs.Limits.{limits-behind, value-node, node-room, bound-asks, blocked-asks, successor-asks}
use Rattle.table.proofs.reader.ReaderPass.take.Goals as goal

pub overflow_sub-seen : goal.overflow_sub-seen
overflow_sub-seen c = (bound-asks _ _ _ c.args.self.now.rows.fits c.requires.holds c.requires.passes (sym c.of.ensures ∙ c.in-Bound.is)).0

pub add_bound-requires : goal.add_bound-requires
add_bound-requires c = (bound-asks _ _ _ c.args.self.now.rows.fits c.requires.holds c.requires.passes (sym c.of.ensures ∙ c.in-Bound.is)).1

pub bounds-table-seen-in-Node : goal.bounds-table-seen-in-Node
bounds-table-seen-in-Node c = node-room _ _ _ c.args.self.now.rows.fits c.requires.holds c.requires.passes (sym c.of.ensures ∙ c.in-Node.is)

pub overflow_sub-seen-in-Value : goal.overflow_sub-seen-in-Value
overflow_sub-seen-in-Value c = (value-node _ _ _ c.args.self.now.rows.fits c.requires.holds c.requires.passes (sym c.of.ensures ∙ c.in-Value.is)).0

pub add_value-requires : goal.add_value-requires
add_value-requires c = (value-node _ _ _ c.args.self.now.rows.fits c.requires.holds c.requires.passes (sym c.of.ensures ∙ c.in-Value.is)).1

pub add_row-requires : goal.add_row-requires
add_row-requires c = blocked-asks _ _ _ c.args.self.now.rows.fits c.requires.holds c.requires.passes (sym c.of.ensures ∙ c.in-Blocked.is)

pub add_successor-requires : goal.add_successor-requires
add_successor-requires c = successor-asks _ _ _ c.args.self.now.rows.fits c.requires.holds c.requires.passes (sym c.of.ensures ∙ c.in-Successor.is)

pub returns-in-Head-clause-holds : goal.returns-in-Head-clause-holds
unfolding seen_with_kind
returns-in-Head-clause-holds c =
    limits-behind _ _ _ c.args.self.now.rows.fits c.requires.holds c.requires.passes table_head (sym c.of.ensures ∙ c.in-Head.is) c.add_head.ensures

pub returns-in-Node-clause-holds : goal.returns-in-Node-clause-holds
unfolding seen_with_kind
returns-in-Node-clause-holds c =
    limits-behind _ _ _ c.args.self.now.rows.fits c.requires.holds c.requires.passes node (sym c.of.ensures ∙ c.in-Node.is) c.add_node.ensures

pub returns-in-Value-clause-holds : goal.returns-in-Value-clause-holds
unfolding seen_with_kind
returns-in-Value-clause-holds c =
    limits-behind _ _ _ c.args.self.now.rows.fits c.requires.holds c.requires.passes value (sym c.of.ensures ∙ c.in-Value.is) c.add_value.ensures

pub returns-in-Blocked-clause-holds : goal.returns-in-Blocked-clause-holds
unfolding seen_with_kind
returns-in-Blocked-clause-holds c =
    limits-behind _ _ _ c.args.self.now.rows.fits c.requires.holds c.requires.passes blocked (sym c.of.ensures ∙ c.in-Blocked.is) c.add_row.ensures

pub returns-in-Successor-clause-holds : goal.returns-in-Successor-clause-holds
unfolding seen_with_kind
returns-in-Successor-clause-holds c =
    limits-behind _ _ _ c.args.self.now.rows.fits c.requires.holds c.requires.passes successor (sym c.of.ensures ∙ c.in-Successor.is) c.add_successor.ensures

pub returns-in-StartNode-clause-holds : goal.returns-in-StartNode-clause-holds
unfolding seen_with_kind
returns-in-StartNode-clause-holds c =
    limits-behind _ _ _ c.args.self.now.rows.fits c.requires.holds c.requires.passes start_node (sym c.of.ensures ∙ c.in-StartNode.is) c.add_start.ensures

pub returns-in-Cut-clause-holds : goal.returns-in-Cut-clause-holds
unfolding seen_with_kind
returns-in-Cut-clause-holds c =
    limits-behind _ _ _ c.args.self.now.rows.fits c.requires.holds c.requires.passes cut (sym c.of.ensures ∙ c.in-Cut.is) c.add_cut.ensures
