-- Algorithm: a node that is cut in two (document 02, card 1): the checks 51 to 53 of each part. Assumes nothing.
use Rattle.std.specs.Prelude.{ℕ, suc, ◌+◌, ◌≤◌, cond, ◌&&◌, ◌||◌, List, eqb, leb, ltb, get_or, length, Ok}
use Rattle.zone.specs.Squares.{empty?, inside?}
use Rattle.zone.specs.Parts.{holding_square, rest_square, CutBy}
use Rattle.zone.specs.declared.zones.Zone.{Zone as Square}
use Rattle.answers.specs.declared.Reason.TheVariants as reason
use Rattle.answers.specs.Refusals.{refuse}
use Rattle.table.specs.Fields.{number_of}
use Rattle.table.specs.Nodes.{entry_at}
use Rattle.table.specs.declared.nodes.Node.{Node as Entry}
use Rattle.table.specs.declared.nodes.IndexedTable.{IndexedTable}
use Rattle.judge.specs.Steps.{Checked, and_then}

-- 51 to 53: the part z of the node N numbered n, and its successor s, named at the place p
unfoldable pub part_checked : IndexedTable → Square → ℕ → Entry → ℕ → ℕ → Checked
part_checked k z n N s p =
    let S : Entry = entry_at k.nodes s in
    cond (ltb n s)
    (cond (eqb S.location N.location && leb S.value N.value)
    (cond (empty? z || inside? z S.zone) (Ok tt) (refuse reason.PartNotInside p))
    (refuse reason.PartMismatch p))
    (refuse reason.PartNotAbove p)

-- the cut of that node, whose word of kind D stands behind its value
unfoldable pub cut_checked : List ℕ → IndexedTable → ℕ → Entry → Checked
cut_checked words k n N =
    let at : ℕ = suc N.place in
    let w : ℕ = get_or words at 0 in
    and_then (part_checked k (holding_square w N.zone) n N (number_of (get_or words (at + 1) 0)) (at + 1)) (λ _.
    part_checked k (rest_square w N.zone) n N (number_of (get_or words (at + 2) 0)) (at + 2))

-- what it asks: the words of the cut are there
pub record CutAsked (words : List ℕ) (N : Entry) : Type 0 where
  pub there : suc N.place + 3 ≤ length words
  pub cuts : CutBy (get_or words (suc N.place) 0) N.zone
