-- Algorithm: where an edge lands (document 02, card 4): the checks 17 and 18 of its successor, and what it adds to the
-- row's sum. Assumes nothing.
use Rattle.std.specs.Prelude.{ℕ, ◌*◌, ◌<◌, ◌≡◌, Bool, cond, ◌||◌, List, eqb, length, Result, Ok}
use Rattle.zone.specs.Squares.{reset_square, empty?, inside?, Tightens}
use Rattle.zone.specs.Stores.{zone_at}
use Rattle.zone.specs.declared.zones.Zone.{Zone as Square}
use Rattle.answers.specs.declared.Reason.TheVariants as reason
use Rattle.answers.specs.declared.Refusal.{Refusal}
use Rattle.answers.specs.Refusals.{refuse}
use Rattle.model.specs.Fields.{mask_of, lands_at, weight_of}
use Rattle.model.specs.declared.index.IndexedModel.{IndexedModel}
use Rattle.table.specs.Nodes.{entry_at}
use Rattle.table.specs.declared.nodes.Node.{Node as Entry}
use Rattle.table.specs.declared.nodes.IndexedTable.{IndexedTable}
use Rattle.judge.specs.Reaching.{common}

-- 18 and the sum: the edge of the word w leads to a location with the invariant i; y, its landings, is not empty; its successor has the zone z and
-- the value x, and V is `whole`
unfoldable pub landings_share : ℕ → Square → Square → Square → ℕ → ℕ → ℕ → Result ℕ Refusal
landings_share w y i z x whole p =
    cond (inside? y i)
    (cond (inside? y z) (Ok (weight_of w * x)) (refuse reason.NotInside p))
    (cond (empty? (common y i) || inside? (common y i) z) (Ok (weight_of w * whole)) (refuse reason.NotInside p))

-- with the node s of the table as its successor, named at the place p
unfoldable pub successor_share : IndexedModel → IndexedTable → Square → ℕ → ℕ → ℕ → Result ℕ Refusal
successor_share m k reach w s p =
    let N : Entry = entry_at k.nodes s in
    cond (eqb N.location (lands_at w))
    (cond (empty? reach) (Ok (weight_of w * N.value))
    (landings_share w (reset_square (mask_of w) reach) (zone_at m.zones (lands_at w)) N.zone N.value k.whole p))
    (refuse reason.WrongLocation p)

-- what it asks: the reach and the invariant that the edge lands at can be tightened, `empty` says whether the reach is, and the place is one of the words
pub record SuccessorAsked (words : List ℕ) (m : IndexedModel) (reach : Square) (empty : Bool) (w p : ℕ) : Type 0 where
  pub reached : Tightens 1 reach
  pub emptiness : empty ≡ empty? reach
  pub invariant : Tightens 1 (zone_at m.zones (lands_at w))
  pub place : p < length words
