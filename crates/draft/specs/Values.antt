-- Algorithm: the values after rounds, from the codes of the rows. There is a value for each code: those of the nodes first, and from number 64 on V,
-- which an edge that can land outside has in the sum. Assumes nothing.
use Rattle.std.specs.Prelude.{ℕ, zero, suc, ◌+◌, ◌-◌, ◌*◌, ◌≡◌, max, false, cond, List, [], ◌∷◌, eqb, ltb, get_or, set, drop, length, replicate, Option, Some, None}
use Rattle.model.specs.Fields.{weight_of}
use Rattle.model.specs.declared.index.IndexedModel.{IndexedModel}
use Rattle.drafting.specs.Words.{whole}
use Rattle.drafting.specs.Rounds.{rounded_up}
use Rattle.draft.specs.Asked.{edges_of}
use Rattle.draft.specs.declared.nodes.Node.{Node}
use Rattle.draft.specs.declared.values.Values.{Values}

-- what a code has in a sum
abbrev pub value_of : List ℕ → ℕ → ℕ
value_of vs c = get_or vs c 0

-- the values
module _ (vs : List ℕ) where
  -- the sum of edges with their codes
  unfoldable pub sum_of : List ℕ → List ℕ → ℕ
  sum_of [] cs = 0
  sum_of (w ∷ ws) [] = 0
  sum_of (w ∷ ws) (c ∷ cs) = weight_of w * value_of vs c + sum_of ws cs

  -- what is kept of the model
  module _ (m : IndexedModel) where
    -- the largest of `best` and of the rows of n actions, from number a on, that have these codes; the rows end where codes are too few for one
    unfoldable pub largest_from : ℕ → ℕ → List ℕ → ℕ → ℕ
    largest_from zero a cs best = best
    largest_from (suc n) a cs best =
        cond (eqb (get_or cs 0 0) 255) (largest_from n (suc a) (drop 1 cs) best)
        (cond (ltb (length cs) (length (edges_of m a))) best
        (largest_from n (suc a) (drop (length (edges_of m a)) cs) (max best (rounded_up (sum_of (edges_of m a) cs) m.index.denominator))))

    -- the largest of the rows of the location l that have these codes
    abbrev pub largest_at : ℕ → List ℕ → ℕ
    largest_at l cs =
        let first : ℕ = get_or m.index.actions l 0 in
        largest_from (get_or m.index.actions (l + 1) 0 - first) first cs 0

    -- the value of a node; a target keeps its own, v
    unfoldable pub value_at : Node → ℕ → ℕ
    value_at n v = cond (get_or m.index.targets n.front.location false) v (largest_at n.front.location n.rows.items)

-- what is kept of the model
module _ (m : IndexedModel) where
  -- the values us with those of the nodes, from number k on, replaced, each by what vs gives
  unfoldable pub round_from : List ℕ → List Node → ℕ → List ℕ → List ℕ
  round_from vs [] k us = us
  round_from vs (n ∷ ns) k us = round_from vs ns (suc k) (set us k (value_at vs m n (get_or vs k 0)))

  abbrev pub round_of : List Node → List ℕ → List ℕ
  round_of nodes vs = round_from vs nodes 0 vs

  -- n rounds
  unfoldable pub rounds_of : List Node → ℕ → List ℕ → List ℕ
  rounds_of nodes zero vs = vs
  rounds_of nodes (suc n) vs = rounds_of nodes n (round_of nodes vs)

  -- every value begins at V
  unfoldable pub values_of : List Node → ℕ → List ℕ
  values_of nodes n = rounds_of nodes n (replicate 256 whole)

-- the values after a round, or none where it leaves the values vs as they are
abbrev pub Rounded : Option Values → List ℕ → List ℕ → Type 0
Rounded None vs after = after ≡ vs
Rounded (Some r) vs after = r.list ≡ after
