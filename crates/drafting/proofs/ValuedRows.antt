-- The rows found, as rounds read them: the edges of the rows with successors, each with its weight, its node and whether it can land outside. The
-- edges of a row weigh D. Assumes nothing.
use Prim.Native.Nat.{ℕ, zero, suc, ◌≤◌, ◌<◌, zero-le}
use mathlib.Core.Path.{◌≡◌, refl, ap, ◌∙◌}
use mathlib.Core.Bool.{Bool, true, false}
use mathlib.Core.List.{List, [], ◌∷◌}
use native.Mathlib.Nat as N
use lib.ListN.{get_or, length}
use Rattle.model.specs.Model.{Edge, Action, Model}
use Rattle.model.specs.States.{location_at}
use Rattle.model.proofs.ZoneLaws.{All, empty, more}
use Rattle.model.proofs.WellFormed.{weigh, FormedAction, WellFormed}
use Rattle.table.specs.Table.{row_actions}
use Rattle.acceptance.specs.Acceptance.{CanLandOutside}
use Rattle.drafting.specs.Exploring.{Found, FoundRow, blocked, to_nodes, no_found, as_node}
use Rattle.drafting.proofs.Shares.{Share, Valued, no_valued}
use Rattle.drafting.proofs.RoundLaws.{weights, Weighed}
use Rattle.drafting.proofs.ExploreLaws.{rows-formed}

-- the flag tells whether the edge can land outside
abbrev pub Tells : Model → Found → Action → Edge → Bool → Type 0
Tells M F A e true = CanLandOutside M (as_node F) A e
Tells M F A e false = CanLandOutside M (as_node F) A e → ⊥

-- the edge e, which leads to the node number n
pub record ShareIs (M : Model) (F : Found) (A : Action) (e : Edge) (n : ℕ) (s : Share) : Type 0 where
  pub weight : s.weight ≡ e.weight
  pub node : s.node ≡ n
  pub outside : Tells M F A e s.outside

-- all edges of a row
pub data SharesOf (M : Model) (F : Found) (A : Action) : List Edge → List ℕ → List Share → Type 0 where
  no_edge : SharesOf M F A [] [] []
  next_edge : {e : Edge} {n : ℕ} {s : Share} {es : List Edge} {ns : List ℕ} {ss : List Share} → ShareIs M F A e n s → SharesOf M F A es ns ss →
      SharesOf M F A (e ∷ es) (n ∷ ns) (s ∷ ss)

-- the rows with successors
pub data ShareRows (M : Model) (F : Found) : List Action → List FoundRow → List (List Share) → Type 0 where
  no_row : ShareRows M F [] [] []
  pass_blocked : {A : Action} {As : List Action} {rs : List FoundRow} {sss : List (List Share)} → ShareRows M F As rs sss →
      ShareRows M F (A ∷ As) (blocked ∷ rs) sss
  next_row : {A : Action} {ns : List ℕ} {ss : List Share} {As : List Action} {rs : List FoundRow} {sss : List (List Share)} →
      SharesOf M F A A.edges ns ss → ShareRows M F As rs sss → ShareRows M F (A ∷ As) (to_nodes ns ∷ rs) (ss ∷ sss)

-- a node
pub record ValuedIs (M : Model) (F : Found) (rs : List FoundRow) (q : Valued) : Type 0 where
  pub target : q.target ≡ (location_at M F.location).target
  pub rows : ShareRows M F (row_actions (location_at M F.location)) rs q.rows

-- all nodes
pub data ValuedAll (M : Model) : List Found → List (List FoundRow) → List Valued → Type 0 where
  no_node : ValuedAll M [] [] []
  next_node : {F : Found} {rs : List FoundRow} {q : Valued} {Fs : List Found} {rows : List (List FoundRow)} {qs : List Valued} → ValuedIs M F rs q →
      ValuedAll M Fs rows qs → ValuedAll M (F ∷ Fs) (rs ∷ rows) (q ∷ qs)

pub valued-length : {M : Model} {Fs : List Found} {rows : List (List FoundRow)} {qs : List Valued} → ValuedAll M Fs rows qs → length qs ≡ length Fs
valued-length no_node = refl
valued-length (next_node h hs) = ap suc (valued-length hs)

pub valued-at : {M : Model} {Fs : List Found} {rows : List (List FoundRow)} {qs : List Valued} → ValuedAll M Fs rows qs → (n : ℕ) → n < length Fs →
    ValuedIs M (get_or Fs n no_found) (get_or rows n []) (get_or qs n no_valued)
valued-at no_node n l = absurd (N.not-suc-le-zero l)
valued-at (next_node h hs) zero l = h
valued-at (next_node h hs) (suc n) l = valued-at hs n (N.le_of_suc-le-suc l)

-- ---- they weigh D
shares-weigh : {M : Model} {F : Found} {A : Action} {es : List Edge} {ns : List ℕ} {ss : List Share} → SharesOf M F A es ns ss → weights ss ≡ weigh es
unfolding weights weigh
shares-weigh no_edge = refl
shares-weigh (next_edge h hs) = rw (h.weight, shares-weigh hs)

rows-weigh : {M : Model} {F : Found} {As : List Action} {rs : List FoundRow} {sss : List (List Share)} → All (FormedAction M) As →
    ShareRows M F As rs sss → (r : ℕ) → weights (get_or sss r []) ≤ M.denominator
unfolding weights
rows-weigh empty no_row r = zero-le
rows-weigh (more f fs) (pass_blocked h) r = rows-weigh fs h r
rows-weigh (more f fs) (next_row s h) zero = N.le_of_eq (shares-weigh s ∙ f.weights)
rows-weigh (more f fs) (next_row s h) (suc r) = rows-weigh fs h r

all-weigh : {M : Model} {Fs : List Found} {rows : List (List FoundRow)} {qs : List Valued} → WellFormed M → ValuedAll M Fs rows qs → (n r : ℕ) →
    weights (get_or (get_or qs n no_valued).rows r []) ≤ M.denominator
unfolding weights
all-weigh formed no_node n r = zero-le
all-weigh formed (next_node {F} h hs) zero r = rows-weigh (rows-formed formed F.location) h.rows r
all-weigh formed (next_node h hs) (suc n) r = all-weigh formed hs n r

pub weighed : {M : Model} {Fs : List Found} {rows : List (List FoundRow)} {qs : List Valued} → WellFormed M → ValuedAll M Fs rows qs →
    Weighed M.denominator qs
weighed formed h = record { positive = formed.positive; rows = all-weigh formed h }
