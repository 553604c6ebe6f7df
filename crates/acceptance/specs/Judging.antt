-- Document 01, "The four calls and their refusals", and document 02, cards 1 and 4: judging a table. The model's refusals 1 to 6 come first, then
-- those of the table's words, 11 to 14, then 15 to 21 with 51 to 53 of cuts among them. Assumes nothing.
use Rattle.std.specs.Prelude.{ℕ, suc, ◌≡◌, ◌↔◌, cond, List, [], ◌∷◌, ◌++◌, length}
use Rattle.zone.specs.Scale.{Region, Empty}
use Rattle.answers.specs.Checks.{Answer, refused, accepted, Check, check, First}
use Rattle.model.specs.Model.{Edge, Action, Location, Model, model_of}
use Rattle.model.specs.States.{location_at}
use Rattle.model.specs.Reading.{model_checks, counts_of, ReadModel}
use Rattle.table.specs.Table.{Successor, Row, blocked_row, successor_row, Cut, Body, rows_body, cut_body, Node, Table, table_of}
use Rattle.table.specs.Reading.{read_checks}
use Rattle.acceptance.specs.Schedulers.{BoundsEvery}
use Rattle.acceptance.specs.Acceptance.{
  Reach,
  HasLocation,
  HoldsLandings,
  SumFits,
  holding_part,
  rest_part,
  IsAbove,
  Matches,
  HoldsPart,
  HasWhole,
  HasStartLocation,
  HoldsStart,
  Accepted,
  certified,
}
use Rattle.acceptance.specs.declared.certificate.Certificate.{Certificate}

-- by successor 17: wrong location, 18: reset reach not inside, only the landings inside asked (card 4; each at its B word). `table_of` gives a
-- successor for each edge and, below, a row for each action, so neither list ends before the other
unfoldable pub successor_checks : Model → Table → Node → Action → List Edge → List Successor → List Check
successor_checks M W N A [] ss = []
successor_checks M W N A (e ∷ es) [] = []
successor_checks M W N A (e ∷ es) (s ∷ ss) =
    check 17 s.place (HasLocation W e s) ∷
    check 18 s.place (HoldsLandings M W N A e s) ∷
    successor_checks M W N A es ss

-- 16: not blocked (the A word); or by successor, then 19: sum too large (the row's first B)
unfoldable pub row_checks : Model → Table → Node → Action → Row → List Check
row_checks M W N A (blocked_row p) = check 16 p (Empty (Reach M N A)) ∷ []
row_checks M W N A (successor_row p ss) =
    successor_checks M W N A A.edges ss ++ (check 19 p (SumFits M W N A ss) ∷ [])

-- row by row
unfoldable pub rows_checks : Model → Table → Node → List Action → List Row → List Check
rows_checks M W N [] rs = []
rows_checks M W N (A ∷ As) [] = []
rows_checks M W N (A ∷ As) (r ∷ rs) = row_checks M W N A r ++ rows_checks M W N As rs

-- 51: number not above, 52: location differs or value larger, 53: part not inside (each at its B word); n is the node's own number
unfoldable pub part_checks : Table → ℕ → Node → Region → Successor → List Check
part_checks W n N P s =
    check 51 s.place (IsAbove n s) ∷
    check 52 s.place (Matches W N s) ∷
    check 53 s.place (HoldsPart W P s) ∷ []

-- per B word of a cut
unfoldable pub cut_checks : Table → ℕ → Node → Cut → List Check
cut_checks W n N c = part_checks W n N (holding_part N c.bound) c.holding ++ part_checks W n N (rest_part N c.bound) c.rest

-- row by row, or in place of the row checks those of a cut
unfoldable pub body_checks : Model → Table → ℕ → Node → List Action → Body → List Check
body_checks M W n N As (rows_body rs) = rows_checks M W N As rs
body_checks M W n N As (cut_body c) = cut_checks W n N c

-- the node numbered n: at a target 15: value not V (its 9 word); at another its rows or its cut
unfoldable pub node_checks : Model → Table → ℕ → Node → List Check
node_checks M W n N =
    let L : Location = location_at M N.location in
    cond L.target (check 15 N.place (HasWhole W N) ∷ []) (body_checks M W n N L.actions N.body)

-- node by node, the first numbered n
unfoldable pub nodes_checks : Model → Table → ℕ → List Node → List Check
nodes_checks M W n [] = []
nodes_checks M W n (N ∷ Ns) = node_checks M W n N ++ nodes_checks M W (suc n) Ns

-- last, at the C word, 20: wrong start location, 21: start valuations not inside
unfoldable pub start_checks : Model → Table → List Check
start_checks M W =
    check 20 W.place (HasStartLocation M W) ∷
    check 21 W.place (HoldsStart M W) ∷ []

unfoldable pub table_checks : Model → Table → List Check
table_checks M W = nodes_checks M W 0 W.nodes ++ start_checks M W

-- ---- the call

-- judging gives the model's refusal first, if any
unfoldable pub judge_checks : List ℕ → List ℕ → List Check
judge_checks model table =
    let M : Model = model_of model in
    model_checks model ++ (read_checks M table ++ table_checks M (table_of M table))

-- acceptance gives b, V and the node count
unfoldable pub certificate_of : Table → Certificate
certificate_of W = record { b = certified W; whole = W.whole; nodes = length W.nodes }

-- the answer is the refusal of the first check that does not hold or, where all hold, the acceptance
pub record Judged (model table : List ℕ) (answer : Answer Certificate) : Type 0 where
  pub says : First (judge_checks model table) (λ c. c ≡ certificate_of (table_of (model_of model) table)) answer

-- what an acceptance certifies: both files are read, the table is accepted for the model, and c has its b, V and node count
pub record Certifies (model table : List ℕ) (c : Certificate) : Type 0 where
  pub model_reads : ReadModel model (accepted (counts_of model))
  pub table_reads : First (read_checks (model_of model) table) (λ (_ : Unit {0}). Unit {0}) (accepted tt)
  pub accepts : Accepted (model_of model) (table_of (model_of model) table)
  pub values : c ≡ certificate_of (table_of (model_of model) table)

-- demand 2 for an answer: it accepts exactly the tables that "When a table is accepted" accepts, with their values
pub record Exactly (model table : List ℕ) (answer : Answer Certificate) : Type 0 where
  pub when : (c : Certificate) → (answer ≡ accepted c) ↔ Certifies model table c

-- demand 3 for an answer: what an acceptance certifies bounds every scheduler of the model
abbrev pub BoundsSchedulers : List ℕ → Answer Certificate → Type 0
BoundsSchedulers model (refused n p) = Unit {0}
BoundsSchedulers model (accepted c) = BoundsEvery (model_of model) c.b c.whole
