-- What a wrong definition of the weighted count or of the certified fraction would break: a count is at most D to the power n, the certified
-- fraction at most 1, the count for no steps 1 at a target and 0 elsewhere; what document 01's timeline comes to, also where edges land outside; and
-- what a scheduler sees. Assumes nothing.
use Prim.Native.Nat.{ℕ, zero, suc, ◌*◌, ◌^◌, ◌≤◌, zero-le}
use mathlib.Core.Path.{◌≡◌, refl}
use mathlib.Core.Bool.{Bool, true, false, cond, ◌&&◌}
use mathlib.Core.List.{List, [], ◌∷◌, ◌++◌, reverse}
use mathlib.Core.Option.{some}
use native.Mathlib.Nat.{le_refl, le_trans, le_of_eq, mul-le-mul_left, add-le-add, add-mul, pow-zero, pow-succ'}
use lib.Dec.{eqb, leb, lit≤}
use lib.ListN.{length, get_or, get_elem?, set}
use Rattle.zone.proofs.Bools.{by-test}
use Rattle.zone.specs.Scale.{read, holds?, in?, within}
use Rattle.zone.specs.Moves.{delayed, masked?, reset}
use Rattle.zone.specs.Words.{bound_of}
use Rattle.model.specs.Kinds.{among, kind_of}
use Rattle.model.specs.Model.{Edge, Action, Model, parts_with, parts_of, model_of}
use Rattle.model.specs.States.{State, location_at, IsStart}
use Rattle.model.proofs.ZoneLaws.{All, more}
use Rattle.model.proofs.WellFormed.{weigh, WellFormed}
use Rattle.table.specs.Table.{Table}
use Rattle.acceptance.specs.Choices.{later, landing, invariant?, throughout?, allowed?}
use Rattle.acceptance.specs.Schedulers.{stop, choose, Scheduler, per_step, edges_count, choice_count, move_count}
use Rattle.acceptance.specs.Schedulers.{at_target?, landing_count, weighted_count}
use Rattle.acceptance.specs.Acceptance.{Accepted, certified}
use Rattle.acceptance.proofs.SchedulerLaws.{by-step, some_one, none-some}

-- ---- a weighted count is a part of D to the power n

all_there : {A : Type 0} {P : A → Type 0} (xs : List A) (i : ℕ) (x : A) → All P xs → get_elem? xs i ≡ some x → P x
all_there [] i x ps e = none-some e
all_there (y ∷ xs) zero x (more p ps) e = rw (← some_one e) p
all_there (y ∷ xs) (suc i) x (more p ps) e = all_there xs i x ps e

edges_most : (rest : State → ℕ) (u : State) (most : ℕ) → ((s : State) → rest s ≤ most) → (es : List Edge) →
    edges_count rest u es ≤ weigh es * most
unfolding edges_count weigh
edges_most rest u most h [] = zero-le
edges_most rest u most h (e ∷ es) =
    rw (add-mul e.weight (weigh es) most) (add-le-add (mul-le-mul_left e.weight (h (landing e u))) (edges_most rest u most h es))

pub count_most : (M : Model) → WellFormed M → (k : ℕ) (σ : Scheduler) (n : ℕ) (before : List State) (s : State) →
    weighted_count M k σ n before s ≤ M.denominator ^ n
unfolding per_step landing_count weighted_count
count_most M formed k σ zero before s = by-test (λ (c : ℕ). c ≤ M.denominator ^ zero) (at_target? M s) _ _ (λ y. le_refl _) (λ y. zero-le)
count_most M formed k σ (suc n) before s =
    by-step M k σ n before s (λ c. c ≤ M.denominator ^ suc n) (λ y. le_refl _) zero-le
    (λ y history t a A e z. chosen _ (landed (weighted_count M k σ n history) (count_most M formed k σ n history)) (later s t) A
    (all_there (location_at M s.location).actions a A (formed.actions s.location) e).weights)
  where
    -- outside as well
    landed : (rest : State → ℕ) → ((next : State) → rest next ≤ M.denominator ^ n) → (next : State) →
        landing_count M k (M.denominator ^ n) rest next ≤ M.denominator ^ n
    landed rest all next = by-test (λ (c : ℕ). c ≤ M.denominator ^ n) (invariant? M k next) _ _ (λ y. all next) (λ y. le_refl _)

    chosen : (rest : State → ℕ) → ((next : State) → rest next ≤ M.denominator ^ n) → (u : State) (A : Action) →
        weigh A.edges ≡ M.denominator → edges_count rest u A.edges ≤ M.denominator ^ suc n
    chosen rest all u A w = le_trans (edges_most rest u (M.denominator ^ n) all A.edges) (le_of_eq (rw (w, pow-succ')))

-- ---- the certified fraction is at most 1

pub certified-most : (M : Model) (W : Table) → Accepted M W → certified W ≤ W.whole
unfolding certified
certified-most M W ok = (ok.nodes W.start ok.start.exists).value

-- ---- no steps: a target counts 1, another state 0. Both are for who reads the definition, and no other line uses them

pub count-zero-target : (M : Model) (k : ℕ) (σ : Scheduler) (before : List State) (s : State) →
    (location_at M s.location).target ≡ true → weighted_count M k σ 0 before s ≡ 1
unfolding at_target? weighted_count
count-zero-target M k σ before s e = rw e (pow-zero (per_step M))

pub count-zero-elsewhere : (M : Model) (k : ℕ) (σ : Scheduler) (before : List State) (s : State) →
    (location_at M s.location).target ≡ false → weighted_count M k σ 0 before s ≡ 0
unfolding at_target? weighted_count
count-zero-elsewhere M k σ before s e = rw e

-- ---- document 01's timeline at scale 3: from the start state, a scheduler that waits two units attains 1 of 10 in a step and 10 of 100 in two;
-- before two units the guard does not hold, and after three the invariant does not

abbrev pub timeline : List ℕ
timeline =
    0x1110000A ∷ 0x20000000 ∷ 0x51001003 ∷ 0x30000000 ∷ 0x50100FFE ∷ 0x40010009 ∷ 0x40020001 ∷ 0x20000000 ∷ 0x20000001 ∷ 0x60000000 ∷
    0x51001000 ∷ []

abbrev pub waits : ℕ → Scheduler
waits t history = choose (record { delay = t; action = 0 })

abbrev pub initial : State
initial = record { location = 0; valuation = λ i. 0 }

-- the timeline with its target at the other end of the action: there the edge of weight 9 counts
abbrev pub other_timeline : List ℕ
other_timeline = set (set timeline 7 0x20000001) 8 0x20000000

abbrev pub attains : List ℕ → ℕ → ℕ → ℕ
attains words t n = weighted_count (model_of words) 3 (waits t) n [] initial

-- it is a start state, so demand 3 bounds these counts: for the reader, as `start-starts` below; no other line uses them
pub initial-starts : IsStart (model_of timeline) 3 initial
unfolding among kind_of bound_of parts_with parts_of model_of location_at read holds? in? within
initial-starts = record { location = refl; state = record { exists = lit≤ tt; invariant = tt }; bounds = tt }

pub attained :
    (attains timeline 6 1 ≡ 1) × (attains timeline 6 2 ≡ 10) × (attains timeline 9 1 ≡ 1) × (attains timeline 5 1 ≡ 0) ×
    (attains timeline 10 1 ≡ 0) × (attains other_timeline 6 1 ≡ 9)
unfolding
    among kind_of bound_of parts_with parts_of model_of location_at read holds? in? delayed masked? reset
    later landing invariant? throughout? allowed? per_step edges_count choice_count move_count at_target? landing_count weighted_count
attained = (refl, refl, refl, refl, refl, refl)

-- ---- document 02, card 4: the timeline with the invariant "clock at most 2" at location 1. After two units the edge of weight 9 lands inside and
-- that of weight 1 at the target; later, up to three units, the first lands outside, and both weights count. The guard and the invariant of
-- location 0 still limit the choice

abbrev pub closing : List ℕ
closing =
    0x1110000A ∷ 0x20000000 ∷ 0x51001003 ∷ 0x30000000 ∷ 0x50100FFE ∷ 0x40010009 ∷ 0x40020001 ∷ 0x20000000 ∷ 0x51001002 ∷ 0x20000001 ∷
    0x60000000 ∷ 0x51001000 ∷ []

-- the target is location 1, with that invariant; location 2, without one, is none
abbrev pub closing_target : List ℕ
closing_target = set (set closing 7 0x20000001) 9 0x20000000

-- one edge lands inside and one outside in one choice: location 1 has no invariant, location 2 has that one, and neither is a target
abbrev pub closing_other : List ℕ
closing_other =
    0x1110000A ∷ 0x20000000 ∷ 0x51001003 ∷ 0x30000000 ∷ 0x50100FFE ∷ 0x40010007 ∷ 0x40020003 ∷ 0x20000000 ∷ 0x20000000 ∷ 0x51001002 ∷
    0x60000000 ∷ 0x51001000 ∷ []

pub attained-outside :
    (attains closing 6 1 ≡ 1) × (attains closing 6 2 ≡ 10) × (attains closing 7 1 ≡ 10) × (attains closing 7 2 ≡ 100) ×
    (attains closing 9 3 ≡ 1000) × (attains closing 5 2 ≡ 0) × (attains closing 10 2 ≡ 0) × (attains closing_target 6 2 ≡ 90) ×
    (attains closing_target 7 2 ≡ 90) × (attains closing_other 6 2 ≡ 0) × (attains closing_other 7 0 ≡ 0) × (attains closing_other 7 1 ≡ 3) ×
    (attains closing_other 7 2 ≡ 30) × (attains closing_other 9 3 ≡ 300)
unfolding
    among kind_of bound_of parts_with parts_of model_of location_at read holds? in? delayed masked? reset
    later landing invariant? throughout? allowed? per_step edges_count choice_count move_count at_target? landing_count weighted_count
attained-outside = (refl, refl, refl, refl, refl, refl, refl, refl, refl, refl, refl, refl, refl, refl)

-- ---- what a scheduler sees: every state so far, in their order, the present one last

-- for every list: the scheduler is shown the list with the present state at its end, and so it is where the count goes on
pub count-step : (M : Model) (k : ℕ) (σ : Scheduler) (n : ℕ) (before : List State) (s : State) → at_target? M s ≡ false →
    weighted_count M k σ (suc n) before s ≡
    move_count M k s (landing_count M k (per_step M ^ n) (weighted_count M k σ n (before ++ (s ∷ [])))) (σ (before ++ (s ∷ [])))
unfolding weighted_count
count-step M k σ n before s e = rw e

-- the same by numbers. Two locations, two clocks: from either location a weight of 2 of 3 reaches the target, and a weight of 1 leads to the other
-- location; on the way from location 0 clock 1 is set to 0
abbrev pub returning : List ℕ
returning =
    0x11200003 ∷ 0x20000000 ∷ 0x30000000 ∷ 0x40110001 ∷ 0x40020002 ∷ 0x20000000 ∷ 0x30000000 ∷ 0x40000001 ∷ 0x40020002 ∷ 0x20000001 ∷
    0x60000000 ∷ 0x51001000 ∷ 0x52001000 ∷ []

abbrev pub state_at : ℕ → ℕ → ℕ → State
state_at l x y = record { location = l; valuation = λ i. cond (eqb i 1) x y }

-- the states that are passed with a wait of one in each, unless the target is reached
abbrev pub passed : List State
passed = state_at 0 0 0 ∷ state_at 1 0 1 ∷ state_at 0 1 2 ∷ state_at 1 0 3 ∷ state_at 0 1 4 ∷ []

-- waits one and takes the action where a test of the list holds, and stops elsewhere
abbrev pub watches : (List State → Bool) → Scheduler
watches test? history = cond (test? history) (choose (record { delay = 1; action = 0 })) stop

-- for n steps at scale 2, behind some states
abbrev pub watched : (List State → Bool) → ℕ → List State → State → ℕ
watched test? n before s = weighted_count (model_of returning) 2 (watches test?) n before s

-- for five steps from the start state. The first step counts 2 × 81 = 162, and those behind it 54, 18, 6 and 2 more
abbrev pub seen : (List State → Bool) → ℕ
seen test? = watched test? 5 [] (state_at 0 0 0)

-- the same location, and both clocks alike
abbrev pub same? : State → State → Bool
same? s t = eqb s.location t.location && eqb (s.valuation 1) (t.valuation 1) && eqb (s.valuation 2) (t.valuation 2)

-- the list is a beginning of another
unfoldable pub begins? : List State → List State → Bool
begins? ts [] = true
begins? [] (s ∷ ss) = false
begins? (t ∷ ts) (s ∷ ss) = same? s t && begins? ts ss

-- its first state is the start state
abbrev pub started? : List State → Bool
started? history = same? (get_or history 0 (state_at 9 9 9)) (state_at 0 0 0)

-- the state that all this is counted from is a start state, so demand 3 bounds these counts too
pub start-starts : IsStart (model_of returning) 2 (state_at 0 0 0)
unfolding among kind_of bound_of parts_with parts_of model_of location_at read holds? in? within
start-starts = record { location = refl; state = record { exists = lit≤ tt; invariant = tt }; bounds = tt }

-- its length: at most 0, 1, .. or 5 states
abbrev pub Lengths : Type 0
Lengths =
    (seen (λ h. leb (length h) 0) ≡ 0) × (seen (λ h. leb (length h) 1) ≡ 162) × (seen (λ h. leb (length h) 2) ≡ 216) ×
    (seen (λ h. leb (length h) 3) ≡ 234) × (seen (λ h. leb (length h) 4) ≡ 240) × (seen (λ h. leb (length h) 5) ≡ 242)

-- an earlier state: with the start state before it, the second state has four steps more, and without it none
abbrev pub Earlier : Type 0
Earlier =
    (seen started? ≡ 242) × (watched started? 4 (state_at 0 0 0 ∷ []) (state_at 1 0 1) ≡ 80) × (watched started? 4 [] (state_at 1 0 1) ≡ 0)

-- all states, with their locations and clocks, in their order, and not the other way round
abbrev pub Order : Type 0
Order = (seen (begins? passed) ≡ 242) × (seen (λ h. begins? passed (reverse h)) ≡ 162)

pub sees : Lengths × Earlier × Order
unfolding
    among kind_of bound_of parts_with parts_of model_of location_at read holds? in? delayed masked? reset
    later landing invariant? throughout? allowed? per_step edges_count choice_count move_count at_target? landing_count weighted_count begins?
sees = ((refl, refl, refl, refl, refl, refl), (refl, refl, refl), (refl, refl))
