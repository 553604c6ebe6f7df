-- What a scheduler's move, and a step, comes to. Assumes nothing.
use Prim.Native.Nat.{ℕ, suc, ◌^◌}
use mathlib.Core.Path.{◌≡◌, refl}
use mathlib.Core.Bool.{true, false}
use mathlib.Core.List.{List}
use mathlib.Core.Option.{Option, none, some}
use native.Mathlib.Omega.{arith}
use lib.ListN.{get_elem?}
use Rattle.zone.proofs.Bools.{by-test}
use Rattle.model.specs.Model.{Action, Model}
use Rattle.model.specs.States.{State, location_at}
use Rattle.acceptance.specs.Choices.{later, allowed?}
use Rattle.acceptance.specs.Schedulers.{Move, stop, choose, Scheduler, per_step, edges_count, choice_count, move_count}
use Rattle.acceptance.specs.Schedulers.{at_target?, landing_count, weighted_count}

-- what holds of 0, and of what each allowed choice of an action of the present location comes to, holds of what a move comes to
pub by_move :
    (M : Model) (k : ℕ) (s : State) (rest : State → ℕ) (P : ℕ → Type 0) (m : Move) → P 0 →
    ((t a : ℕ) (A : Action) → get_elem? (location_at M s.location).actions a ≡ some A → allowed? M k s A t ≡ true →
    P (edges_count rest (later s t) A.edges)) →
    P (move_count M k s rest m)
unfolding move_count choice_count
by_move M k s rest P stop p f = p
by_move M k s rest P (choose c) p f = by (get_elem? (location_at M s.location).actions c.action) refl
  where
    by : (o : Option Action) → get_elem? (location_at M s.location).actions c.action ≡ o → P (choice_count M k s rest c.delay o)
    by none e = p
    by (some A) e = by-test P (allowed? M k s A c.delay) _ _ (λ y. f c.delay c.action A e y) (λ n. p)

-- the same of a count for one step more, whatever list of states the scheduler sees
pub by-step :
    (M : Model) (k : ℕ) (σ : Scheduler) (n : ℕ) (before : List State) (s : State) (P : ℕ → Type 0) →
    (at_target? M s ≡ true → P (per_step M ^ suc n)) → P 0 →
    (at_target? M s ≡ false → (history : List State) (t a : ℕ) (A : Action) → get_elem? (location_at M s.location).actions a ≡ some A →
    allowed? M k s A t ≡ true → P (edges_count (landing_count M k (per_step M ^ n) (weighted_count M k σ n history)) (later s t) A.edges)) →
    P (weighted_count M k σ (suc n) before s)
unfolding weighted_count
by-step M k σ n before s P there p f = by-test P (at_target? M s) _ _ there (λ y. by_move M k s _ P _ p (f y _))

-- the cases of an option
pub some_one : {A : Type 0} {x y : A} → some x ≡ some y → x ≡ y
some_one e = cc

pub none-some : {A X : Type 0} {y : A} → none ≡ some y → X
none-some e = let z : ◌≡◌ {A = ℕ} 0 1 = cc in absurd (omega arith)
