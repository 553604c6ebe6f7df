-- Document 01, "The four calls and their refusals": checks in an order, and the answer that they lead to. Assumes nothing.
use Rattle.std.specs.Prelude.{ℕ, ◌≡◌, ◌⊎◌, Bool, List, [], ◌∷◌, T}

-- a refusal is a number and a place with nothing else
pub data Answer (A : Type 0) : Type 0 where
  refused : ℕ → ℕ → Answer A
  accepted : A → Answer A

-- a refusal's number and place, and what must hold for it not to be given
pub record Check : Type 1 where
  pub number : ℕ
  pub place : ℕ
  pub holds : Type 0

abbrev pub check : ℕ → ℕ → Type 0 → Check
check n p h = record { number = n; place = p; holds = h }

-- a check that computes
abbrev pub test : ℕ → ℕ → Bool → Check
test n p b = check n p (T b)

-- an acceptance whose value satisfies P
abbrev pub Accepts : {A : Type 0} → (A → Type 0) → Answer A → Type 0
Accepts P (refused n p) = ⊥
Accepts P (accepted a) = P a

-- the answer is the refusal of the first check that does not hold or, where all hold, an acceptance whose value satisfies P
abbrev pub First : {A : Type 0} → List Check → (A → Type 0) → Answer A → Type 0
First [] P answer = Accepts P answer
First (c ∷ cs) P answer = (c.holds × First cs P answer) ⊎ ((c.holds → ⊥) × (answer ≡ refused c.number c.place))
