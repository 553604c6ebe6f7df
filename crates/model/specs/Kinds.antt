-- Document 01, "Words": the kinds of a model's words. Assumes nothing.
use Rattle.std.specs.Prelude.{ℕ, Bool, cond, List, [], ◌∷◌, eqb}
use Rattle.zone.specs.Words.{kind}
-- `none` stands before the first word, and for a kind that is not a model's
pub use Rattle.model.specs.declared.kinds.Kind.{Kind}
pub use Rattle.model.specs.declared.kinds.Kind.TheVariants.{None as none, Head as head, Location as location, Action as action, Edge as edge, Bound as bound, Start as start}

-- the number of a kind
abbrev pub number : Kind → ℕ
number none = 0
number head = 1
number location = 2
number action = 3
number edge = 4
number bound = 5
number start = 6

abbrev pub kinds : List Kind
kinds = none ∷ head ∷ location ∷ action ∷ edge ∷ bound ∷ start ∷ []

-- a word of a kind
abbrev pub is : Kind → ℕ → Bool
is k w = eqb (kind w) (number k)

-- the first of these kinds, numbered so, that a word is of; or else the kind that stands for none of them
unfoldable pub among : {K : Type 0} → (K → ℕ) → K → List K → ℕ → K
among number_of other [] w = other
among number_of other (k ∷ ks) w = cond (eqb (kind w) (number_of k)) k (among number_of other ks w)

unfoldable pub kind_of : ℕ → Kind
kind_of w = among number none kinds w
