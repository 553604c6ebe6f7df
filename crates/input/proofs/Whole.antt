-- What is said of what was read is said of the whole input: nothing is left, or it is too long already. Assumes nothing.
use Rattle.std.proofs.Common.{◌≡◌, ℕ, ◌+◌, ◌<◌, ◌≤◌, ◌⊎◌, List, ◌++◌, length, Option, Some, None, refl, ap, ◌∙◌, inl, inr, append-nil, length-append, arith}
use Rattle.std.proofs.lemmas.Bool.{cases_lt}
use Rattle.std.specs.Io.KnownBytes.{Consumes, IsAtEnd}
use Rattle.input.specs.Answering.{OfWhole}

-- `Says` does not tell inputs of `most` bytes or more apart
module _ (Says : List ℕ → Option (List ℕ) → Option (List ℕ) → Type 0) (most : ℕ)
    (longer : (xs ys : List ℕ) (before after : Option (List ℕ)) → most ≤ length xs → most ≤ length ys → Says xs before after → Says ys before after) where
  pub whole : (input left before after : Option (List ℕ)) (bytes : List ℕ) → Consumes input left bytes → (length bytes < most → IsAtEnd left) →
      Says bytes before after → OfWhole Says input before after
  whole None left before after bytes c e s = record { bytes = bytes; whole = tt; says = s }
  whole (Some xs) None before after bytes c e s = absurd c
  whole (Some xs) (Some ys) before after bytes c e s = by (cases_lt (length bytes) most)
    where
      by : (length bytes < most) ⊎ (most ≤ length bytes) → OfWhole Says (Some xs) before after
      by (inl l) = record { bytes = bytes; whole = c ∙ ap (λ zs. bytes ++ zs) (e l) ∙ append-nil bytes; says = s }
      by (inr g) =
          let more : length xs ≡ length bytes + length ys = ap length c ∙ length-append bytes ys in
          record { bytes = xs; whole = refl; says = longer bytes xs before after g (omega arith) s }
