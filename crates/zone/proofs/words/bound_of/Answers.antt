-- The key that the code works out, from the field of d and the bit of strictness.
use Rattle.std.proofs.Common.{◌≡◌, ap, ◌∙◌, ℕ, ◌<◌, Bool, true, false, not, pos, ◌+ℤ◌, ◌-ℤ◌, to_z, of_z, w32, arith}
use Rattle.std.proofs.lemmas.Int.{ints}
use mir.Val.{bool_byte}
use Rattle.zone.specs.Keys.{key_of}
use Rattle.zone.specs.Words.{bound_of}
use Rattle.zone.proofs.words.bound_of.Goals as goal

keyed : (m : ℕ) → m < 8192 → (strict : Bool) →
    to_z w32 (of_z w32 (to_z w32 (of_z w32 (to_z w32 (of_z w32 (to_z w32 m -ℤ pos 4096)) +ℤ to_z w32 (of_z w32 (to_z w32 m -ℤ pos 4096)))) +ℤ to_z w32 (bool_byte (not strict)))) ≡
    key_of (pos m -ℤ pos 4096) strict
keyed m h true = omega (arith, ints)
keyed m h false = omega (arith, ints)

pub returns : goal.returns
unfolding bound_of
returns c =
    let small : c.bits.result < 8192 = omega (arith, c.bits.ensures) in
    ap (λ k. record { key = k }) (keyed c.bits.result small _) ∙ rw (c.bits.ensures, c.bits-strict.ensures)
