-- By the clock. Shifted left by one, a mask has the bit of clock i at i, and 0 at clock 0.
use Rattle.std.proofs.Common.{◌≡◌, refl, ℕ, zero, suc, ◌<◌, arith}
use Rattle.std.proofs.lemmas.Bool.Decides.{nat_tests}
use Rattle.zone.specs.Moves.{masked?}
use Rattle.zone.proofs.zones.masked.Goals as goal

clocks : {P : Type 0} (i : ℕ) → i < 5 → (i ≡ 0 → P) → (i ≡ 1 → P) → (i ≡ 2 → P) → (i ≡ 3 → P) → (i ≡ 4 → P) → P
clocks zero h a b c d e = a refl
clocks (suc zero) h a b c d e = b refl
clocks (suc (suc zero)) h a b c d e = c refl
clocks (suc (suc (suc zero))) h a b c d e = d refl
clocks (suc (suc (suc (suc zero)))) h a b c d e = e refl
clocks (suc (suc (suc (suc (suc i))))) h a b c d e = absurd (omega arith)

pub returns : goal.returns
unfolding masked?
returns c = clocks c.args.clock c.requires (λ e. rw e (grind (arith, nat_tests))) (λ e. rw e (grind (arith, nat_tests))) (λ e. rw e (grind (arith, nat_tests))) (λ e. rw e (grind (arith, nat_tests))) (λ e. rw e (grind (arith, nat_tests)))
