-- What `map_err` hands on. Assumes nothing.
use Rattle.std.proofs.Common.{◌≡◌, refl, Result, Ok, Err}
use Rattle.std.specs.Result.{MatchResult, IsErrAnd}

module _ {T E D : Type 0} (Q : E → D → Type 0) (r : Result T E) (s : Result T D) (m : MatchResult r (λ x. s ≡ Ok x) (λ e. IsErrAnd s (Q e))) where
  -- a value is as it was
  pub mapped-ok : {x : T} → s ≡ Ok x → r ≡ Ok x
  mapped-ok {x} f = by r s m f
    where
      by : (r : Result T E) (s : Result T D) → MatchResult r (λ x. s ≡ Ok x) (λ e. IsErrAnd s (Q e)) → s ≡ Ok x → r ≡ Ok x
      by (Ok y) s m f = cc
      by (Err y) (Ok z) m f = absurd m
      by (Err y) (Err z) m f = absurd (cc)

  -- an error is what the closure makes of the one before
  pub mapped-err : (d : D) → s ≡ Err d → {P : Type 0} → ((e : E) → r ≡ Err e → Q e d → P) → P
  mapped-err d f {P} then = by r s m f then
    where
      by : (r : Result T E) (s : Result T D) → MatchResult r (λ x. s ≡ Ok x) (λ e. IsErrAnd s (Q e)) → s ≡ Err d →
          ((e : E) → r ≡ Err e → Q e d → P) → P
      by (Ok x) s m f then = absurd (cc)
      by (Err x) (Ok y) m f then = absurd m
      by (Err x) (Err y) m f then = let g : y ≡ d = cc in then x refl (rw g at m)
