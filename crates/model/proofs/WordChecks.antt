-- Laws of the checks on a word, by its kind. Assumes nothing.
use Prim.Native.Nat.{ℕ}
use mathlib.Core.Path.{◌≡◌}
use mathlib.Core.Bool.{true}
use borrow.Author.Tests.{ne_eqb}
use Rattle.zone.specs.Words.{kind}
use Rattle.std.proofs.Common.{Ok}
use Rattle.model.specs.Kinds.{edge, bound, number, kind_of}
use Rattle.model.specs.Grammar.{follows?}
use Rattle.model.specs.Fields.{fields?}
use Rattle.model.specs.Scan.{checked}
use Rattle.model.specs.declared.seen.Seen.{Seen}
use Rattle.model.proofs.KindLaws.{kind_is, before-bound}

-- a bound is asked for its kind and its fields alone: it has no limit, and behind an edge, where weights end, there is none
module _ (s : Seen) (w : ℕ) (e : kind w ≡ number bound) where
  pub named_bound : kind_of w ≡ bound
  named_bound = kind_is bound w e

  pub bound_passes : follows? (number s.opener) (number bound) ≡ true →
      fields? bound s.clocks s.denominator s.locations (number s.opener) w ≡ true → checked s w ≡ Ok tt
  unfolding checked
  bound_passes h f =
      let no_edge = ne_eqb (number s.opener) (number edge) (before-bound (number s.opener) h) in
      rw (named_bound, e, h, no_edge, f)
