-- Which nodes have zones within their invariants by their bounds: the flags as the code sets them, one by one, and what a flag that is set tells of
-- landings. Assumes nothing.
use Prim.Native.Nat.{ℕ, ◌+◌, ◌≤◌, ◌<◌}
use mathlib.Core.Path.{◌≡◌, sym, ap, ◌∙◌}
use mathlib.Core.Logic.{◌⊎◌, inl, inr}
use mathlib.Core.Bool.{Bool, true, false, not, ◌&&◌}
use mathlib.Core.List.{List}
use native.Mathlib.Nat.{eq-or-lt_of_le}
use native.Mathlib.Omega.{arith}
use borrow.Author.Tests.{lt-ltb, le-ltb, ltb-true, not-true}
use lib.Dec.{ltb}
use lib.ListN.{get_or, set, length, length-set, replicate, length-replicate, take, length-take}
use Rattle.std.proofs.Common.{get_or-take}
use lib.Seq.{get_or-set_same, get_or-set_other}
use Rattle.zone.specs.Cells.{tighter?, past_end}
use Rattle.zone.specs.Squares.{inside?}
use Rattle.zone.proofs.Bools.{left_true, right_true}
use Rattle.zone.proofs.Limits.{bounds}
use Rattle.zone.proofs.KeyLaws.{limit_of, as_tight_tighter}
use Rattle.zone.proofs.Integers.{lt-or-ge}
use Rattle.zone.proofs.Loops.{same_at, all_pass, all-at}
use Rattle.zone.specs.Stores.{zone_at}
use Rattle.table.specs.Nodes.{entry_at}
use Rattle.judge.specs.Reaching.{contained?, Contained}
use Rattle.table.specs.declared.nodes.Node.{Node as Entry}
use Rattle.zone.specs.declared.zones.Zone.{Zone as Square}

module _ (zs : List Square) (ns : List Entry) where
  -- the flags of the first n nodes are set, and no others
  pub record FlagsBelow (n : ℕ) (flags : List Bool) : Type 0 where
    pub size : length flags ≡ 64
    pub at : (s : ℕ) → get_or flags s false ≡ (ltb s n && contained? zs (entry_at ns s))

  pub no_flags : (flags : List Bool) → flags ≡ replicate 64 false → FlagsBelow 0 flags
  no_flags flags e = rw e (record { size = length-replicate {A = Bool} 64 false; at = λ s. rw (le-ltb s 0 (omega arith)) (same_at 64 s false) })

  module _ (few : length ns ≤ 64) {n : ℕ} {flags : List Bool} (i : FlagsBelow n flags) where
    -- the next node's is set
    pub flag_set : {b : Bool} → n < length ns → b ≡ contained? zs (entry_at ns n) → FlagsBelow (n + 1) (set flags n b)
    flag_set {b} h e = record { size = length-set flags n b ∙ i.size; at = λ s. by s (lt-or-ge s n) }
      where
        here : get_or (set flags n b) n false ≡ contained? zs (entry_at ns n)
        here = get_or-set_same flags n b false (omega (arith, i.size)) ∙ e

        there : (s : ℕ) → (s ≡ n → ⊥) → get_or (set flags n b) s false ≡ (ltb s n && contained? zs (entry_at ns s))
        there s un = get_or-set_other flags n s b false un ∙ i.at s

        by : (s : ℕ) → (s < n) ⊎ (n ≤ s) → get_or (set flags n b) s false ≡ (ltb s (n + 1) && contained? zs (entry_at ns s))
        by s (inl m) = rw (lt-ltb s (n + 1) (omega arith)) (rw (lt-ltb s n m) at (there s (λ q. omega arith)))
        by s (inr m) = last (eq-or-lt_of_le m)
          where
            last : (n ≡ s) ⊎ (n < s) → get_or (set flags n b) s false ≡ (ltb s (n + 1) && contained? zs (entry_at ns s))
            last (inl q) = rw (← q, lt-ltb n (n + 1) (omega arith)) here
            last (inr l) = rw (le-ltb s (n + 1) (omega arith)) (rw (le-ltb s n (omega arith)) at (there s (λ q. omega arith)))

    -- then all are
    pub flags_end : n ≤ length ns → length ns ≤ n → Contained zs ns flags
    flags_end l h = let e : n ≡ length ns = omega arith in record { at = λ s. rw (← e) (i.at s) }

-- cell by cell, what lies within the second of two tables lies within a third that the second lies within
pub inside-onward : (x y z : Square) → inside? x y ≡ true → inside? y z ≡ true → inside? x z ≡ true
unfolding inside?
inside-onward x y z a b =
    all_pass 25 (λ p. not (tighter? (get_or z.cells p past_end) (get_or x.cells p past_end))) (λ p h.
    ap not ((as_tight_tighter (get_or x.cells p past_end) (get_or z.cells p past_end)).1
    (bounds.⊑_trans (step x y a p h) (step y z b p h))))
  where
    step : (v w : Square) → inside? v w ≡ true → (p : ℕ) → p < 25 →
        bounds.◌⊑◌ (limit_of (get_or v.cells p past_end)) (limit_of (get_or w.cells p past_end))
    step v w e p h =
        (as_tight_tighter (get_or v.cells p past_end) (get_or w.cells p past_end)).0
        (not-true _ (all-at 25 (λ p. not (tighter? (get_or w.cells p past_end) (get_or v.cells p past_end))) e p h))

-- what lands in the zone of a node whose flag is set lands within the invariant of its location
pub contained_within : (zs : List Square) (count : ℕ) (ns : List Entry) (flags : List Bool) (y : Square) (s : ℕ) → Contained zs (take count ns) flags →
    get_or flags s false ≡ true → inside? y (entry_at ns s).zone ≡ true → inside? y (zone_at zs (entry_at ns s).location) ≡ true
contained_within zs count ns flags y s c e h =
    let set = sym (c.at s) ∙ e in
    let l : s < count = omega (arith, length-take count ns, ltb-true s (length (take count ns)) (left_true (ltb s (length (take count ns))) _ set)) in
    inside-onward y (entry_at ns s).zone (zone_at zs (entry_at ns s).location) h
    (rw get_or-take at (right_true (ltb s (length (take count ns))) (contained? zs (entry_at (take count ns) s)) set))
