-- The square table of a region: where it is not empty it has the region over all scales and needs its every bound, so that what its cells say are the
-- tightened bounds of the region. Assumes nothing.
use Prim.Native.Nat.{ℕ, ◌+◌, ◌*◌, ◌≤◌, ◌<◌}
use mathlib.Core.Path.{◌≡◌, refl, sym, subst, subst₂, ◌∙◌}
use mathlib.Core.Logic.{inl, inr}
use mathlib.Core.Bool.{Bool, true, false, not, cond, ◌&&◌, ◌||◌}
use mathlib.Core.List.{List, [], ◌∷◌, ◌++◌}
use native.Mathlib.Omega.{arith}
use lib.Dec.{T, eqb}
use lib.IntN.{ℤ, pos}
use lib.Signed.{lt_z}
use Rattle.zone.specs.Scale.{read, Bound, Zone, Region, Empty}
use Rattle.zone.specs.Keys.{key_of, finite?, half, lowest, said_of}
use Rattle.zone.specs.Squares.{cell, tightened, empty?, Tightens}
use Rattle.zone.specs.declared.bounds.Bound.{Bound as Cell}
use Rattle.zone.specs.declared.zones.Zone.{Zone as Square}
use Rattle.zone.proofs.Bools.{not-not}
use Rattle.zone.proofs.Integers.{up, dn, lt_z→, →lt_z, nlt_z→}
use Rattle.zone.proofs.Limits.{Limit, none, keyed, halved, bounds}
use Rattle.zone.proofs.KeyLaws.{limit_of, loose, loose_even, same_parts, parts-key, bound_limit, holds→, →holds}
use Rattle.zone.proofs.SquareTables.{table_of, table_at, nonempty-ok}
use Rattle.zone.proofs.Regions.{in_square}
use Rattle.zone.proofs.Spans.{Spans, spans-tightened, Tight, tight, Beyond, breached, empty-yes}
use Rattle.drafting.specs.Bounding.{Bounds, tighter_bound?, Tightened, Boundless, Pair, AllTightened}
use Rattle.drafting.proofs.BoundingLaws.{PairsOver}
use Rattle.draft.specs.Fronts.{bound_at, collected}

-- the table y of the region R
pub data SquareFor (R : Region) (y : Square) : Type 0 where
  is_empty : empty? y ≡ true → Empty R → SquareFor R y
  is_filled : empty? y ≡ false → Spans R y → Tight y → SquareFor R y

pub square-tightened : {R : Region} {z : Square} → Tightens 1 z → Spans R z → SquareFor R (tightened z)
square-tightened {R} {z} fits s = by (empty? (tightened z)) refl
  where
    by : (c : Bool) → empty? (tightened z) ≡ c → SquareFor R (tightened z)
    by true e = is_empty e (empty-yes fits s e)
    by false e = is_filled e (spans-tightened fits s) (tight fits s e)

-- ---- keys and bounds

-- a key is that of its half and its lowest bit
key_back : (z : ℤ) → key_of (half z) (eqb (lowest z) 0) ≡ z
key_back z =
    same_parts (key_of (half z) (eqb (lowest z) 0)) z
    (omega (arith, parts-key (half z) (eqb (lowest z) 0), halved z, loose_even (lowest z) (halved z).small))

finite-limit : (c : Cell) (i j : ℕ) → finite? c ≡ true → limit_of c ≡ bound_limit (bound_at i j c)
unfolding limit_of
finite-limit c i j e = rw (e, key_back c.key)

absent-limit : (c : Cell) → finite? c ≡ false → limit_of c ≡ none
unfolding limit_of
absent-limit c e = rw e

-- a bound that is at least as loose as another is not tighter
not_tighter : (a b : Bound) → bounds.◌⊑◌ (bound_limit b) (bound_limit a) → tighter_bound? a b ≡ false
unfolding tighter_bound?
not_tighter a b h =
    by (lt_z a.d b.d) (lt_z b.d a.d) a.strict b.strict (lt_z→ a.d b.d) (nlt_z→ b.d a.d)
    (omega (arith, h.at, parts-key a.d a.strict, parts-key b.d b.strict))
  where
    by : (p q s t : Bool) → (T p → up a.d + dn b.d < up b.d + dn a.d) → (T (not q) → up a.d + dn b.d ≤ up b.d + dn a.d) →
        2 * up b.d + 2 * dn a.d + loose t ≤ 2 * up a.d + 2 * dn b.d + loose s → (p || (not q && (s && not t))) ≡ false
    by true q true true f g l = absurd (omega (arith, f tt))
    by true q true false f g l = absurd (omega (arith, f tt))
    by true q false true f g l = absurd (omega (arith, f tt))
    by true q false false f g l = absurd (omega (arith, f tt))
    by false true s t f g l = refl
    by false false true true f g l = refl
    by false false true false f g l = absurd (omega (arith, g tt))
    by false false false t f g l = refl

module _ {R : Region} {y : Square} (s : Spans R y) (t : Tight y) where
  -- ---- a table that is not empty has a valuation, and so has R: the bound "below 0" of clock 0 minus itself is tighter than its cell
  pub has_some : empty? y ≡ false → Empty R → ⊥
  has_some e m =
      let p = breached s {i = 0} {j = 0} (omega arith) (omega arith)
      (t 0 0 (omega arith) (omega arith) (keyed (pos 0)) (looser (table_of y 0 0) (nonempty-ok y e 0 (omega arith)))) in
      m.at p.scale p.positive p.valuation p.holds
    where
      looser : (a : Limit) → bounds.◌⊑◌ bounds.at_most_zero a → T (not (bounds.as_tight? a (keyed (pos 0))))
      looser none l = tt
      looser (keyed z) l = rw (not-not (lt_z (pos 0) z)) (→lt_z (pos 0) z (omega (arith, l.at)))

  -- ---- a bound of R is at least as loose as the cell
  pub looser : (b : Bound) → b.i < 5 → b.j < 5 → Bounds R b → bounds.◌⊑◌ (table_of y b.i b.j) (bound_limit b)
  looser b hi hj h =
      by (bounds.as_tight? (table_of y b.i b.j) (bound_limit b)) (bounds.as_tight-⊑ (table_of y b.i b.j) (bound_limit b))
      (λ f. breached s hi hj (t b.i b.j hi hj (bound_limit b) f))
    where
      by : (c : Bool) → (T c → bounds.◌⊑◌ (table_of y b.i b.j) (bound_limit b)) →
          (T (not c) → Beyond R (λ k v. bounds.Holds k (read v b.i) (read v b.j) (bound_limit b))) →
          bounds.◌⊑◌ (table_of y b.i b.j) (bound_limit b)
      by true f g = f tt
      by false f g =
          let p = g tt in
          absurd (p.fails (holds→ p.scale p.valuation b (h.at p.scale p.positive p.valuation p.holds)))

  module _ (i j : ℕ) (hi : i < 5) (hj : j < 5) where
    looser-there : (b : Bound) → b.i ≡ i → b.j ≡ j → Bounds R b → bounds.◌⊑◌ (limit_of (cell y i j)) (bound_limit b)
    looser-there b ei ej h =
        rw (table_at y i j hi hj) at
        (subst₂ (λ a c. bounds.◌⊑◌ (table_of y a c) (bound_limit b)) ei ej
        (looser b (subst (λ n. n < 5) (sym ei) hi) (subst (λ n. n < 5) (sym ej) hj) h))

    cell-tightened : finite? (cell y i j) ≡ true → Tightened R (bound_at i j (cell y i j))
    unfolding in_square
    cell-tightened f =
        let b : Bound = bound_at i j (cell y i j) in
        let e : limit_of (cell y i j) ≡ bound_limit b = finite-limit (cell y i j) i j f in
        record {
          holds = record {
            at = λ k k₁ v r. →holds k v b
                (subst (bounds.Holds k (read v i) (read v j)) (table_at y i j hi hj ∙ e) ((s.into k k₁ v r).at i j hi hj));
          };
          least = λ c ei ej h. not_tighter c b (subst (λ l. bounds.◌⊑◌ l (bound_limit c)) e (looser-there c ei ej h));
        }

    cell-boundless : finite? (cell y i j) ≡ false → Boundless R i j
    cell-boundless f =
        record { none = λ c ei ej h. (subst (λ l. bounds.◌⊑◌ l (bound_limit c)) (absent-limit (cell y i j) f) (looser-there c ei ej h)).at }

  without : (p : Pair) (ps : List Pair) (Z : Zone) → Boundless R p.i p.j → AllTightened R ps Z → AllTightened R (p ∷ ps) Z
  without p ps [] n a = (n, a)
  without p ps (b ∷ Z) n a = inl (n, a)

  -- ---- what is collected
  pub collected-tightened : (C : ℕ) → C ≤ 4 → (ps : List Pair) → PairsOver C ps → AllTightened R ps (collected y ps)
  unfolding collected said_of
  collected-tightened C few [] h = tt
  collected-tightened C few (p ∷ ps) h = by (finite? c) refl (collected-tightened C few ps h.3)
    where
      c : Cell
      c = cell y p.i p.j

      hi : p.i < 5
      hi = let g = h.0 in omega arith

      hj : p.j < 5
      hj = let g = h.1 in omega arith

      by : (f : Bool) → finite? c ≡ f → AllTightened R ps (collected y ps) →
          AllTightened R (p ∷ ps) (cond f (bound_at p.i p.j c ∷ []) [] ++ collected y ps)
      by true f rest = inr (refl, refl, cell-tightened p.i p.j hi hj f, rest)
      by false f rest = without p ps (collected y ps) (cell-boundless p.i p.j hi hj f) rest
