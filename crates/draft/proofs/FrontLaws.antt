-- The bounds of a node: the rows of a square table say the bounds of the pairs of clocks in their order. Assumes nothing.
use Prim.Native.Nat.{ℕ, zero, suc, ◌+◌, ◌-◌, ◌*◌, ◌^◌, ◌≤◌, ◌<◌}
use mathlib.Core.Path.{◌≡◌, refl, sym, ap, ap₂, ◌∙◌}
use mathlib.Core.Bool.{Bool, true, false, not, cond, ◌&&◌}
use mathlib.Core.List.{List, [], ◌∷◌, ◌++◌, map, append-nil, append_assoc, map-append}
use native.Mathlib.Numerals.{add-one}
use native.Mathlib.Omega.{arith}
use lib.Dec.{eqb, leb}
use lib.IntN.{pos, nat_abs}
use lib.ListN.{length, get_or, take, drop, length-append, drop_of_length-le}
use lib.Seq.{append_snoc, drop-cons}
use lib.Signed.{lt_z, mag}
use mir.Syntax.{w32}
use mir.Val.{to_z, of_z}
use Rattle.zone.specs.Scale.{Bound, Zone}
use Rattle.zone.specs.Keys.{finite?, said_of}
use Rattle.zone.specs.Cells.{past_end}
use Rattle.zone.specs.Squares.{cell}
use Rattle.zone.specs.declared.bounds.Bound.{Bound as Cell}
use Rattle.zone.specs.declared.zones.Zone.{Zone as Square}
use Rattle.zone.proofs.Bools.{true_false, false_true}
use Rattle.zone.proofs.Machine.{back32}
use Rattle.drafting.specs.Bounding.{Pair, others, pairs_from, pairs}
use Rattle.drafting.specs.Exploring.{narrow?}
use Rattle.drafting.specs.Words.{bound_word}
use Rattle.std.specs.Prelude.{Some, None}
use Rattle.draft.specs.Fronts.{bound_at, narrow_bound?, collected, row_said, RowAdded, front, front_for}

-- ---- the cells of a row, one by one

-- the bounds of two zones are narrow where those of each are
narrow-both : (Y Z : Zone) → narrow? (Y ++ Z) ≡ (narrow? Y && narrow? Z)
unfolding narrow?
narrow-both [] Z = refl
narrow-both (b ∷ Y) Z = rw (narrow-both Y Z) (regroup (leb (nat_abs b.d) 4095) (narrow? Y) (narrow? Z))
  where
    regroup : (p q r : Bool) → (p && (q && r)) ≡ ((p && q) && r)
    regroup true q r = refl
    regroup false q r = refl

-- before cell j of a row: the words of the bounds so far, all of them narrow, and what is left
pub record TakenAt (i : ℕ) (row : List Cell) (before : List ℕ) (j : ℕ) (now : List ℕ) : Type 0 where
  pub room : length now ≤ length before + j
  pub narrow : narrow? (row_said i row 0) ≡ narrow? (row_said i (drop j row) j)
  pub words : before ++ map bound_word (row_said i row 0) ≡ now ++ map bound_word (row_said i (drop j row) j)

module _ {i : ℕ} {row : List Cell} {before : List ℕ} {j : ℕ} {now : List ℕ} (t : TakenAt i row before j now) where
  -- behind the last cell
  pub row-ended : length row ≤ j → RowAdded (Some tt) before now (row_said i row 0)
  unfolding row_said narrow?
  row-ended h =
      let none : drop j row ≡ [] = drop_of_length-le row h in
      (t.narrow ∙ rw none refl, sym (t.words ∙ rw (none, append-nil now) refl))

  module _ (h : j < length row) where
    abbrev here : Cell
    here = get_or row j past_end

    abbrev rest : Zone
    rest = row_said i (drop (suc j) row) (suc j)

    -- what the cell says, before the rest
    split : row_said i (drop j row) j ≡ cond (eqb i j) [] (said_of here i j) ++ rest
    unfolding row_said
    split = rw (drop-cons row j past_end h) refl

    module _ (fits : mag here.key < 2 ^ 31) where
      -- the machine's test whether it says a bound
      abbrev pub says? : Bool
      says? = not (eqb i j) && lt_z (to_z w32 (of_z w32 here.key)) (pos (2 ^ 28))

      nothing : (c f : Bool) (Z : Zone) → (not c && f) ≡ false → cond c [] (cond f Z []) ≡ []
      nothing true f Z e = refl
      nothing false true Z e = true_false e
      nothing false false Z e = refl

      one : (c f : Bool) (Z : Zone) → (not c && f) ≡ true → cond c [] (cond f Z []) ≡ Z
      one true f Z e = false_true e
      one false true Z e = refl
      one false false Z e = false_true e

      test : {c : Bool} → says? ≡ c → (not (eqb i j) && finite? here) ≡ c
      test e = rw (back32 here.key fits) at e

      pub skipped : says? ≡ false → TakenAt i row before (j + 1) now
      unfolding said_of
      skipped e =
          let left = split ∙ ap (λ (Z : Zone). Z ++ rest) (nothing (eqb i j) (finite? here) _ (test e)) in
          rw (add-one j) (record {
            room = omega (arith, t.room);
            narrow = t.narrow ∙ ap narrow? left;
            words = t.words ∙ ap (λ (Z : Zone). now ++ map bound_word Z) left;
          })

      module _ (e : says? ≡ true) where
        abbrev bound : Bound
        bound = bound_at i j here

        left : row_said i (drop j row) j ≡ bound ∷ rest
        unfolding said_of
        left = split ∙ ap (λ (Z : Zone). Z ++ rest) (one (eqb i j) (finite? here) _ (test e))

        pub put : (w : ℕ) → w ≡ bound_word bound → narrow_bound? here ≡ true → TakenAt i row before (j + 1) (now ++ (w ∷ []))
        unfolding narrow_bound? narrow?
        put w q n =
            rw (add-one j, q) (record {
              room = omega (arith, t.room, length-append now (bound_word bound ∷ []));
              narrow = t.narrow ∙ ap narrow? left ∙ ap (λ c. c && narrow? rest) n;
              words = t.words ∙ ap (λ (Z : Zone). now ++ map bound_word Z) left ∙ sym (append_snoc now (bound_word bound) (map bound_word rest));
            })

        pub too_wide : narrow_bound? here ≡ false → narrow? (row_said i row 0) ≡ false
        unfolding narrow_bound? narrow?
        too_wide n = t.narrow ∙ ap narrow? left ∙ ap (λ c. c && narrow? rest) n

-- ---- the rows of a table
collected-both : (y : Square) (ps qs : List Pair) → collected y (ps ++ qs) ≡ collected y ps ++ collected y qs
unfolding collected
collected-both y [] qs = refl
collected-both y (p ∷ ps) qs =
    ap (λ (Z : Zone). said_of (cell y p.i p.j) p.i p.j ++ Z) (collected-both y ps qs)
    ∙ sym (append_assoc (said_of (cell y p.i p.j) p.i p.j) (collected y ps) (collected y qs))

-- n cells from index k on, those of clock i minus the clocks from j on
row-is : (y : Square) (i n j k : ℕ) → k ≡ i * 5 + j → k + n ≤ length y.cells →
    collected y (others i n j) ≡ row_said i (take n (drop k y.cells)) j
unfolding collected others row_said
row-is y i zero j k e l = refl
row-is y i (suc n) j k e l =
    rw (drop-cons y.cells k past_end (omega arith)) (by (eqb i j) (row-is y i n (suc j) (suc k) (omega arith) (omega arith)))
  where
    p : Pair
    p = record { i = i; j = j }

    by : (c : Bool) → collected y (others i n (suc j)) ≡ row_said i (take n (drop (suc k) y.cells)) (suc j) →
        collected y (cond c (others i n (suc j)) (p ∷ others i n (suc j))) ≡
        cond c [] (said_of (get_or y.cells k past_end) i j) ++ row_said i (take n (drop (suc k) y.cells)) (suc j)
    by true h = h
    by false h = ap₂ (λ (q : ℕ) (Z : Zone). said_of (get_or y.cells q past_end) i j ++ Z) (sym e) h

-- before row i of a table over the clocks 0 to C
pub record RowsAt (C : ℕ) (y : Square) (i : ℕ) (now : List ℕ) : Type 0 where
  pub room : length now ≤ i * 5
  pub narrow : narrow? (collected y (pairs C)) ≡ narrow? (collected y (pairs_from C (suc C - i) i))
  pub words : map bound_word (collected y (pairs C)) ≡ now ++ map bound_word (collected y (pairs_from C (suc C - i) i))

pub rows-started : (C : ℕ) (y : Square) {now : List ℕ} → now ≡ [] → RowsAt C y 0 now
unfolding pairs
rows-started C y e = let all : suc C - 0 ≡ suc C = omega arith in rw e (record { room = omega arith; narrow = rw all refl; words = rw all refl })

module _ {C : ℕ} {y : Square} {i : ℕ} {now : List ℕ} (t : RowsAt C y i now) where
  pub rows-ended : suc C ≤ i → (l : ℕ) → Some (front l now) ≡ front_for l (collected y (pairs C))
  unfolding front_for pairs_from collected narrow?
  rows-ended h l =
      let none : suc C - i ≡ 0 = omega arith in
      let narrow = rw none at t.narrow in
      let words = rw none at t.words in
      sym (rw (narrow, words, append-nil now) refl)

  module _ (h : i < suc C) (few : C ≤ 4) (size : length y.cells ≡ 25) where
    abbrev row : List Cell
    row = take (suc C) (drop (i * 5) y.cells)

    abbrev others_left : Zone
    others_left = collected y (pairs_from C (suc C - suc i) (suc i))

    split-row : collected y (pairs_from C (suc C - i) i) ≡ row_said i row 0 ++ others_left
    unfolding pairs_from
    split-row =
        let one : suc C - i ≡ suc (suc C - suc i) = omega arith in
        rw one
        (collected-both y (others i (suc C) 0) (pairs_from C (suc C - suc i) (suc i))
        ∙ ap (λ (Z : Zone). Z ++ others_left) (row-is y i (suc C) 0 (i * 5) (omega arith) (omega arith)))

    pub row-refused : narrow? (row_said i row 0) ≡ false → (l : ℕ) → None ≡ front_for l (collected y (pairs C))
    unfolding front_for
    row-refused n l =
        sym (rw (t.narrow ∙ ap narrow? split-row ∙ narrow-both (row_said i row 0) others_left ∙ ap (λ c. c && narrow? others_left) n) refl)

    pub row-added : {after : List ℕ} → RowAdded (Some tt) now after (row_said i row 0) → length after ≤ length now + 5 → RowsAt C y (i + 1) after
    row-added {after} a more =
        rw (add-one i) (record {
          room = omega (arith, t.room, more);
          narrow = t.narrow ∙ ap narrow? split-row ∙ narrow-both (row_said i row 0) others_left ∙ ap (λ c. c && narrow? others_left) a.0;
          words = t.words ∙ ap (λ (Z : Zone). now ++ map bound_word Z) split-row
              ∙ ap (λ (ws : List ℕ). now ++ ws) (map-append bound_word (row_said i row 0) others_left)
              ∙ sym (append_assoc now (map bound_word (row_said i row 0)) (map bound_word others_left))
              ∙ ap (λ (ws : List ℕ). ws ++ map bound_word others_left) (sym a.1);
        })
