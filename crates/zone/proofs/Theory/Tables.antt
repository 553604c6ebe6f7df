-- Square tables of bounds: the pass through a clock, the closing by all passes, one bound put into a closed table, and the meet of two
-- tables. Cell (i, j) of a table bounds clock i minus clock j. Assumes nothing.
use Prim.Native.Nat.{ℕ, zero, suc, ◌<◌}
use mathlib.Core.Path.{◌≡◌, sym, subst}
use mathlib.Core.Logic.{◌⊎◌, inl, inr}
use native.Mathlib.Nat as N
use native.Mathlib.Omega.{arith}
use Rattle.zone.proofs.Theory.BoundLaws.{BoundLaws}

module _ (𝓑 : BoundLaws) where
  open 𝓑 use {B, ◌⊑◌, ◌⊕◌, ◌⊓◌, at_most_zero, ⊑_refl, ⊑_trans, ⊓-left, ⊓-right, ⊓-cases, ⊕-mono, ⊕-comm, ⊕-assoc, ⊕-assoc', ⊕-unit, ⊕-unit'}

  infix 50 ◌⊑◌
  infixl 70 ◌⊕◌
  infixl 60 ◌⊓◌
  -- adding what is not negative loosens a bound
  pub loosen-left : (a : B) {d : B} → at_most_zero ⊑ d → a ⊑ d ⊕ a
  loosen-left a h = ⊑_trans (⊕-unit a) (⊕-mono h (⊑_refl a))

  pub loosen-right : (a : B) {d : B} → at_most_zero ⊑ d → a ⊑ a ⊕ d
  loosen-right a {d} h = ⊑_trans (loosen-left a h) (⊕-comm d a)

  abbrev pub Table : Type 0
  Table = ℕ → ℕ → B

  -- closed through clock l: every cell is at least as tight as the sum through l
  abbrev pub Through : Table → ℕ → Type 0
  Through T l = (i j : ℕ) → T i j ⊑ T i l ⊕ T l j

  abbrev pub Closed : ℕ → Table → Type 0
  Closed n T = (l : ℕ) → l < n → Through T l

  -- no diagonal is negative
  abbrev pub Ok : ℕ → Table → Type 0
  Ok n T = (i : ℕ) → i < n → at_most_zero ⊑ T i i

  -- ---- each cell becomes the tighter of itself and a way from clock i to clock j: into it by L, out of it by R
  module _ (T : Table) (L R : ℕ → B) (l : ℕ) (c : Through T l) (into : (i : ℕ) → L i ⊑ T i l ⊕ L l) (out : (j : ℕ) → R j ⊑ R l ⊕ T l j)
      (ok : at_most_zero ⊑ R l ⊕ L l) where
    via : ℕ → ℕ → B
    via i j = T i j ⊓ (L i ⊕ R j)

    via-through : Through via l
    unfolding via
    via-through i j = ⊓-cases (T i l) (L i ⊕ R l) (λ b. via i j ⊑ b ⊕ via l j)
        (⊓-cases (T l j) (L l ⊕ R j) (λ b. via i j ⊑ T i l ⊕ b)
        (⊑_trans (⊓-left (T i j) (L i ⊕ R j)) (c i j))
        (⊑_trans way (⊑_trans (⊕-mono (into i) (⊑_refl (R j))) (⊕-assoc (T i l) (L l) (R j)))))
        (⊓-cases (T l j) (L l ⊕ R j) (λ b. via i j ⊑ (L i ⊕ R l) ⊕ b) (around (T l j) (out j))
        (around (L l ⊕ R j) (⊑_trans (loosen-left (R j) ok) (⊕-assoc (R l) (L l) (R j)))))
      where
        way : via i j ⊑ L i ⊕ R j
        way = ⊓-right (T i j) (L i ⊕ R j)

        around : (b : B) → R j ⊑ R l ⊕ b → via i j ⊑ (L i ⊕ R l) ⊕ b
        around b h = ⊑_trans way (⊑_trans (⊕-mono (⊑_refl (L i)) h) (⊕-assoc' (L i) (R l) b))

  -- ---- the pass: each cell becomes the tighter of itself and the way through clock m
  unfoldable pub pass : ℕ → Table → Table
  pass m T i j = T i j ⊓ (T i m ⊕ T m j)

  module _ (T : Table) (m : ℕ) where
    pub pass-old : (i j : ℕ) → pass m T i j ⊑ T i j
    unfolding pass
    pass-old i j = ⊓-left (T i j) (T i m ⊕ T m j)

    pub pass-via : (i j : ℕ) → pass m T i j ⊑ T i m ⊕ T m j
    unfolding pass
    pass-via i j = ⊓-right (T i j) (T i m ⊕ T m j)

    pub pass-cases : (i j : ℕ) (P : B → Type 0) → P (T i j) → P (T i m ⊕ T m j) → P (pass m T i j)
    unfolding pass
    pass-cases i j = ⊓-cases (T i j) (T i m ⊕ T m j)

    module _ (ok : at_most_zero ⊑ T m m) where
      -- through the clock itself
      pub pass-here : Through (pass m T) m
      pass-here i j = ⊑_trans (pass-via i j) (⊕-mono into from)
        where
          into : T i m ⊑ pass m T i m
          into = pass-cases i m (λ b. T i m ⊑ b) (⊑_refl (T i m)) (loosen-right (T i m) ok)

          from : T m j ⊑ pass m T m j
          from = pass-cases m j (λ b. T m j ⊑ b) (⊑_refl (T m j)) (loosen-left (T m j) ok)

      -- through a clock that the table was closed through
      pub pass-before : (l : ℕ) → Through T l → Through (pass m T) l
      unfolding pass via
      pass-before l c = via-through T (λ i. T i m) (T m) l c (λ i. c i m) (λ j. c m j) (⊑_trans ok (c m m))

  -- ---- all the passes below n
  unfoldable pub close : ℕ → Table → Table
  close zero T = T
  close (suc m) T = pass m (close m T)

  pub close-old : (n : ℕ) (T : Table) (i j : ℕ) → close n T i j ⊑ T i j
  unfolding close
  close-old zero T i j = ⊑_refl (T i j)
  close-old (suc m) T i j = ⊑_trans (pass-old (close m T) m i j) (close-old m T i j)

  -- the passes close the table, unless some diagonal turns negative
  pub close-closed : (n : ℕ) (T : Table) → Ok n (close n T) → Closed n (close n T)
  unfolding close
  close-closed zero T ok l h = absurd (omega arith)
  close-closed (suc m) T ok l h = by (close-closed m T (λ x hx. earlier x (omega arith)) l) (N.eq-or-lt_of_le (N.le_of_suc-le-suc h))
    where
      earlier : Ok (suc m) (close m T)
      earlier l k = ⊑_trans (ok l k) (pass-old (close m T) m l l)

      here : at_most_zero ⊑ close m T m m
      here = earlier m (omega arith)

      by : (l < m → Through (close m T) l) → (l ≡ m) ⊎ (l < m) → Through (pass m (close m T)) l
      by c (inl e) = subst (λ x. Through (pass m (close m T)) x) (sym e) (pass-here (close m T) m here)
      by c (inr k) = pass-before (close m T) m here l (c k)

  -- ---- one bound more, c on clock p minus clock q, put into a closed table: it is closed again with no pass
  unfoldable pub insert : ℕ → ℕ → B → Table → Table
  insert p q c T i j = T i j ⊓ (T i p ⊕ (c ⊕ T q j))

  module _ (T : Table) (p q : ℕ) (c : B) where
    pub insert-old : (i j : ℕ) → insert p q c T i j ⊑ T i j
    unfolding insert
    insert-old i j = ⊓-left (T i j) (T i p ⊕ (c ⊕ T q j))

    pub insert-via : (i j : ℕ) → insert p q c T i j ⊑ T i p ⊕ (c ⊕ T q j)
    unfolding insert
    insert-via i j = ⊓-right (T i j) (T i p ⊕ (c ⊕ T q j))

    pub insert-cases : (i j : ℕ) (P : B → Type 0) → P (T i j) → P (T i p ⊕ (c ⊕ T q j)) → P (insert p q c T i j)
    unfolding insert
    insert-cases i j = ⊓-cases (T i j) (T i p ⊕ (c ⊕ T q j))

    -- the new bound is in the table
    pub insert-new : T p p ⊑ at_most_zero → T q q ⊑ at_most_zero → insert p q c T p q ⊑ c
    insert-new hp hq = ⊑_trans (insert-via p q) (⊑_trans (⊕-mono hp inner) (⊕-unit' c))
      where
        inner : c ⊕ T q q ⊑ c
        inner = ⊑_trans (⊕-comm c (T q q)) (⊑_trans (⊕-mono hq (⊑_refl c)) (⊕-unit' c))

    -- the loop that the new bound makes is not negative
    module _ (ok : at_most_zero ⊑ T q p ⊕ c) where
      pub insert-through : (l : ℕ) → Through T l → Through (insert p q c T) l
      unfolding insert via
      insert-through l t = via-through T (λ i. T i p) (λ j. c ⊕ T q j) l t (λ i. t i p) (λ j. tail j (t q j)) loop
        where
          tail : (j : ℕ) {b : B} → T q j ⊑ T q l ⊕ b → c ⊕ T q j ⊑ (c ⊕ T q l) ⊕ b
          tail j {b} h = ⊑_trans (⊕-mono (⊑_refl c) h) (⊕-assoc' c (T q l) b)

          -- the loop q, l, p, q is not negative
          loop : at_most_zero ⊑ (c ⊕ T q l) ⊕ T l p
          loop = ⊑_trans ok (⊑_trans (⊕-comm (T q p) c) (tail p (t q p)))

      -- and no diagonal turns negative
      pub insert-diagonal : (i : ℕ) → Through T i → at_most_zero ⊑ T i i → at_most_zero ⊑ insert p q c T i i
      insert-diagonal i t h = insert-cases i i (λ b. at_most_zero ⊑ b) h (⊑_trans ok round)
        where
          round : T q p ⊕ c ⊑ T i p ⊕ (c ⊕ T q i)
          round = ⊑_trans (⊕-mono (⊑_trans (t q p) (⊕-comm (T q i) (T i p))) (⊑_refl c))
              (⊑_trans (⊕-assoc (T i p) (T q i) c) (⊕-mono (⊑_refl (T i p)) (⊕-comm (T q i) c)))

  -- ---- the tighter of two tables, cell by cell
  unfoldable pub meet : Table → Table → Table
  meet T U i j = T i j ⊓ U i j

  module _ (T U : Table) where
    pub meet_left : (i j : ℕ) → meet T U i j ⊑ T i j
    unfolding meet
    meet_left i j = ⊓-left (T i j) (U i j)

    pub meet_right : (i j : ℕ) → meet T U i j ⊑ U i j
    unfolding meet
    meet_right i j = ⊓-right (T i j) (U i j)

    pub meet-cases : (i j : ℕ) (P : B → Type 0) → P (T i j) → P (U i j) → P (meet T U i j)
    unfolding meet
    meet-cases i j = ⊓-cases (T i j) (U i j)
