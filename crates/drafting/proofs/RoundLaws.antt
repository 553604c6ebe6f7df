-- Rounds never raise a value, and after any number of them every row's sum is at most D times its node's value. Assumes nothing.
use Prim.Native.Nat.{ℕ, zero, suc, ◌+◌, ◌-◌, ◌*◌, ◌/◌, ◌%◌, ◌≤◌, ◌<◌, zero-le}
use mathlib.Core.Path.{◌≡◌, refl, sym, ap, subst, ◌∙◌}
use mathlib.Core.Logic.{◌⊎◌, inl, inr}
use mathlib.Core.Bool.{Bool, true, false, not, cond}
use mathlib.Core.List.{List, [], ◌∷◌}
use native.Mathlib.Nat as N
use native.Mathlib.Omega.{arith}
use lib.Dec.{T}
use lib.ListN.{get_or, length, replicate, length-replicate, get_or-replicate, get_or-eq_default}
use Rattle.zone.proofs.Integers.{lt-or-ge}
use Rattle.drafting.specs.Words.{whole}
use Rattle.drafting.specs.Rounds.{rounded_up}
use Rattle.drafting.proofs.Shares.{Share, Valued, no_valued, sum_of, largest, round_at, round_each, round, rounds, values_after}

-- each value is at most the other
pub record Below (us vs : List ℕ) : Type 0 where
  pub at : (n : ℕ) → get_or us n 0 ≤ get_or vs n 0

pub below-refl : (vs : List ℕ) → Below vs vs
below-refl vs = record { at = λ n. N.le_refl (get_or vs n 0) }

pub below-trans : {us vs ws : List ℕ} → Below us vs → Below vs ws → Below us ws
below-trans h k = record { at = λ n. N.le_trans (h.at n) (k.at n) }

-- ---- x over D, rounded up
module _ (D : ℕ) (positive : 1 ≤ D) where
  -- it is enough
  pub up-enough : (x : ℕ) → x ≤ D * rounded_up x D
  up-enough x =
      let whole : D * ((x + (D - 1)) / D) + (x + (D - 1)) % D ≡ x + (D - 1) = N.div-add-mod (x + (D - 1)) D in
      let rest : (x + (D - 1)) % D < D = N.mod-lt (x + (D - 1)) positive in
      omega arith

  -- and the least that is
  pub up_least : (x y : ℕ) → x ≤ D * y → rounded_up x D ≤ y
  up_least x y h =
      let turned : D * y ≡ y * D = N.mul_comm D y in
      let more : (y + 1) * D ≡ y * D + 1 * D = N.add-mul y 1 D in
      let one : 1 * D ≡ D = N.one-mul D in
      let fits : x + (D - 1) < (y + 1) * D = omega arith in
      let less : (x + (D - 1)) / D < y + 1 = (N.div-lt_iff_lt-mul positive).1 fits in
      omega arith

  pub up-mono : (x y : ℕ) → x ≤ y → rounded_up x D ≤ rounded_up y D
  up-mono x y h = up_least x (rounded_up y D) (N.le_trans h (up-enough y))

-- ---- sums
share-mono : (w : ℕ) (c : Bool) (x y : ℕ) → x ≤ y → w * cond c whole x ≤ w * cond c whole y
share-mono w true x y h = N.le_refl (w * whole)
share-mono w false x y h = N.mul-le-mul_left w h

pub sum_mono : {us vs : List ℕ} → Below us vs → (ss : List Share) → sum_of us ss ≤ sum_of vs ss
unfolding sum_of
sum_mono h [] = zero-le
sum_mono {us} {vs} h (s ∷ ss) =
    N.add-le-add (share-mono s.weight s.outside (get_or us s.node 0) (get_or vs s.node 0) (h.at s.node)) (sum_mono h ss)

-- how much the edges of a row weigh
unfoldable pub weights : List Share → ℕ
weights [] = 0
weights (s ∷ ss) = s.weight + weights ss

-- no value is above V
pub record Limited (vs : List ℕ) : Type 0 where
  pub at : (n : ℕ) → get_or vs n 0 ≤ whole

share_limited : (w : ℕ) (c : Bool) (x : ℕ) → x ≤ whole → w * cond c whole x ≤ w * whole
share_limited w true x h = N.le_refl (w * whole)
share_limited w false x h = N.mul-le-mul_left w h

pub sum_limited : {vs : List ℕ} → Limited vs → (ss : List Share) → sum_of vs ss ≤ weights ss * whole
unfolding sum_of weights
sum_limited h [] = zero-le
sum_limited {vs} h (s ∷ ss) =
    rw (N.add-mul s.weight (weights ss) whole)
    (N.add-le-add (share_limited s.weight s.outside (get_or vs s.node 0) (h.at s.node)) (sum_limited h ss))

-- ---- rounds; D is at least 1, and the edges of each row weigh at most D
pub record Weighed (D : ℕ) (Ns : List Valued) : Type 0 where
  pub positive : 1 ≤ D
  pub rows : (n : ℕ) (r : ℕ) → weights (get_or (get_or Ns n no_valued).rows r []) ≤ D

module _ (D : ℕ) (positive : 1 ≤ D) where
  largest-mono : {us vs : List ℕ} → Below us vs → (rows : List (List Share)) → largest D us rows ≤ largest D vs rows
  unfolding largest
  largest-mono h [] = zero-le
  largest-mono {us} {vs} h (ss ∷ rows) =
      let first = up-mono D positive (sum_of us ss) (sum_of vs ss) (sum_mono h ss) in
      let rest = largest-mono h rows in
      omega arith

  -- each row's sum, rounded up, is at most the largest
  largest-over : (vs : List ℕ) (rows : List (List Share)) (r : ℕ) → r < length rows → rounded_up (sum_of vs (get_or rows r [])) D ≤ largest D vs rows
  unfolding largest
  largest-over vs [] r h = absurd (N.not-suc-le-zero h)
  largest-over vs (ss ∷ rows) zero h = N.le-max_left (rounded_up (sum_of vs ss) D) (largest D vs rows)
  largest-over vs (ss ∷ rows) (suc r) h =
      N.le_trans (largest-over vs rows r (N.le_of_suc-le-suc h)) (N.le-max_right (rounded_up (sum_of vs ss) D) (largest D vs rows))

  largest-limited : {vs : List ℕ} → Limited vs → (rows : List (List Share)) → ((r : ℕ) → weights (get_or rows r []) ≤ D) →
      largest D vs rows ≤ whole
  unfolding largest
  largest-limited h [] w = zero-le
  largest-limited {vs} h (ss ∷ rows) w =
      N.max-le
      (up_least D positive (sum_of vs ss) whole (N.le_trans (sum_limited h ss) (N.mul-le-mul_right whole (w 0))))
      (largest-limited h rows (λ r. w (suc r)))

  at-mono : {us vs : List ℕ} → Below us vs → (q : Valued) (u v : ℕ) → u ≤ v → round_at D us q u ≤ round_at D vs q v
  unfolding round_at
  at-mono {us} {vs} h q u v l = by q.target
    where
      by : (c : Bool) → cond c u (largest D us q.rows) ≤ cond c v (largest D vs q.rows)
      by true = l
      by false = largest-mono h q.rows

  each-mono : {us vs : List ℕ} → Below us vs → (qs : List Valued) (ws xs : List ℕ) → length ws ≡ length qs → length xs ≡ length qs →
      Below ws xs → Below (round_each D us qs ws) (round_each D vs qs xs)
  unfolding round_each
  each-mono h [] ws xs e f b = record { at = λ n. zero-le }
  each-mono h (q ∷ qs) [] xs e f b = absurd (omega arith)
  each-mono h (q ∷ qs) (w ∷ ws) [] e f b = absurd (omega arith)
  each-mono {us} {vs} h (q ∷ qs) (w ∷ ws) (x ∷ xs) e f b =
      record { at = at (each-mono h qs ws xs (N.suc_inj e) (N.suc_inj f) (record { at = λ n. b.at (suc n) })) }
    where
      at : Below (round_each D us qs ws) (round_each D vs qs xs) → (n : ℕ) →
          get_or (round_at D us q w ∷ round_each D us qs ws) n 0 ≤ get_or (round_at D vs q x ∷ round_each D vs qs xs) n 0
      at rest zero = at-mono h q w x (b.at 0)
      at rest (suc n) = rest.at n

  -- the value of each node after a round
  each_at : (vs : List ℕ) (qs : List Valued) (us : List ℕ) → length us ≡ length qs → (n : ℕ) → n < length qs →
      get_or (round_each D vs qs us) n 0 ≡ round_at D vs (get_or qs n no_valued) (get_or us n 0)
  unfolding round_each
  each_at vs [] us e n h = absurd (N.not-suc-le-zero h)
  each_at vs (q ∷ qs) [] e n h = absurd (omega arith)
  each_at vs (q ∷ qs) (u ∷ us) e zero h = refl
  each_at vs (q ∷ qs) (u ∷ us) e (suc n) h = each_at vs qs us (N.suc_inj e) n (N.le_of_suc-le-suc h)

  each-length : (vs : List ℕ) (qs : List Valued) (us : List ℕ) → length us ≡ length qs → length (round_each D vs qs us) ≡ length qs
  unfolding round_each
  each-length vs [] us e = refl
  each-length vs (q ∷ qs) [] e = absurd (omega arith)
  each-length vs (q ∷ qs) (u ∷ us) e = ap suc (each-length vs qs us (N.suc_inj e))

first-at : (m n : ℕ) → get_or (replicate m whole) n 0 ≤ whole
first-at zero n = zero-le
first-at (suc m) zero = N.le_refl whole
first-at (suc m) (suc n) = first-at m n

pub all_limited : (m : ℕ) → Limited (replicate m whole)
all_limited m = record { at = first-at m }

-- ---- any number of rounds
module _ (D : ℕ) (qs : List Valued) (weighed : Weighed D qs) where
  round_mono : {us vs : List ℕ} → length us ≡ length qs → length vs ≡ length qs → Below us vs → Below (round D qs us) (round D qs vs)
  unfolding round
  round_mono {us} {vs} e f h = each-mono D weighed.positive h qs us vs e f h

  pub round-length : (vs : List ℕ) → length vs ≡ length qs → length (round D qs vs) ≡ length qs
  unfolding round
  round-length vs e = each-length D weighed.positive vs qs vs e

  pub rounds-length : (n : ℕ) (vs : List ℕ) → length vs ≡ length qs → length (rounds D qs n vs) ≡ length qs
  unfolding rounds
  rounds-length zero vs e = e
  rounds-length (suc n) vs e = rounds-length n (round D qs vs) (round-length vs e)

  rounds-mono : (n : ℕ) {us vs : List ℕ} → length us ≡ length qs → length vs ≡ length qs → Below us vs →
      Below (rounds D qs n us) (rounds D qs n vs)
  unfolding rounds
  rounds-mono zero e f h = h
  rounds-mono (suc n) {us} {vs} e f h = rounds-mono n (round-length us e) (round-length vs f) (round_mono e f h)

  -- one more round, at the end as at the start
  rounds-last : (n : ℕ) (vs : List ℕ) → rounds D qs (suc n) vs ≡ round D qs (rounds D qs n vs)
  unfolding rounds
  rounds-last zero vs = refl
  rounds-last (suc n) vs = rounds-last n (round D qs vs)

  abbrev pub first : List ℕ
  first = replicate (length qs) whole

  pub first-length : length first ≡ length qs
  first-length = length-replicate (length qs) whole

  pub first_limited : Limited first
  first_limited = all_limited (length qs)

  -- a round keeps values at most V
  each-limits : (vs : List ℕ) → Limited vs → (ps : List Valued) → ((n r : ℕ) → weights (get_or (get_or ps n no_valued).rows r []) ≤ D) →
      (us : List ℕ) → Limited us → Limited (round_each D vs ps us)
  unfolding round_each round_at
  each-limits vs h [] w us g = record { at = λ n. zero-le }
  each-limits vs h (p ∷ ps) w [] g = record { at = λ n. zero-le }
  each-limits vs h (p ∷ ps) w (u ∷ us) g = record { at = at (each-limits vs h ps (λ n. w (suc n)) us (record { at = λ n. g.at (suc n) })) }
    where
      here : (c : Bool) → cond c u (largest D vs p.rows) ≤ whole
      here true = g.at 0
      here false = largest-limited D weighed.positive h p.rows (w 0)

      at : Limited (round_each D vs ps us) → (n : ℕ) → get_or (cond p.target u (largest D vs p.rows) ∷ round_each D vs ps us) n 0 ≤ whole
      at rest zero = here p.target
      at rest (suc n) = rest.at n

  pub round-limits : (vs : List ℕ) → Limited vs → Limited (round D qs vs)
  unfolding round
  round-limits vs h = each-limits vs h qs weighed.rows vs h

  -- a round lowers the first values, of which none can be larger
  first_below : Below (round D qs first) first
  first_below = record { at = λ n. by n (lt-or-ge n (length qs)) }
    where
      by : (n : ℕ) → (n < length qs) ⊎ (length qs ≤ n) → get_or (round D qs first) n 0 ≤ get_or first n 0
      by n (inl h) = rw (get_or-replicate (length qs) n whole 0 h) ((round-limits first first_limited).at n)
      by n (inr h) = rw (get_or-eq_default (round D qs first) 0 {n = n} (rw (round-length first first-length) h)) zero-le

  -- rounds never raise a value
  pub round-below : (n : ℕ) → Below (values_after D qs (suc n)) (values_after D qs n)
  unfolding values_after rounds
  round-below n = rounds-mono n (round-length first first-length) first-length first_below

  pub more-below : (m n : ℕ) → Below (values_after D qs (m + n)) (values_after D qs n)
  more-below zero n = subst (λ k. Below (values_after D qs k) (values_after D qs n)) (sym (N.zero-add n)) (below-refl (values_after D qs n))
  more-below (suc m) n =
      subst (λ k. Below (values_after D qs k) (values_after D qs n)) (sym (N.suc-add m n))
      (below-trans (round-below (m + n)) (more-below m n))

  -- more rounds never give a larger value
  pub rounds-below : (r s : ℕ) → r ≤ s → Below (values_after D qs s) (values_after D qs r)
  rounds-below r s h =
      let e : s - r + r ≡ s = omega arith in
      subst (λ k. Below (values_after D qs k) (values_after D qs r)) e (more-below (s - r) r)

  pub values_length : (r : ℕ) → length (values_after D qs r) ≡ length qs
  unfolding values_after
  values_length r = rounds-length r first first-length

  pub values_limited : (r : ℕ) → Limited (values_after D qs r)
  unfolding values_after rounds
  values_limited r = record { at = λ n. N.le_trans ((rounds-below 0 r zero-le).at n) (first_limited.at n) }

  -- ---- every row's sum is at most D times its node's value
  abbrev pub Fits : List ℕ → Type 0
  Fits vs = (n : ℕ) → n < length qs → T (not (get_or qs n no_valued).target) → (r : ℕ) → r < length (get_or qs n no_valued).rows →
      sum_of vs (get_or (get_or qs n no_valued).rows r []) ≤ D * get_or vs n 0

  first_fits : Fits first
  first_fits n h t r l =
      let value : get_or first n 0 ≡ whole = get_or-replicate (length qs) n whole 0 h in
      let sum = sum_limited first_limited (get_or (get_or qs n no_valued).rows r []) in
      rw value (N.le_trans sum (N.mul-le-mul_right whole (weighed.rows n r)))

  round-fits : (vs : List ℕ) → length vs ≡ length qs → Below (round D qs vs) vs → Fits (round D qs vs)
  unfolding round round_at
  round-fits vs e b n h t r l =
      let rows : List (List Share) = (get_or qs n no_valued).rows in
      let value : get_or (round_each D vs qs vs) n 0 ≡ round_at D vs (get_or qs n no_valued) (get_or vs n 0) = each_at D weighed.positive vs qs vs e n h in
      let over = largest-over D weighed.positive vs rows r l in
      let large : largest D vs rows ≤ round_at D vs (get_or qs n no_valued) (get_or vs n 0) = by (get_or qs n no_valued).target t in
      rw value
      (N.le_trans (sum_mono b (get_or rows r []))
      (N.le_trans (up-enough D weighed.positive (sum_of vs (get_or rows r [])))
      (N.mul-le-mul_left D (N.le_trans over large))))
    where
      by : (c : Bool) → T (not c) → largest D vs (get_or qs n no_valued).rows ≤ cond c (get_or vs n 0) (largest D vs (get_or qs n no_valued).rows)
      by true t = absurd t
      by false t = N.le_refl (largest D vs (get_or qs n no_valued).rows)

  pub values-fit : (r : ℕ) → Fits (values_after D qs r)
  unfolding values_after rounds
  values-fit zero = first_fits
  values-fit (suc r) =
      let vs : List ℕ = rounds D qs r first in
      let last : rounds D qs (suc r) first ≡ round D qs vs = rounds-last r first in
      rw last (round-fits vs (rounds-length r first first-length) (subst (λ us. Below us vs) last (round-below r)))

  -- ---- a target keeps V
  round-target : (vs : List ℕ) → length vs ≡ length qs → (n : ℕ) → n < length qs → T (get_or qs n no_valued).target →
      get_or (round D qs vs) n 0 ≡ get_or vs n 0
  unfolding round round_at
  round-target vs e n h t = each_at D weighed.positive vs qs vs e n h ∙ by (get_or qs n no_valued).target t
    where
      by : (c : Bool) → T c → cond c (get_or vs n 0) (largest D vs (get_or qs n no_valued).rows) ≡ get_or vs n 0
      by true t = refl
      by false t = absurd t

  pub target_keeps : (r n : ℕ) → n < length qs → T (get_or qs n no_valued).target → get_or (values_after D qs r) n 0 ≡ whole
  unfolding values_after rounds
  target_keeps zero n h t = get_or-replicate (length qs) n whole 0 h
  target_keeps (suc r) n h t =
      ap (λ vs. get_or vs n 0) (rounds-last r first)
      ∙ round-target (rounds D qs r first) (rounds-length r first first-length) n h t
      ∙ target_keeps r n h t
