-- What a table says of valuations at a scale. Closing keeps it exactly, a meet holds what both tables hold, and a negative diagonal rules
-- every valuation out. Assumes nothing.
use Prim.Native.Nat.{ℕ, zero, suc, ◌*◌, ◌≤◌, ◌<◌}
use mathlib.Core.Path.{◌≡◌}
use native.Mathlib.Nat as N
use native.Mathlib.Omega.{arith}
use Rattle.zone.proofs.Theory.BoundLaws.{BoundLaws}
use Rattle.zone.proofs.Theory.Tables.{Table, Closed, Ok, pass, pass-cases, close, close-old, close-closed}
use Rattle.zone.proofs.Theory.Tables.{insert, insert-old, insert-through, insert-diagonal, meet, meet_left, meet_right, meet-cases}

module _ (𝓑 : BoundLaws) where
  open 𝓑 use {B, ◌⊑◌, ◌⊕◌, at_most_zero, ⊑_trans, Holds, holds-⊑, holds-⊕, holds-self, multiply}

  infix 50 ◌⊑◌
  infixl 70 ◌⊕◌
  -- the valuation v, of the clocks below n, is in the table at scale k
  pub record In (n : ℕ) (T : Table 𝓑) (k : ℕ) (v : ℕ → ℕ) : Type 0 where
    pub at : (i j : ℕ) → i < n → j < n → Holds k (v i) (v j) (T i j)

  -- a table that is tighter in every cell holds fewer valuations
  pub in-⊑ : {n : ℕ} {T U : Table 𝓑} {k : ℕ} {v : ℕ → ℕ} → 1 ≤ k → ((i j : ℕ) → i < n → j < n → T i j ⊑ U i j) → In n T k v → In n U k v
  in-⊑ {k} {v} k₁ h p = record { at = λ i j hi hj. holds-⊑ k k₁ (v i) (v j) (h i j hi hj) (p.at i j hi hj) }

  -- at a multiple of the scale, a valuation that reads so many times the same
  pub in_multiple : {n : ℕ} {T : Table 𝓑} {k : ℕ} {u w : ℕ → ℕ} (m : ℕ) → 1 ≤ m → ((i : ℕ) → i < n → w i ≡ m * u i) → In n T k u →
      In n T (m * k) w
  in_multiple {T = T} {k} {u} m m₁ e p = record { at = λ i j hi hj. rw (e i hi, e j hj) (multiply m m₁ k (u i) (u j) (T i j) (p.at i j hi hj)) }

  pub pass_in : {n m : ℕ} {T : Table 𝓑} {k : ℕ} {v : ℕ → ℕ} → m < n → In n T k v → In n (pass 𝓑 m T) k v
  pass_in {m} {T} {k} {v} hm p = record {
    at = λ i j hi hj. pass-cases 𝓑 T m i j (λ b. Holds k (v i) (v j) b) (p.at i j hi hj)
        (holds-⊕ k (v i) (v m) (v j) (T i m) (T m j) (p.at i m hi hm) (p.at m j hm hj));
  }

  -- closing keeps the meaning, at every scale
  passes-in : {n : ℕ} (m : ℕ) {T : Table 𝓑} {k : ℕ} {v : ℕ → ℕ} → m ≤ n → In n T k v → In n (close 𝓑 m T) k v
  unfolding close
  passes-in zero hm p = p
  passes-in (suc m) hm p = pass_in hm (passes-in m (omega arith) p)

  pub close_in : {n : ℕ} {T : Table 𝓑} {k : ℕ} {v : ℕ → ℕ} → In n T k v → In n (close 𝓑 n T) k v
  close_in {n} p = passes-in n (N.le_refl n) p

  pub in_close : {n : ℕ} (m : ℕ) (T : Table 𝓑) {k : ℕ} {v : ℕ → ℕ} → 1 ≤ k → In n (close 𝓑 m T) k v → In n T k v
  in_close m T k₁ p = in-⊑ k₁ (λ i j _ _. close-old 𝓑 m T i j) p

  -- a valuation at any scale shows that no diagonal of the closed table is negative
  pub diagonal : {n : ℕ} {T : Table 𝓑} {k : ℕ} {v : ℕ → ℕ} → 1 ≤ k → In n T k v → Ok 𝓑 n T
  diagonal {T} {k} {v} k₁ p i h = holds-self k k₁ (v i) (T i i) (p.at i i h h)

  -- a meet holds exactly what both tables hold
  pub meet_in : {n : ℕ} {T U : Table 𝓑} {k : ℕ} {v : ℕ → ℕ} → In n T k v → In n U k v → In n (meet 𝓑 T U) k v
  meet_in {T} {U} {k} {v} p q = record { at = λ i j hi hj. meet-cases 𝓑 T U i j (λ b. Holds k (v i) (v j) b) (p.at i j hi hj) (q.at i j hi hj) }

  pub in_meet-left : {n : ℕ} (T U : Table 𝓑) {k : ℕ} {v : ℕ → ℕ} → 1 ≤ k → In n (meet 𝓑 T U) k v → In n T k v
  in_meet-left T U k₁ p = in-⊑ k₁ (λ i j _ _. meet_left 𝓑 T U i j) p

  pub in_meet-right : {n : ℕ} (T U : Table 𝓑) {k : ℕ} {v : ℕ → ℕ} → 1 ≤ k → In n (meet 𝓑 T U) k v → In n U k v
  in_meet-right T U k₁ p = in-⊑ k₁ (λ i j _ _. meet_right 𝓑 T U i j) p

  -- ---- no clock is below 0, and none is before or after itself
  pub record Based (n : ℕ) (T : Table 𝓑) : Type 0 where
    pub flat : (i : ℕ) → i < n → T i i ⊑ at_most_zero
    pub low₀ : (i : ℕ) → i < n → T 0 i ⊑ at_most_zero

  -- only the diagonal and the row of clock 0 matter
  pub based-⊑ : {n : ℕ} {T U : Table 𝓑} → ((i : ℕ) → T i i ⊑ U i i) → ((i : ℕ) → T 0 i ⊑ U 0 i) → Based n U → Based n T
  based-⊑ d r b = record { flat = λ i h. ⊑_trans (d i) (b.flat i h); low₀ = λ i h. ⊑_trans (r i) (b.low₀ i h) }

  pub close-based : {n : ℕ} {T : Table 𝓑} (m : ℕ) → Based n T → Based n (close 𝓑 m T)
  close-based {T} m b = based-⊑ (λ i. close-old 𝓑 m T i i) (close-old 𝓑 m T 0) b

  pub insert-based : {n : ℕ} {T : Table 𝓑} (p q : ℕ) (c : B) → Based n T → Based n (insert 𝓑 p q c T)
  insert-based {T} p q c b = based-⊑ (λ i. insert-old 𝓑 T p q c i i) (insert-old 𝓑 T p q c 0) b

  pub meet-based : {n : ℕ} {T : Table 𝓑} (U : Table 𝓑) → Based n T → Based n (meet 𝓑 T U)
  meet-based {T} U b = based-⊑ (λ i. meet_left 𝓑 T U i i) (meet_left 𝓑 T U 0) b

  -- ---- a closed table with no negative diagonal: the tables that hold a valuation at some scale
  pub record Good (n : ℕ) (A : Table 𝓑) : Type 0 where
    pub closed : Closed 𝓑 n A
    pub ok : Ok 𝓑 n A
    pub based : Based n A

  pub good-close : {n : ℕ} {T : Table 𝓑} → Based n T → Ok 𝓑 n (close 𝓑 n T) → Good n (close 𝓑 n T)
  good-close {n} {T} b ok = record { closed = close-closed 𝓑 n T ok; ok = ok; based = close-based n b }

  -- one bound more that fits
  pub good-insert : {n : ℕ} {A : Table 𝓑} (p q : ℕ) (c : B) → at_most_zero ⊑ A q p ⊕ c → Good n A → Good n (insert 𝓑 p q c A)
  good-insert {A} p q c fits g = record {
    closed = λ l h. insert-through 𝓑 A p q c fits l (g.closed l h);
    ok = λ l h. insert-diagonal 𝓑 A p q c fits l (g.closed l h) (g.ok l h);
    based = insert-based p q c g.based;
  }
