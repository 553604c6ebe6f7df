-- What a delay attains from the valuations of a table S among those of a table G: two closings give the table of it. Where no diagonal of that
-- table is negative, each of its valuations is attained, at twice the scale. Assumes nothing.
use Prim.Native.Nat.{ℕ, ◌*◌, ◌≤◌, ◌<◌}
use mathlib.Core.Path.{◌≡◌}
use native.Mathlib.Omega.{arith}
use Rattle.zone.proofs.Theory.BoundLaws.{BoundLaws}
use Rattle.zone.proofs.Theory.Tables.{Table, Ok, close, close-old, meet, meet_left}
use Rattle.zone.proofs.Theory.Meaning.{In, in_multiple, close_in, in_close, meet_in, in_meet-left, in_meet-right}
use Rattle.zone.proofs.Theory.Meaning.{Based, good-close}
use Rattle.zone.proofs.Theory.Delay.{later, delay, delay-diagonal, delay_in, Undelayed, in_delay}

module _ (𝓑 : BoundLaws) where
  open 𝓑 use {◌⊑◌, ⊑_trans}

  infix 50 ◌⊑◌
  unfoldable pub reach : ℕ → Table 𝓑 → Table 𝓑 → Table 𝓑
  reach n S G = close 𝓑 n (meet 𝓑 (delay 𝓑 (close 𝓑 n S)) G)

  -- u, at twice the scale, is where a delay of t from a valuation v of S ends, and is in G
  pub record Run (n : ℕ) (S G : Table 𝓑) (k : ℕ) (u : ℕ → ℕ) : Type 0 where
    pub v : ℕ → ℕ
    pub v₀ : v 0 ≡ 0
    pub t : ℕ
    pub starts : In 𝓑 n S (2 * k) v
    pub ends : In 𝓑 n G (2 * k) (later v t)
    pub reads : (i : ℕ) → i < n → later v t i ≡ 2 * u i

  module _ (n : ℕ) (S G : Table 𝓑) where
    -- ---- what is attained is in the table
    pub reach_in : {k : ℕ} {v : ℕ → ℕ} (t : ℕ) → In 𝓑 n S k v → In 𝓑 n G k (later v t) → In 𝓑 n (reach n S G) k (later v t)
    unfolding reach
    reach_in t p q = close_in 𝓑 (meet_in 𝓑 (delay_in 𝓑 t (close_in 𝓑 p)) q)

    -- ---- a diagonal that is not negative at the end was not negative at the start
    pub ok-start : Ok 𝓑 n (reach n S G) → Ok 𝓑 n (close 𝓑 n S)
    unfolding reach
    ok-start ok i h = rw (delay-diagonal 𝓑 (close 𝓑 n S) i) at
        (⊑_trans (ok i h) (⊑_trans (close-old 𝓑 n (meet 𝓑 (delay 𝓑 (close 𝓑 n S)) G) i i) (meet_left 𝓑 (delay 𝓑 (close 𝓑 n S)) G i i)))

    module _ (based : Based 𝓑 n S) (ok : Ok 𝓑 n (reach n S G)) (h₀ : 0 < n) where
      -- ---- each valuation of the table is attained, at twice the scale
      pub in_reach : {k : ℕ} {u : ℕ → ℕ} → 1 ≤ k → u 0 ≡ 0 → In 𝓑 n (reach n S G) k u → Run n S G k u
      unfolding reach
      in_reach {k} {u} k₁ u₀ p = record {
        v = a.v;
        v₀ = a.v₀;
        t = a.t;
        starts = in_close 𝓑 n S (omega arith) a.holds;
        ends = in_multiple 𝓑 2 (omega arith) a.reads (in_meet-right 𝓑 D G k₁ q);
        reads = a.reads;
      }
        where
          D : Table 𝓑
          D = delay 𝓑 (close 𝓑 n S)

          q : In 𝓑 n (meet 𝓑 D G) k u
          q = in_close 𝓑 n (meet 𝓑 D G) k₁ p

          a : Undelayed 𝓑 n (close 𝓑 n S) k u
          a = in_delay 𝓑 h₀ (good-close 𝓑 based (ok-start ok)) k₁ u₀ (in_meet-left 𝓑 D G k₁ q)
