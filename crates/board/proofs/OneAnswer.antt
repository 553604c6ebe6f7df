-- At most one outcome meets the promise of each of the board's two calls. Assumes nothing.
use Prim.Native.Nat.{ℕ, zero, suc, ◌<◌}
use native.Mathlib.Omega.{arith}
use mathlib.Core.Path.{◌≡◌, refl, sym, ap, subst, ◌∙◌}
use mathlib.Core.Logic.{inl, inr}
use mathlib.Core.List.{List, [], ◌∷◌}
use lib.Dec.{T, eqb}
use lib.ListN.{length, get_or}
use Rattle.answers.specs.Checks.{Answer, Check, test, First}
use Rattle.answers.proofs.CheckLaws.{first_one}
use Rattle.acceptance.specs.declared.certificate.Certificate.{Certificate}
use Rattle.acceptance.specs.Judging.{Judged}
use Rattle.acceptance.proofs.Exact.{judged-only}
use Rattle.slots.specs.declared.Slot.{Slot}
use Rattle.slots.specs.Slots.{slot_at}
use Rattle.board.specs.declared.submissions.Ledger.{Ledger}
use Rattle.board.specs.declared.submissions.Reply.{Reply}
use Rattle.board.specs.declared.submissions.Submitted.{Submitted}
use Rattle.board.specs.declared.ranking.Ranking.{Ranking}
use Rattle.board.specs.Board.{all_good?, good_slots?, Board}
use Rattle.board.specs.Submissions.{Submission, submitted, board_checks, Then, put_of, written, ledger_after}
use Rattle.board.specs.Ranking.{ahead?, held?, InRank}
use Rattle.board.specs.Replies.{reply_of, ranking_of, Submits, Ranks}
use Rattle.board.proofs.Tests.{second-of}
use Rattle.board.proofs.OrderLaws.{ahead-trans, ahead-self, positive_of}

-- ---- submissions

then_one : {A : Type 0} (cs : List Check) (P : Answer A → Type 0) → ((a b : Answer A) → P a → P b → a ≡ b) → (a b : Answer A) → Then cs P a → Then cs P b →
    a ≡ b
then_one [] P one a b p q = one a b p q
then_one (c ∷ cs) P one a b (inl p) (inl q) = then_one cs P one a b p.1 q.1
then_one (c ∷ cs) P one a b (inl p) (inr q) = absurd (q.0 p.0)
then_one (c ∷ cs) P one a b (inr p) (inl q) = absurd (p.0 q.0)
then_one (c ∷ cs) P one a b (inr p) (inr q) = p.1 ∙ sym q.1

-- the answer, what stands beside the slots then, and the slots then
pub submits-one : (B : Board) (s : Submission) (r q : Submitted) (ss ys : List Slot) → Submits B s r ss → Submits B s q ys → (r ≡ q) × (ss ≡ ys)
submits-one B s r q ss ys h k = (
  ap (λ (x : Reply). record { answer = x; ledger = r.ledger }) (h.replies ∙ ap reply_of same ∙ sym k.replies)
      ∙ ap (λ (l : Ledger). record { answer = q.answer; ledger = l })
      (h.does.ledger ∙ ap (λ (a : Answer Certificate). ledger_after B (submitted s a)) same ∙ sym k.does.ledger),
  h.does.slots ∙ ap (λ (a : Answer Certificate). written B.slots (put_of (submitted s a))) same ∙ sym k.does.slots,
)
  where
    same : h.said ≡ k.said
    same = then_one (board_checks B s) (Judged s.model s.table) (judged-only s.model s.table) h.said k.said h.does.says k.does.says

-- ---- the rank

-- exactly the slots with P, each ahead of those behind it
record Lists (ss : List Slot) (P : ℕ → Type 0) (order : List ℕ) : Type 0 where
  sorted : (i j : ℕ) → i < j → j < length order → T (ahead? ss (get_or order i 0) (get_or order j 0))
  each : (i : ℕ) → i < length order → P (get_or order i 0)
  all : (n : ℕ) → P n → (i : ℕ) × ((i < length order) × (get_or order i 0 ≡ n))

module _ (ss : List Slot) (positive : (n : ℕ) → T (held? ss n) → 0 < (slot_at ss n).whole) where
  -- without the first one
  behind : (P : ℕ → Type 0) (x : ℕ) (xs : List ℕ) → Lists ss P (x ∷ xs) → Lists ss (λ n. P n × T (ahead? ss x n)) xs
  behind P x xs h = record {
    sorted = λ i j l m. h.sorted (suc i) (suc j) (omega arith) (omega arith);
    each = λ i l. (h.each (suc i) (omega arith), h.sorted 0 (suc i) (omega arith) (omega arith));
    all = λ n p. later n p.1 (h.all n p.0);
  }
    where
      later : (n : ℕ) → T (ahead? ss x n) → (i : ℕ) × ((i < length (x ∷ xs)) × (get_or (x ∷ xs) i 0 ≡ n)) → (i : ℕ) × ((i < length xs) × (get_or xs i 0 ≡ n))
      later n a (zero, (l, e)) = absurd (ahead-self ss n (subst (λ (k : ℕ). T (ahead? ss k n)) e a))
      later n a (suc i, (l, e)) = (i, (omega arith, e))

  -- an empty list has no place
  no_place : {n : ℕ} → (i : ℕ) × ((i < 0) × (get_or [] i 0 ≡ n)) → ⊥
  no_place (i, (l, e)) = omega arith

  -- two lists of the same slots are the same: the first of either is the first of the other
  lists-one : (P : ℕ → Type 0) → ((n : ℕ) → P n → T (held? ss n)) → (xs ys : List ℕ) → Lists ss P xs → Lists ss P ys → xs ≡ ys
  lists-one P held [] [] h k = refl
  lists-one P held [] (y ∷ ys) h k = absurd (no_place (h.all y (k.each 0 (omega arith))))
  lists-one P held (x ∷ xs) [] h k = absurd (no_place (k.all x (h.each 0 (omega arith))))
  lists-one P held (x ∷ xs) (y ∷ ys) h k =
      let e : x ≡ y = first (h.all y (k.each 0 (omega arith))) (k.all x (h.each 0 (omega arith))) in
      let rest : xs ≡ ys = lists-one (λ n. P n × T (ahead? ss x n)) (λ n p. held n p.0) xs ys (behind P x xs h)
      (subst (λ (z : ℕ). Lists ss (λ n. P n × T (ahead? ss z n)) ys) (sym e) (behind P y ys k)) in
      ap (λ (z : ℕ). z ∷ xs) e ∙ ap (λ (zs : List ℕ). y ∷ zs) rest
    where
      first : (i : ℕ) × ((i < length (x ∷ xs)) × (get_or (x ∷ xs) i 0 ≡ y)) → (j : ℕ) × ((j < length (y ∷ ys)) × (get_or (y ∷ ys) j 0 ≡ x)) → x ≡ y
      first (zero, (l, e)) q = e
      first (suc i, (l, e)) (zero, (m, f)) = sym f
      first (suc i, (l, e)) (suc j, (m, f)) =
          absurd (ahead-self ss x (ahead-trans ss positive x y x (held x (h.each 0 (omega arith))) (held y (k.each 0 (omega arith)))
          (held x (h.each 0 (omega arith)))
          (subst (λ (n : ℕ). T (ahead? ss x n)) e (h.sorted 0 (suc i) (omega arith) l))
          (subst (λ (n : ℕ). T (ahead? ss y n)) f (k.sorted 0 (suc j) (omega arith) m))))

pub in_rank-one : (ss : List Slot) → T (all_good? ss) → (xs ys : List ℕ) → InRank ss xs → InRank ss ys → xs ≡ ys
in_rank-one ss good xs ys h k = lists-one ss (positive_of ss good) (λ n. T (held? ss n)) (λ n t. t) xs ys (as-list h) (as-list k)
  where
    as-list : {order : List ℕ} → InRank ss order → Lists ss (λ n. T (held? ss n)) order
    as-list r = record { sorted = r.sorted; each = r.held; all = r.all }

pub ranks-one : (ss : List Slot) (r q : Ranking) → Ranks ss r → Ranks ss q → r ≡ q
ranks-one ss r q h k = h.replies ∙ ap ranking_of (by h.said k.said h.ranked.says k.ranked.says) ∙ sym k.replies
  where
    by : (a b : Answer (List ℕ)) → First (test 54 0 (good_slots? ss) ∷ []) (InRank ss) a → First (test 54 0 (good_slots? ss) ∷ []) (InRank ss) b → a ≡ b
    by a b (inl p) (inl q) = first_one [] (InRank ss) (in_rank-one ss (second-of (eqb (length ss) 16) (all_good? ss) p.0)) a b p.1 q.1
    by a b (inl p) (inr q) = absurd (q.0 p.0)
    by a b (inr p) (inl q) = absurd (p.0 q.0)
    by a b (inr p) (inr q) = p.1 ∙ sym q.1
