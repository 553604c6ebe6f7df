-- The last answer of a call, from the length of the draft: 60 where the lent words are too few for it, else the draft. Assumes nothing.
use Prim.Native.Nat.{ℕ, zero, suc, ◌+◌, ◌≤◌, ◌<◌, min}
use mathlib.Core.Path.{◌≡◌, refl, sym, ap, ◌∙◌}
use mathlib.Core.List.{List, ◌++◌}
use native.Mathlib.Omega.{arith}
use borrow.Author.Tests.{le-leb, lt-leb}
use lib.ListN.{length, drop, replicate, length-replicate}
use Rattle.std.specs.Prelude.{Ok, Err}
use Rattle.answers.specs.Checks.{accepted}
use Rattle.answers.specs.Refusals.{number, answer_of}
use Rattle.answers.specs.declared.Reason.TheVariants as reason
use Rattle.answers.specs.declared.Refusal.{Refusal}
use Rattle.drafting.specs.Drafting.{length_of, lent_after}
use Rattle.drafting.specs.Words.{whole}
use Rattle.model.specs.declared.index.IndexedModel.{IndexedModel}
use Rattle.draft.specs.Values.{round_of, rounds_of, values_of}
use Rattle.draft.specs.Writing.{nodes_size, drafted_in, last_answer}
use Rattle.draft.specs.declared.nodes.Node.{Node}
use Rattle.draft.proofs.ValueLaws.{round-length}
use Rattle.draft.proofs.WritingLaws.{text-length}

-- ---- there are 256 values, after any rounds
module _ (m : IndexedModel) where
  rounds-length : (nodes : List Node) (n : ℕ) (vs : List ℕ) → length (rounds_of m nodes n vs) ≡ length vs
  unfolding rounds_of
  rounds-length nodes zero vs = refl
  rounds-length nodes (suc n) vs = rounds-length nodes n (round_of m nodes vs) ∙ round-length m vs nodes 0 vs

  pub drafted-length : (nodes : List Node) → length nodes ≤ 64 → (rounds : ℕ) → 2 + nodes_size nodes ≡ length (drafted_in m nodes rounds)
  unfolding values_of
  drafted-length nodes few rounds =
      let size = rounds-length nodes (min rounds 1000) (replicate 256 whole) in
      sym (text-length nodes (values_of m nodes (min rounds 1000)) (omega (arith, length-replicate 256 whole)))

-- ---- n is the length of the draft
module _ (text lent : List ℕ) {n : ℕ} (size : n ≡ length text) where
  -- the lent words stay
  pub too_few : length lent < n → (r : Refusal) → r.reason ≡ reason.TooFewWords → r.place ≡ 0 →
      (answer_of (Err r) ≡ length_of (last_answer (length lent) text)) × (lent ≡ lent_after (last_answer (length lent) text) lent)
  unfolding last_answer length_of lent_after answer_of number
  too_few h r e f = let test = lt-leb (length text) (length lent) (rw size at h) in (rw (e, f, test) refl, rw test refl)

  -- the draft is put
  pub enough : n ≤ length lent → {after : List ℕ} → after ≡ text ++ drop (length text) lent →
      (answer_of (Ok n) ≡ length_of (last_answer (length lent) text)) × (after ≡ lent_after (last_answer (length lent) text) lent)
  unfolding last_answer length_of lent_after answer_of
  enough h put = let test = le-leb (length text) (length lent) (rw size at h) in (rw test (ap accepted size), rw test put)
