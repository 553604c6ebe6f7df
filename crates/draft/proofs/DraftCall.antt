-- What the parts of the call return decides its answer and what it leaves in the lent words. Assumes nothing.
use Prim.Native.Nat.{ℕ, min}
use mathlib.Core.Path.{◌≡◌, refl, sym, ap, subst, ◌∙◌}
use native.Mathlib.Nat.{le_trans}
use native.Mathlib.Omega.{arith}
use mathlib.Core.List.{List}
use lib.ListN.{length}
use Rattle.std.specs.Prelude.{Result, Ok, Err}
use Rattle.answers.specs.Checks.{Answer, refused}
use Rattle.answers.specs.Refusals.{number, answer_of}
use Rattle.answers.specs.declared.Reason.{Reason}
use Rattle.answers.specs.declared.Refusal.{Refusal}
use Rattle.model.specs.Model.{Model, model_of}
use Rattle.model.specs.Reading.{ReadModel}
use Rattle.model.specs.declared.index.IndexedModel.{IndexedModel}
use Rattle.model.specs.declared.read.Counts.{Counts}
use Rattle.model.specs.declared.read.ModelRead.{ModelRead}
use Rattle.judge.proofs.Answering.{ModelAccepted, good, formed}
use Rattle.drafting.specs.Words.{words_of}
use Rattle.drafting.specs.Drafting.{Drafts, length_of, lent_after, Drafted, CertifiesWritten}
use Rattle.drafting.proofs.Shares.{values_after}
use Rattle.drafting.proofs.ExploreLaws.{AllFound, exploring-found}
use Rattle.drafting.proofs.DraftJudged.{drafted-certifies}
use Rattle.draft.specs.Nodes.{fronts_of, rows_of}
use Rattle.draft.specs.Exploration.{explored_as, explored_from}
use Rattle.draft.specs.Asked.{ModelAsked}
use Rattle.draft.specs.Writing.{drafted_in, last_answer}
use Rattle.draft.specs.declared.nodes.Node.{Node}
use Rattle.draft.proofs.Coding.{Stored, AllExplored, ExploredRight}
use Rattle.draft.proofs.ExploredLaws.{explored_right}
use Rattle.draft.specs.Values.{values_of}
use Rattle.draft.proofs.TextLaws.{text-right}
use Rattle.draft.proofs.ValueLaws.{values-right}
use Rattle.draft.proofs.ModelLaws.{model-asked}
use Rattle.draft.proofs.CallLaws.{model-refused, exploring-refused, draft-made}

-- what the call promises of its answer and of the lent words after it
abbrev pub Promise : List ℕ → ℕ → List ℕ → Result ℕ Refusal → List ℕ → Type 0
Promise model n lent v after = Drafted model n lent (answer_of v) after × CertifiesWritten model (answer_of v) after

module _ (words : List ℕ) (n : ℕ) (lent : List ℕ) where
  promised : (v : Result ℕ Refusal) (after : List ℕ) (d : Answer (List ℕ)) → Drafts words n (length lent) d → answer_of v ≡ length_of d →
      after ≡ lent_after d lent → Promise words n lent v after
  promised v after d h e w =
      let made : Drafted words n lent (answer_of v) after = record { draft = d; drafts = h; answers = e; writes = w } in
      (made, drafted-certifies (answer_of v) made)

  -- the model's refusal, handed on
  pub refused-model : (v : Refusal) → ReadModel words (answer_of {A = Counts} (Err v)) → Promise words n lent (Err v) lent
  unfolding answer_of length_of lent_after
  refused-model v reads =
      promised (Err v) lent (refused (number v.reason) v.place) (model-refused words n (length lent) (number v.reason) v.place reads) refl refl

-- a model that was read and accepted
module _ {words : List ℕ} {r : ModelRead} {m : IndexedModel} (a : ModelAccepted words r m) where
  abbrev M : Model
  M = model_of words

  pub asked : ModelAsked m
  asked = model-asked a.kept.indexed (good words r m a) (formed words r m a)

  explores : ExploredRight M (explored_from m r.initial)
  explores = explored_right a.kept.indexed (good words r m a) (formed words r m a) r.initial a.kept.initial

  module _ (n : ℕ) (lent : List ℕ) where
    -- exploring is refused
    pub exploring-stops : (s : Reason) → Err s ≡ explored_from m r.initial → (v : Refusal) → v.reason ≡ s → v.place ≡ 0 →
        Promise words n lent (Err v) lent
    unfolding answer_of length_of lent_after
    exploring-stops s e v er ep =
        promised words n lent (Err v) lent (refused (number s) 0)
        (exploring-refused words r.counts a.reads n (length lent) (number s) 0 (subst (ExploredRight M) (sym e) explores))
        (rw (er, ep)) refl

    -- all is explored
    module _ (nodes : List Node) (e : Ok (explored_as (fronts_of nodes) (rows_of nodes)) ≡ explored_from m r.initial) where
      all : AllExplored M (explored_as (fronts_of nodes) (rows_of nodes))
      all = subst (ExploredRight M) (sym e) explores

      stored : Stored all.found all.rows all.valued nodes
      stored = record { fronts = all.fronts; rows_are = all.coded }

      found : AllFound M all.found all.rows
      found = exploring-found M (formed words r m a) _ all.explores

      text-is : drafted_in m nodes n ≡ words_of all.found (values_after M.denominator all.valued (min n 1000)) all.rows
      text-is =
          let x = a.kept.indexed in
          let formed = formed words r m a in
          let values = values-right x formed found all.values stored (min n 1000) in
          text-right formed found all.values stored (values_of m nodes (min n 1000))
          (rw values.0 (le_trans found.ready.few (omega arith)))
          ∙ ap (λ (vs : List ℕ). words_of all.found vs all.rows) values.1

      pub finished : (v : Result ℕ Refusal) (after : List ℕ) → answer_of v ≡ length_of (last_answer (length lent) (drafted_in m nodes n)) →
          after ≡ lent_after (last_answer (length lent) (drafted_in m nodes n)) lent → Promise words n lent v after
      finished v after answers writes =
          promised words n lent v after _
          (draft-made words r.counts a.reads n (length lent) all.found all.rows all.valued all.explores all.values)
          (rw text-is at answers) (rw text-is at writes)
