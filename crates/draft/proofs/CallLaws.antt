-- What the call comes to, by its parts: the model's refusal, the refusal of exploring, too few lent words, or the draft. Assumes nothing.
use Prim.Native.Nat.{ℕ, min}
use mathlib.Core.Path.{◌≡◌, refl, sym, subst}
use mathlib.Core.Logic.{inl, inr}
use mathlib.Core.Bool.{Bool, true, false, cond}
use mathlib.Core.List.{List, [], ◌∷◌}
use lib.Dec.{leb}
use lib.ListN.{length, replicate, length-replicate}
use Rattle.answers.specs.Checks.{refused, accepted, test, First}
use Rattle.model.specs.Model.{Model, model_of}
use Rattle.model.specs.Reading.{ReadModel}
use Rattle.model.specs.declared.read.Counts.{Counts}
use Rattle.model.proofs.WellFormed.{accepted-formed}
use Rattle.drafting.specs.Exploring.{Found, FoundRow, exploring}
use Rattle.drafting.specs.Words.{whole, words_of}
use Rattle.drafting.specs.Rounds.{Rounds}
use Rattle.drafting.specs.Drafting.{Ends, Drafts}
use Rattle.drafting.proofs.Shares.{Valued, rounds, values_after}
use Rattle.drafting.proofs.RoundLaws.{all_limited}
use Rattle.drafting.proofs.ExploreLaws.{exploring-found}
use Rattle.drafting.proofs.ValuedRows.{ValuedAll, valued-length}
use Rattle.drafting.proofs.KnownRows.{few-locations}
use Rattle.drafting.proofs.DraftRounds.{rounds-hold}
use Rattle.draft.specs.Writing.{last_answer}

-- a model that is refused
pub model-refused : (model : List ℕ) (n room number place : ℕ) → ReadModel model (refused number place) → Drafts model n room (refused number place)
model-refused model n room number place h = record { says = inr (number, place, h, refl) }

-- a model that is accepted
module _ (model : List ℕ) (counts : Counts) (reads : ReadModel model (accepted counts)) (n room : ℕ) where
  abbrev M : Model
  M = model_of model

  -- exploring is refused
  pub exploring-refused : (number place : ℕ) → exploring M [] (refused number place) → Drafts model n room (refused number place)
  exploring-refused number place h = record { says = inl (counts, reads, inr (number, place, h, refl)) }

  -- exploring is not refused
  module _ (Fs : List Found) (rows : List (List FoundRow)) (qs : List Valued)
      (explores : exploring M [] (accepted (record { found = Fs; result = rows }))) (valued : ValuedAll M Fs rows qs) where
    abbrev vs : List ℕ
    vs = values_after M.denominator qs (min n 1000)

    rounds-right : Rounds M Fs rows (min n 1000) (replicate (length Fs) whole) vs
    unfolding values_after
    rounds-right =
        subst (λ m. Rounds M Fs rows (min n 1000) (replicate (length Fs) whole) (rounds M.denominator qs (min n 1000) (replicate m whole)))
        (sym (valued-length valued))
        (rounds-hold M (accepted-formed model counts reads) (few-locations model counts reads) Fs rows
        (exploring-found M (accepted-formed model counts reads) _ explores) qs valued (min n 1000) (replicate (length Fs) whole)
        (length-replicate (length Fs) whole) (all_limited (length Fs)))

    ends : Ends M n room (record { found = Fs; result = rows }) (last_answer room (words_of Fs vs rows))
    unfolding last_answer
    ends = (vs, rounds-right, by (leb (length (words_of Fs vs rows)) room))
      where
        by : (c : Bool) → First (test 60 0 c ∷ []) (λ ws. ws ≡ words_of Fs vs rows) (cond c (accepted (words_of Fs vs rows)) (refused 60 0))
        by true = inl (tt, refl)
        by false = inr ((λ t. t), refl)

    pub draft-made : Drafts model n room (last_answer room (words_of Fs vs rows))
    draft-made = record { says = inl (counts, reads, inl (record { found = Fs; result = rows }, explores, ends)) }
