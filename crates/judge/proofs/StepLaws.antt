-- Laws of steps that may refuse: what checks in an order come to. Assumes nothing.
use Rattle.std.proofs.Common.{◌≡◌, ℕ, refl, ap₂, inl, inr, Bool, true, false, cond, List, [], ◌∷◌, ◌++◌, Result, Ok, Err}
use Rattle.answers.specs.Checks.{refused, Check, First}
use Rattle.answers.specs.Refusals.{answer_of}
use Rattle.answers.specs.declared.Reason.{Reason}
use Rattle.answers.specs.declared.Refusal.{Refusal}
use Rattle.answers.proofs.CheckLaws.{first-join, first_holds}
use Rattle.answers.proofs.RefusalLaws.{handed}
use Rattle.answers.specs.Refusals.{refuse}
use Rattle.judge.specs.Steps.{Checked, and_then}

-- what checks in an order come to: the refusal of the first that does not hold, or a value of which P holds
pub record Comes {A : Type 0} (cs : List Check) (P : A → Type 0) (r : Result A Refusal) : Type 0 where
  pub says : First cs P (answer_of r)

-- the same where they give nothing
abbrev pub Finds : List Check → Checked → Type 0
Finds cs r = Comes cs (λ (_ : Unit {0}). Unit {0}) r

-- checks in front of others come first; the others are asked where those hold
pub comes-first :
    {A B : Type 0} (cs ds : List Check) (P : A → Type 0) (Q : B → Type 0) (r : Result A Refusal) (f : A → Result B Refusal) → Comes cs P r →
    ((x : A) → P x → Comes ds Q (f x)) → Comes (cs ++ ds) Q (and_then r f)
unfolding and_then answer_of
comes-first cs ds P Q (Ok x) f h i = let g = first_holds cs P x h.says in record { says = first-join cs ds Q _ g.0 (i x g.1).says }
comes-first cs ds P Q (Err e) f h i = record { says = handed cs ds P Q e h.says }

-- a refusal by its reason and its place
pub refused-at : {A : Type 0} {r : Refusal} {x : Reason} {p : ℕ} → r.reason ≡ x → r.place ≡ p → ◌≡◌ {A = Result A Refusal} (Err r) (refuse x p)
refused-at {A} e f = ap₂ (λ (y : Reason) (q : ℕ). refuse {A = A} y q) e f

-- no check refuses nothing
pub none_found : Finds [] (Ok tt)
unfolding answer_of
none_found = record { says = tt }

-- a test that decides whether a check holds, in front of others
pub decides :
    {A : Type 0} {c : Check} {cs : List Check} {P : A → Type 0} (b : Bool) (e r : Result A Refusal) → (b ≡ true → c.holds) → (b ≡ false → c.holds → ⊥) →
    answer_of e ≡ refused c.number c.place → Comes cs P r → Comes (c ∷ cs) P (cond b r e)
decides true e r pass fail q h = record { says = inl (pass refl, h.says) }
decides false e r pass fail q h = record { says = inr (fail refl, q) }

-- the same checks and result, written in another way
pub found_as : {cs ds : List Check} {r s : Checked} → Finds cs r → ds ≡ cs → s ≡ r → Finds ds s
found_as h e i = rw (e, i) h
