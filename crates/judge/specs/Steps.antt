-- Algorithm: checks one behind the other, of which the first that fails refuses. Assumes nothing.
use Rattle.std.specs.Prelude.{Result, Ok, Err}
use Rattle.answers.specs.declared.Refusal.{Refusal}

-- a check that gives nothing, or refuses
abbrev pub Checked : Type 0
Checked = Result (Unit {0}) Refusal

-- what comes behind a step, asked where it does not refuse
unfoldable pub and_then : {A B : Type 0} → Result A Refusal → (A → Result B Refusal) → Result B Refusal
and_then (Ok a) f = f a
and_then (Err r) f = Err r
