-- Document 01, "The four calls and their refusals": the two questions about zones. Assumes nothing.
use Rattle.std.specs.Prelude.{ℕ, suc, ◌↔◌, Bool, ◌&&◌, List, [], ◌∷◌, ◌++◌, T, leb}
use Rattle.zone.specs.Scale.{within, Empty, Inside}
use Rattle.zone.specs.Words.{good_bound?, zone_of}
use Rattle.answers.specs.Checks.{Answer, Check, test, First}

-- C is 1 to 4
abbrev pub clocks? : ℕ → Bool
clocks? C = leb 1 C && leb C 4

-- 31: C outside 1 to 4 (place 0)
unfoldable pub clock_check : ℕ → Check
clock_check C = test 31 0 (clocks? C)

-- 32, or 33: a word that is no good bound, at its index in its own list, counted from p
unfoldable pub bound_checks : ℕ → ℕ → ℕ → List ℕ → List Check
bound_checks number C p [] = []
bound_checks number C p (w ∷ ws) = test number p (good_bound? C w) ∷ bound_checks number C (suc p) ws

-- Asking whether a zone is empty takes C and bound words: 31, then 32
pub record AskedEmpty (C : ℕ) (words : List ℕ) (answer : Answer Bool) : Type 0 where
  pub says : First (clock_check C ∷ bound_checks 32 C 0 words) (λ yes?. T yes? ↔ Empty (within (zone_of words))) answer

-- Asking whether one zone lies inside another gives 31, then 32 for the first list, 33 for the second
pub record AskedInside (C : ℕ) (first second : List ℕ) (answer : Answer Bool) : Type 0 where
  pub says :
      First (clock_check C ∷ (bound_checks 32 C 0 first ++ bound_checks 33 C 0 second))
      (λ yes?. T yes? ↔ Inside (within (zone_of first)) (within (zone_of second))) answer
