-- Document 01, "The four calls and their refusals": the line that the program prints, as ASCII codes. Assumes nothing.
use Rattle.std.specs.Prelude.{ℕ, zero, suc, ◌+◌, ◌/◌, ◌%◌, List, [], ◌∷◌, ◌++◌}
use Rattle.answers.specs.Checks.{Answer, refused, accepted}
use Rattle.acceptance.specs.declared.certificate.Certificate.{Certificate}

-- ACCEPTED, REFUSED, a space and a line feed
abbrev pub accepted_text : List ℕ
accepted_text = 65 ∷ 67 ∷ 67 ∷ 69 ∷ 80 ∷ 84 ∷ 69 ∷ 68 ∷ []

abbrev pub refused_text : List ℕ
refused_text = 82 ∷ 69 ∷ 70 ∷ 85 ∷ 83 ∷ 69 ∷ 68 ∷ []

abbrev pub space : List ℕ
space = 32 ∷ []

abbrev pub line_feed : List ℕ
line_feed = 10 ∷ []

-- the digits of n in base ten, at most so many, the most significant first and none to spare, so none for 0
unfoldable pub digits_within : ℕ → ℕ → List ℕ
digits_within zero n = []
digits_within (suc most) zero = []
digits_within (suc most) (suc n) = digits_within most (suc n / 10) ++ ((48 + suc n % 10) ∷ [])

-- a number as text: its last digit, 0 too, after those before it, for which n digits are always enough
abbrev pub decimal : ℕ → List ℕ
decimal n = digits_within n (n / 10) ++ ((48 + n % 10) ∷ [])

-- `ACCEPTED b V nodes` or `REFUSED number place` and a line feed
unfoldable pub line_of : Answer Certificate → List ℕ
line_of (accepted c) =
    accepted_text ++ (space ++ (decimal c.b ++ (space ++ (decimal c.whole ++ (space ++ (decimal c.nodes ++ line_feed))))))
line_of (refused number place) = refused_text ++ (space ++ (decimal number ++ (space ++ (decimal place ++ line_feed))))
