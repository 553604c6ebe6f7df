-- Lines that grow part by part at their end are the lines of the two answers. Assumes nothing.
use Rattle.std.proofs.Common.{◌≡◌, ℕ, ◌<◌, ◌^◌, List, [], ◌++◌, Ok, Err, ◌∙◌, append_assoc}
use Rattle.std.specs.Fmt as std
use Rattle.answers.specs.Checks.{refused, accepted}
use Rattle.answers.specs.Refusals.{number, answer_of}
use Rattle.answers.specs.declared.Refusal.{Refusal}
use Rattle.acceptance.specs.declared.certificate.Certificate.{Certificate}
use Rattle.judge_line.specs.Text.{accepted_text, refused_text, space, line_feed, decimal, line_of}
use Rattle.judge_line.specs.Printed.{shown}
use Rattle.judge_line.specs.declared.text.Line.{Line}
use Rattle.judge_line.proofs.Decimals.{in_decimal}

-- parts that are joined from the left are the same joined from the right
four : (a b c d : List ℕ) → a ++ b ++ c ++ d ≡ a ++ (b ++ (c ++ d))
four a b c d = append_assoc (a ++ b) c d ∙ append_assoc a b (c ++ d)

five : (a b c d e : List ℕ) → a ++ b ++ c ++ d ++ e ≡ a ++ (b ++ (c ++ (d ++ e)))
five a b c d e = append_assoc (a ++ b ++ c) d e ∙ four a b c (d ++ e)

seven : (a b c d e f g : List ℕ) → a ++ b ++ c ++ d ++ e ++ f ++ g ≡ a ++ (b ++ (c ++ (d ++ (e ++ (f ++ g)))))
seven a b c d e f g =
    append_assoc (a ++ b ++ c ++ d ++ e) f g ∙ append_assoc (a ++ b ++ c ++ d) e (f ++ g) ∙ five a b c d (e ++ (f ++ g))

-- `ACCEPTED b whole nodes` and a line feed
pub accepted_joined :
    (k : Certificate) {o a b c d e f g : List ℕ} → k.b < 2 ^ 64 → k.whole < 2 ^ 64 → k.nodes < 2 ^ 64 → o ≡ [] →
    a ≡ o ++ (accepted_text ++ space) → b ≡ a ++ std.decimal k.b → c ≡ b ++ space → d ≡ c ++ std.decimal k.whole → e ≡ d ++ space →
    f ≡ e ++ std.decimal k.nodes → g ≡ f ++ line_feed → g ≡ line_of (accepted k)
unfolding line_of
accepted_joined k hb hw hn n p q r s t u v =
    rw (v, u, t, s, r, q, p, n, in_decimal k.b hb, in_decimal k.whole hw, in_decimal k.nodes hn)
    (seven (accepted_text ++ space) (decimal k.b) space (decimal k.whole) space (decimal k.nodes) line_feed)

-- `REFUSED number place` and a line feed, whatever the number
pub refused_joined :
    (told place : ℕ) {o a b c d e : List ℕ} → told < 2 ^ 64 → place < 2 ^ 64 → o ≡ [] → a ≡ o ++ (refused_text ++ space) →
    b ≡ a ++ std.decimal told → c ≡ b ++ space → d ≡ c ++ std.decimal place → e ≡ d ++ line_feed → e ≡ line_of (refused told place)
unfolding line_of
refused_joined told place hn hp n p q s t u =
    rw (u, t, s, q, p, n, in_decimal told hn, in_decimal place hp) (five (refused_text ++ space) (decimal told) space (decimal place) line_feed)

-- the line of an acceptance is that of its certificate
pub accepted_shown : (line : Line) (k : Certificate) {e : List ℕ} → line.0 ≡ Ok k → e ≡ line_of (accepted k) → e ≡ shown line
unfolding answer_of
accepted_shown line k same h = rw same h

-- the line of a refusal is that of its number and its place
pub refused_shown :
    (line : Line) (r : Refusal) (told : ℕ) {e : List ℕ} → line.0 ≡ Err r → told ≡ number r.reason → e ≡ line_of (refused told r.place) → e ≡ shown line
unfolding answer_of
refused_shown line r told same is h = rw (same, ← is) h
