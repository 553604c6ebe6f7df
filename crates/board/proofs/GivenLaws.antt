-- Document 02, card 3: a fraction that a table could give, and the test of it in numbers. Assumes nothing.
use Prim.Native.Nat.{ℕ, ◌+◌, ◌≤◌}
use native.Mathlib.Omega.{arith}
use mathlib.Core.Logic.{◌↔◌}
use mathlib.Core.Bool.{true, ◌&&◌}
use mathlib.Core.List.{List}
use lib.Dec.{T, ltb, lt→ltb, leb, leb→le, le→leb}
use Rattle.answers.specs.Checks.{accepted}
use Rattle.zone.proofs.Bools.{and}
use Rattle.acceptance.specs.declared.certificate.Certificate.{Certificate}
use Rattle.acceptance.specs.Judging.{Judged}
use Rattle.acceptance.proofs.Fractions.{given-fits, alone_model, alone_table, fits-given}
use Rattle.board.specs.Board.{every?, words?, Gives, could_give?}
use Rattle.board.proofs.Tests.{first_of, second-of}

-- whatever table gives a fraction, it passes the test
pub judged-fits : (model table : List ℕ) (c : Certificate) → Judged model table (accepted c) → T (could_give? c.b c.whole)
judged-fits model table c j =
    let f = given-fits model table c j in
    and (leb 1 c.whole) (leb c.whole 268435455 && leb c.b c.whole) (le→leb 1 c.whole f.0)
    (and (leb c.whole 268435455) (leb c.b c.whole) (le→leb c.whole 268435455 f.1.0) (le→leb c.b c.whole f.1.1))

-- the table of one node has 32-bit words
alone-words : (b whole : ℕ) → whole ≤ 268435455 → b ≤ whole → T (words? (alone_table b whole))
unfolding every?
alone-words b whole h k =
    and (ltb (0x70000000 + whole) 0x100000000) (ltb (0x90000000 + b) 0x100000000 && true) (lt→ltb (0x70000000 + whole) 0x100000000 (omega arith))
    (and (ltb (0x90000000 + b) 0x100000000) true (lt→ltb (0x90000000 + b) 0x100000000 (omega arith)) tt)

module _ (b whole : ℕ) where
  gives : T (could_give? b whole) → Gives b whole
  unfolding every?
  gives t =
      let rest : T (leb whole 268435455 && leb b whole) = second-of (leb 1 whole) (leb whole 268435455 && leb b whole) t in
      let some : 1 ≤ whole = leb→le 1 whole (first_of (leb 1 whole) (leb whole 268435455 && leb b whole) t) in
      let most : whole ≤ 268435455 = leb→le whole 268435455 (first_of (leb whole 268435455) (leb b whole) rest) in
      let up : b ≤ whole = leb→le b whole (second-of (leb whole 268435455) (leb b whole) rest) in
      record { model = alone_model; table = alone_table b whole; nodes = 1; words = (tt, alone-words b whole most up); judged = fits-given b whole some most up }

  given : Gives b whole → T (could_give? b whole)
  given g = judged-fits g.model g.table (record { b = b; whole = whole; nodes = g.nodes }) g.judged

  pub could_give : T (could_give? b whole) ↔ Gives b whole
  could_give = (gives, given)
