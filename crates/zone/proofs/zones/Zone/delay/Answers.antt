-- One row more has its upper bound dropped; clock 0 has none here.
use Rattle.std.proofs.Common.{◌≡◌, sym, ℕ, ◌+◌, ◌/◌, ◌%◌, ◌≤◌, ◌<◌, not, length, get_or, eqb, arith, rules}
use mathlib.Core.Bool.{and-false}
use borrow.Author.Tests.{eq-eqb, ne_eqb}
use Rattle.zone.specs.Cells.{unbounded, past_end}
use Rattle.zone.specs.Squares.{delayed_square}
use Rattle.zone.specs.declared.zones.Zone.{Zone as Square}
use Rattle.zone.proofs.Loops.{list_of-length, list_of-at, at-clocks, unfilled, stored, kept, filled}
use Rattle.zone.proofs.zones.Zone.delay.Goals as goal

-- clock 0 has no upper bounds here, the others have theirs in the first column
first-row : (z : Square) (k : ℕ) → k < 5 → get_or z.cells k past_end ≡ get_or (delayed_square z).cells k past_end
first-row z k h = rw (list_of-at past_end _ 25 k (omega arith), eq-eqb (k / 5) 0 (omega arith)) (sym (at-clocks z k))

upper : (z : Square) (p : ℕ) → p % 5 ≡ 0 → 5 ≤ p → p < 25 → unbounded ≡ get_or (delayed_square z).cells p past_end
upper z p e h l = rw (list_of-at past_end _ 25 p l, ne_eqb (p / 5) 0 (λ q. omega arith), eq-eqb (p % 5) 0 e)

not-upper :
    (z : Square) (p k : ℕ) → p % 5 ≡ 0 → p < 25 → p + 1 ≤ k → k < p + 5 →
    get_or z.cells k past_end ≡ get_or (delayed_square z).cells k past_end
not-upper z p k e g h l =
    rw (list_of-at past_end _ 25 k (omega arith), ne_eqb (k % 5) 0 (λ q. omega arith), and-false (not (eqb (k / 5) 0))) (sym (at-clocks z k))

pub loop-p-init : goal.loop-p-init
loop-p-init c =
    let size : length c.args.self.cells ≡ 25 = search rules in
    record { row = omega arith; filled = kept (unfilled size) 5 (omega arith) (λ k l m. first-row c.args.self k m) }

pub loop-p-preserved : goal.loop-p-preserved
loop-p-preserved c =
    let here = c.loop-p in
    let row = here.invariant.row in
    record {
      row = omega arith;
      filled = kept (stored here.invariant.filled unbounded (omega arith) (upper c.args.self here.p row here.auto.p (omega arith))) (here.p + 5) (omega arith)
          (λ k l m. not-upper c.args.self here.p k row (omega arith) l m);
    }

pub returns : goal.returns
returns c = filled c.loop-p.invariant.filled (list_of-length _ 25 0) (omega arith)
