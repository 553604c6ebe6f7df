-- The nodes that a table's words name: which word refusal 14 names, and when the words need not be searched for it. Assumes nothing.
use Prim.Native.Nat.{ℕ, ◌<◌}
use mathlib.Core.Path.{◌≡◌, refl}
use mathlib.Core.Bool.{Bool, true, false, not, ◌&&◌, ◌||◌}
use mathlib.Core.List.{List, []}
use native.Mathlib.Omega.{arith}
use borrow.Author.Tests.{eqb-true, lt-leb}
use lib.Dec.{leb, ltb}
use Rattle.std.specs.List.{position, position_from}
use Rattle.std.proofs.lemmas.Bool.Decides.{nat_tests}
use Rattle.std.proofs.lemmas.List.{append-nil}
use Rattle.std.proofs.lemmas.Iterator.Adapters.{position_from-zero}
use Rattle.answers.specs.Checks.{First}
use Rattle.answers.specs.Refusals.{number, answer_of}
use Rattle.zone.specs.Words.{kind}
use Rattle.model.specs.declared.table_kinds.TableKind.{TableKind}
use Rattle.model.specs.declared.table_kinds.TableKind.TheVariants.{None as no_kind, Head as table_head, Node as node, Bound as node_bound, Value as value, Blocked as blocked, Successor as successor, StartNode as start_node, Cut as cut}
use Rattle.model.specs.TableKinds.{is_table, table_kind_of}
use Rattle.model.specs.declared.index.Index.{Index}
use Rattle.model.proofs.TableKindLaws.{kind-is}
use Rattle.pass.proofs.Run.{seen_end}
use Rattle.pass.proofs.Named.{from-first, searched}
use Rattle.table.specs.Fields.{number_of}
use Rattle.table.specs.Reading.{number_checks}
use Rattle.table.specs.Scan.{nothing, with_number, seen_with_kind, seen_with}
use Rattle.table.specs.Index.{steps, lacks_node?, missing_of, unless_missing}
use Rattle.table.specs.declared.seen.Seen.{Seen}
use Rattle.table.proofs.ScanLaws.{in_row}

-- the test of the definition is that of the call
there : (nodes w : ℕ) → (not (is_table successor w || is_table start_node w) || ltb (number_of w) nodes) ≡ not (lacks_node? nodes w)
there nodes w = grind (arith, nat_tests)

-- the first word whose node is missing is the one that refusal 14 names: of words the first of which has index p
pub numbers-from : (nodes p : ℕ) (ws : List ℕ) →
    First (number_checks nodes p ws) (λ (t : Unit {0}). Unit {0}) (answer_of (unless_missing (position_from (lacks_node? nodes) p ws)))
unfolding number_checks unless_missing answer_of number
numbers-from nodes p ws =
    rw (append-nil (number_checks nodes p ws)) at
    (from-first (λ t. Unit {0}) (λ m. answer_of (unless_missing m)) 14 (λ p. refl) (lacks_node? nodes) _ (there nodes) (number_checks nodes)
    (λ p. refl) (λ p w ws. refl) [] p ws λ e. tt)

-- and of all words
pub numbers-first : (nodes : ℕ) (ws : List ℕ) →
    First (number_checks nodes 0 ws) (λ (t : Unit {0}). Unit {0}) (answer_of (unless_missing (position (lacks_node? nodes) ws)))
numbers-first nodes ws = rw (position_from-zero (lacks_node? nodes) ws) (numbers-from nodes 0 ws)

-- ---- the furthest node that the words name

module _ (x : Index) (nodes : ℕ) (s : Seen) (w : ℕ) where
  -- the node of a word of kind B or C
  abbrev There : TableKind → Type 0
  There k = ((k ≡ successor → number_of w < nodes) × (k ≡ start_node → number_of w < nodes))

  -- a word takes nothing back, and its node is named
  further : (k : TableKind) → (seen_with_kind k x s w).furthest < nodes → (s.furthest < nodes) × There k
  unfolding seen_with_kind
  further no_kind h = (h, ((λ e. absurd cc), (λ e. absurd cc)))
  further table_head h = (h, ((λ e. absurd cc), (λ e. absurd cc)))
  further node h = (h, ((λ e. absurd cc), (λ e. absurd cc)))
  further node_bound h = (h, ((λ e. absurd cc), (λ e. absurd cc)))
  further value h = (h, ((λ e. absurd cc), (λ e. absurd cc)))
  further blocked h = (h, ((λ e. absurd cc), (λ e. absurd cc)))
  further successor h =
      let named = (in_row x (with_number s w)).furthest in (omega arith, ((λ e. omega arith), (λ e. absurd cc)))
  further start_node h = (omega arith, ((λ e. absurd cc), (λ e. omega arith)))
  further cut h = (h, ((λ e. absurd cc), (λ e. absurd cc)))

  named : (seen_with x s w).furthest < nodes → (s.furthest < nodes) × (lacks_node? nodes w ≡ false)
  unfolding seen_with
  named h =
      let f = further (table_kind_of w) h in (
        f.0,
        by (is_table successor w) (is_table start_node w)
            (λ e. f.1.0 (kind-is successor w (eqb-true (kind w) 11 e))) (λ e. f.1.1 (kind-is start_node w (eqb-true (kind w) 12 e))),
      )
    where
      by : (a b : Bool) → (a ≡ true → number_of w < nodes) → (b ≡ true → number_of w < nodes) → ((a || b) && leb nodes (number_of w)) ≡ false
      by true b f g = lt-leb nodes (number_of w) (f refl)
      by false true f g = lt-leb nodes (number_of w) (g refl)
      by false false f g = refl

-- if it is there, no word's node is missing, so the words need not be searched
pub missing-is : (x : Index) (words : List ℕ) (s : Seen) → s ≡ seen_end (steps x) nothing 0 words →
    missing_of s words ≡ position (lacks_node? s.nodes) words
unfolding missing_of
missing-is x words s e =
    rw e (let n = (seen_end (steps x) nothing 0 words).nodes in
    searched (steps x) (λ s. s.furthest) n (lacks_node? n) (λ s w p. named x n s w) nothing 0 words)
