-- Laws of the kinds of a table's words. Assumes nothing.
use Prim.Native.Nat.{ℕ}
use mathlib.Core.Path.{◌≡◌, refl}
use Rattle.zone.specs.Words.{kind}
use Rattle.model.specs.Kinds.{among}
use Rattle.model.specs.TableKinds.{TableKind, no_kind, table_head, node, node_bound, value, blocked, successor, start_node, cut}
use Rattle.model.specs.TableKinds.{table_number, table_kinds, table_kind_of}
use Rattle.model.proofs.KindLaws.{by-among}

-- a word with the number of a kind is of that kind
pub kind-is : (k : TableKind) (w : ℕ) → kind w ≡ table_number k → table_kind_of w ≡ k
unfolding table_kind_of among
kind-is no_kind w e = rw e
kind-is table_head w e = rw e
kind-is node w e = rw e
kind-is node_bound w e = rw e
kind-is value w e = rw e
kind-is blocked w e = rw e
kind-is successor w e = rw e
kind-is start_node w e = rw e
kind-is cut w e = rw e

-- what holds of none, and of each kind whose number a word has, holds of the word's kind
pub by_kind : (P : TableKind → Type 0) (w : ℕ) → P no_kind → ((k : TableKind) → kind w ≡ table_number k → P k) → P (table_kind_of w)
unfolding table_kind_of
by_kind P w n f = by-among table_number no_kind P w table_kinds n f

-- a word has not the number of a kind
abbrev pub IsNot : TableKind → ℕ → Type 0
IsNot k w = kind w ≡ table_number k → ⊥

-- a word with none of these numbers is of no kind
pub no_kind_lem :
    (w : ℕ) → IsNot node_bound w → IsNot table_head w → IsNot node w → IsNot value w → IsNot blocked w → IsNot successor w →
    IsNot start_node w → IsNot cut w → table_kind_of w ≡ no_kind
no_kind_lem w b h n v a s c d = by_kind (λ (k : TableKind). k ≡ no_kind) w refl other
  where
    other : (k : TableKind) → kind w ≡ table_number k → k ≡ no_kind
    other no_kind q = refl
    other table_head q = absurd (h q)
    other node q = absurd (n q)
    other node_bound q = absurd (b q)
    other value q = absurd (v q)
    other blocked q = absurd (a q)
    other successor q = absurd (s q)
    other start_node q = absurd (c q)
    other cut q = absurd (d q)
