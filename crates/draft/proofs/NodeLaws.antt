-- Laws of the nodes found: the search for a known node, and a node more behind the others. Assumes nothing.
use Prim.Native.Nat.{ℕ, ◌+◌, ◌<◌}
use mathlib.Core.Path.{◌≡◌, refl, sym, ap, ◌∙◌}
use mathlib.Core.Bool.{Bool, cond}
use mathlib.Core.List.{List, [], ◌∷◌, ◌++◌, map, map-append}
use borrow.Author.Tests.{lt-ltb}
use lib.Dec.{ltb}
use lib.ListN.{length, length-map}
use Rattle.arrayvec.specs.ArrayVec.{ArrayVec}
use Rattle.draft.specs.Nodes.{node, fronts_of, known_in, same_front?, Placing, new_node, added_to, placed_in, known_or}
use Rattle.draft.specs.declared.nodes.Front.{Front}
use Rattle.draft.specs.declared.nodes.Node.{Node}
use Rattle.std.specs.Prelude.{Option, Some, None, Result, Ok, Err, IfOk}
use Rattle.std.specs.List.{position, position_from}
use Rattle.std.proofs.lemmas.Option.{same_Some}
use Rattle.zone.proofs.Bools.{by-test}
use Rattle.std.proofs.lemmas.Iterator.Adapters.{position_from-zero}
use Rattle.answers.specs.declared.Reason.{Reason}
use Rattle.answers.specs.declared.Reason.TheVariants as reason

-- ---- the search, by nodes or by their fronts
position_from-map : {A B : Type 0} (p : B → Bool) (f : A → B) (i : ℕ) (xs : List A) → position_from p i (map f xs) ≡ position_from (λ x. p (f x)) i xs
position_from-map p f i [] = refl
position_from-map p f i (x ∷ xs) = ap (cond (p (f x)) (Some i)) (position_from-map p f (i + 1) xs)

pub known-is : (f : Front) (nodes : List Node) → position (λ (n : Node). same_front? n.front f) nodes ≡ known_in f (fronts_of nodes)
known-is f nodes =
    position_from-zero (λ (n : Node). same_front? n.front f) nodes
    ∙ sym (position_from-map (λ (g : Front). same_front? g f) (λ (n : Node). n.front) 0 nodes)

-- ---- a node more
pub empty-rows : (v : ArrayVec ℕ) → v.items ≡ [] → v ≡ record { items = [] }
empty-rows v e = ap (λ (xs : List ℕ). record { items = xs }) e

pub added_full : (front : Option Front) (nodes : List Node) → length nodes ≡ 64 → Err reason.TooManyNodes ≡ added_to front (fronts_of nodes)
unfolding added_to
added_full front nodes e = rw (length-map nodes (λ (n : Node). n.front), e) refl

pub added_room : (front : Option Front) (nodes : List Node) → length nodes < 64 → new_node front (fronts_of nodes) ≡ added_to front (fronts_of nodes)
unfolding added_to
added_room front nodes h = sym (rw (length-map nodes (λ (n : Node). n.front), lt-ltb (length nodes) 64 h) refl)

pub new-is : (f : Front) (nodes : List Node) {after : List Node} {n : ℕ} → after ≡ nodes ++ (node f [] ∷ []) → n ≡ length nodes →
    Ok (record { number = n; fronts = fronts_of after }) ≡ new_node (Some f) (fronts_of nodes)
new-is f nodes e q = rw (e, q, map-append (λ (n : Node). n.front) nodes (node f [] ∷ []), length-map nodes (λ (n : Node). n.front)) refl

-- what holds of the nodes before, and with the new one, holds of the nodes after
module _ (P : List Front → Type 0) (fs : List Front) (old : P fs) where
  added-keeps : (front : Option Front) → ((f : Front) → front ≡ Some f → P (fs ++ (f ∷ []))) → IfOk (added_to front fs) (λ p. P p.fronts)
  unfolding added_to
  added-keeps None new = by-test (λ (r : Result Placing Reason). IfOk r (λ p. P p.fronts)) (ltb (length fs) 64) _ _ (λ _. tt) (λ _. tt)
  added-keeps (Some f) new =
      by-test (λ (r : Result Placing Reason). IfOk r (λ p. P p.fronts)) (ltb (length fs) 64) _ _ (λ _. new f refl) (λ _. tt)

  known-keeps : (k : Option ℕ) (f : Front) → P (fs ++ (f ∷ [])) → IfOk (known_or k f fs) (λ p. P p.fronts)
  unfolding known_or
  known-keeps (Some n) f new = old
  known-keeps None f new = added-keeps (Some f) (λ g e. rw (← same_Some f g e) new)

  pub placed-keeps : (front : Option Front) → ((f : Front) → front ≡ Some f → P (fs ++ (f ∷ []))) → IfOk (placed_in front fs) (λ p. P p.fronts)
  unfolding placed_in
  placed-keeps None new = added-keeps None new
  placed-keeps (Some f) new = known-keeps (known_in f fs) f (new f refl)
