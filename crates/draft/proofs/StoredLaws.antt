-- Each node of what is stored is the one found, with the codes of its rows. Assumes nothing.
use Prim.Native.Nat.{ℕ, zero, suc, ◌<◌}
use mathlib.Core.Path.{◌≡◌, refl, sym, ap, ◌∙◌}
use mathlib.Core.List.{List, []}
use native.Mathlib.Nat as N
use lib.ListN.{get_or, length, length-map}
use Rattle.std.proofs.lemmas.List.{get_or-map}
use Rattle.model.specs.Model.{Model}
use Rattle.drafting.specs.Exploring.{Found, FoundRow, no_found}
use Rattle.drafting.proofs.Shares.{Valued, no_valued}
use Rattle.drafting.proofs.ValuedRows.{ValuedAll, no_node as none, next_node}
use Rattle.draft.specs.Fronts.{front}
use Rattle.draft.specs.Nodes.{no_node}
use Rattle.draft.specs.declared.nodes.Front.{Front}
use Rattle.draft.specs.declared.nodes.Node.{Node}
use Rattle.draft.proofs.Coding.{front_of, rows_codes, all_rows, Stored}

all_rows-at : {M : Model} {Fs : List Found} {rows : List (List FoundRow)} {qs : List Valued} → ValuedAll M Fs rows qs → (n : ℕ) → n < length Fs →
    get_or (all_rows rows qs) n [] ≡ rows_codes (get_or rows n []) (get_or qs n no_valued).rows
unfolding all_rows
all_rows-at none n l = absurd (N.not-suc-le-zero l)
all_rows-at (next_node h hs) zero l = refl
all_rows-at (next_node h hs) (suc n) l = all_rows-at hs n (N.le_of_suc-le-suc l)

module _ {M : Model} {Fs : List Found} {rows : List (List FoundRow)} {qs : List Valued} (valued : ValuedAll M Fs rows qs) {nodes : List Node}
    (stored : Stored Fs rows qs nodes) where
  pub stored-length : length nodes ≡ length Fs
  stored-length = sym (length-map nodes (λ (n : Node). n.front)) ∙ ap length stored.fronts ∙ length-map Fs front_of

  module _ (n : ℕ) (l : n < length Fs) where
    pub stored-front : (get_or nodes n no_node).front ≡ front_of (get_or Fs n no_found)
    stored-front =
        sym (get_or-map (λ (n : Node). n.front) nodes n no_node (front 0 []) (rw stored-length l))
        ∙ ap (λ (fs : List Front). get_or fs n (front 0 [])) stored.fronts
        ∙ get_or-map front_of Fs n no_found (front 0 []) l

    pub stored-rows : (get_or nodes n no_node).rows.items ≡ rows_codes (get_or rows n []) (get_or qs n no_valued).rows
    stored-rows =
        sym (get_or-map (λ (n : Node). n.rows.items) nodes n no_node [] (rw stored-length l))
        ∙ ap (λ (rs : List (List ℕ)). get_or rs n []) stored.rows_are
        ∙ all_rows-at valued n l
