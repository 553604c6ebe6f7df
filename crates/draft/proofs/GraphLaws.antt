-- What exploring by fronts and codes comes to, step after step, against the definition; and how the codes of edges and rows stand behind those before.
-- Assumes nothing.
use Prim.Native.Nat.{ℕ, suc, ◌≤◌}
use mathlib.Core.Path.{◌≡◌, refl, sym, ap, ◌∙◌}
use mathlib.Core.Logic.{inl, inr}
use mathlib.Core.List.{List, [], ◌∷◌, ◌++◌, map, append_assoc, append-nil}
use lib.ListN.{length, drop, drop_of_length-le}
use Rattle.answers.specs.Checks.{Answer, refused, accepted}
use Rattle.model.specs.Model.{Edge, Action, Model}
use Rattle.model.specs.States.{location_at}
use Rattle.table.specs.Table.{row_actions}
use Rattle.drafting.specs.Exploring.{Found, FoundRow, blocked, to_nodes, Progress, done, on_from}
use Rattle.drafting.proofs.Shares.{Share, Valued}
use Rattle.drafting.proofs.ValuedRows.{ShareIs, SharesOf, next_edge, ShareRows, pass_blocked, next_row, ValuedAll, no_node, next_node}
use Rattle.std.specs.Prelude.{Result, Ok, Err}
use Rattle.answers.specs.Refusals.{number}
use Rattle.answers.specs.declared.Reason.{Reason}
use Rattle.draft.specs.Exploration.{Graph, graph, go_on, code_of}
use Rattle.draft.specs.Nodes.{Placing}
use Rattle.draft.proofs.Coding.{front_of, share_codes, rows_codes, all_rows}

-- ---- steps

-- a graph has what the definition P accepts, its codes being as Q says; or P refuses
pub data Builds {A : Type 0} (P : Answer (Progress A) → Type 0) (Q : Progress A → List ℕ → Type 0) : Result Graph Reason → Type 0 where
  built : (s : Progress A) (cs : List ℕ) → P (accepted s) → Q s cs → Builds P Q (Ok (graph (map front_of s.found) cs))
  not_built : (r : Reason) → P (refused (number r) 0) → Builds P Q (Err r)

-- a code of an edge, with the nodes found then, as P accepts and Q says; or P refuses
pub data Codes (P : Answer (Progress ℕ) → Type 0) (Q : ℕ → ℕ → Type 0) : Result Placing Reason → Type 0 where
  is_coded : (s : Progress ℕ) (c : ℕ) → P (accepted s) → Q s.result c → Codes P Q (Ok (record { number = c; fronts = map front_of s.found }))
  not_coded : (r : Reason) → P (refused (number r) 0) → Codes P Q (Err r)

-- of another definition
pub builds_as : {A : Type 0} {P P' : Answer (Progress A) → Type 0} {Q : Progress A → List ℕ → Type 0} {d : Result Graph Reason} →
    ((a : Answer (Progress A)) → P a → P' a) → Builds P Q d → Builds P' Q d
builds_as f (built s cs p q) = built s cs (f (accepted s) p) q
builds_as f (not_built r p) = not_built r (f (refused (number r) 0) p)

-- with another result
pub builds-result : {A B : Type 0} (P : Answer (Progress A) → Type 0) (g : A → B) {Q : Progress A → List ℕ → Type 0}
    {Q' : Progress B → List ℕ → Type 0} {d : Result Graph Reason} → Builds P Q d →
    ((s : Progress A) (cs : List ℕ) → P (accepted s) → Q s cs → Q' (record { found = s.found; result = g s.result }) cs) →
    Builds (on_from P (λ s. done (g s.result) s.found)) Q' d
builds-result P g (built s cs p q) f = built (record { found = s.found; result = g s.result }) cs (inl (s, p, refl)) (f s cs p q)
builds-result P g (not_built r p) f = not_built r (inr (number r, 0, p, refl))

-- with a step more
pub builds-then : {A B : Type 0} (P : Answer (Progress A) → Type 0) (next : Progress A → Answer (Progress B) → Type 0)
    {Q : Progress A → List ℕ → Type 0} {Q' : Progress B → List ℕ → Type 0} (f : Graph → Result Graph Reason) {d : Result Graph Reason} → Builds P Q d →
    ((s : Progress A) (cs : List ℕ) → P (accepted s) → Q s cs → Builds (next s) Q' (f (graph (map front_of s.found) cs))) →
    Builds (on_from P next) Q' (go_on d f)
builds-then P next f (built s cs p q) g = builds_as (λ a h. inl (s, p, h)) (g s cs p q)
builds-then P next f (not_built r p) g = not_built r (inr (number r, 0, p, refl))

-- the same of the code of an edge, behind those before
pub codes-then : {B : Type 0} (P : Answer (Progress ℕ) → Type 0) (next : Progress ℕ → Answer (Progress B) → Type 0)
    {Q : ℕ → ℕ → Type 0} {Q' : Progress B → List ℕ → Type 0} (f : Placing → Result Graph Reason) {d : Result Placing Reason} → Codes P Q d →
    ((s : Progress ℕ) (c : ℕ) → P (accepted s) → Q s.result c → Builds (next s) Q' (f (record { number = c; fronts = map front_of s.found }))) →
    Builds (on_from P next) Q' (go_on d f)
codes-then P next f (is_coded s c p q) g = builds_as (λ a h. inl (s, p, h)) (g s c p q)
codes-then P next f (not_coded r p) g = not_built r (inr (number r, 0, p, refl))

-- the code c of an edge that leads to the node number n
pub record EdgeBuilt (M : Model) (F : Found) (A : Action) (e : Edge) (n c : ℕ) : Type 0 where
  pub share : Share
  pub is : ShareIs M F A e n share
  pub code : c ≡ code_of share.node share.outside

-- ---- codes cs, behind the codes `before`
module _ (M : Model) (F : Found) (before : List ℕ) where
  -- of edges
  pub record EdgesBuilt (A : Action) (es : List Edge) (ns : List ℕ) (cs : List ℕ) : Type 0 where
    pub shares : List Share
    pub are : SharesOf M F A es ns shares
    pub codes : cs ≡ before ++ share_codes shares

  -- of a row
  abbrev pub RowBuilt : Action → FoundRow → List ℕ → Type 0
  RowBuilt A blocked cs = cs ≡ before ++ (255 ∷ [])
  RowBuilt A (to_nodes ns) cs = EdgesBuilt A A.edges ns cs

  -- of the rows of some actions
  pub record RowsBuilt (As : List Action) (rs : List FoundRow) (cs : List ℕ) : Type 0 where
    pub shares : List (List Share)
    pub are : ShareRows M F As rs shares
    pub codes : cs ≡ before ++ rows_codes rs shares

-- of the nodes from number n on: the codes of each, behind those of the nodes before
pub record AllBuilt (M : Model) (n : ℕ) (before : List (List ℕ)) (s : Progress (List (List FoundRow))) (rows : List (List ℕ)) : Type 0 where
  pub valued : List Valued
  pub are : ValuedAll M (drop n s.found) s.result valued
  pub codes : rows ≡ before ++ all_rows s.result valued

-- ---- one after the other

behind : {A : Type 0} (zs xs ys bs cs : List A) → bs ≡ zs ++ xs → cs ≡ bs ++ ys → cs ≡ zs ++ (xs ++ ys)
behind zs xs ys bs cs e f = f ∙ ap (λ us. us ++ ys) e ∙ append_assoc zs xs ys

module _ {M : Model} {F : Found} {before : List ℕ} where
  pub edge-cons : {A : Action} {e : Edge} {es : List Edge} {n c : ℕ} {ns cs : List ℕ} → EdgeBuilt M F A e n c →
      EdgesBuilt M F (before ++ (c ∷ [])) A es ns cs → EdgesBuilt M F before A (e ∷ es) (n ∷ ns) cs
  unfolding share_codes
  edge-cons {c = c} {cs = cs} h hs = record {
    shares = h.share ∷ hs.shares;
    are = next_edge h.is hs.are;
    codes = behind before (code_of h.share.node h.share.outside ∷ []) (share_codes hs.shares) (before ++ (c ∷ [])) cs
        (ap (λ c. before ++ (c ∷ [])) h.code) hs.codes;
  }

  pub row_cons : {A : Action} {As : List Action} (r : FoundRow) {rs : List FoundRow} {bs cs : List ℕ} → RowBuilt M F before A r bs →
      RowsBuilt M F bs As rs cs → RowsBuilt M F before (A ∷ As) (r ∷ rs) cs
  unfolding rows_codes
  row_cons blocked {rs} {bs} {cs} h hs = record {
    shares = hs.shares;
    are = pass_blocked hs.are;
    codes = behind before (255 ∷ []) (rows_codes rs hs.shares) bs cs h hs.codes;
  }
  row_cons (to_nodes ns) {rs} {bs} {cs} h hs = record {
    shares = h.shares ∷ hs.shares;
    are = next_row h.are hs.are;
    codes = behind before (share_codes h.shares) (rows_codes rs hs.shares) bs cs h.codes hs.codes;
  }

-- no node is left
pub none-built : {M : Model} (n : ℕ) (found : List Found) (rows : List (List ℕ)) → length found ≤ n →
    AllBuilt M n rows (record { found = found; result = [] }) rows
unfolding all_rows
none-built n found rows over = record {
  valued = [];
  are = rw (drop_of_length-le found over) no_node;
  codes = sym (append-nil rows);
}

-- a node, and those from the next number on
pub node-cons : {M : Model} (n : ℕ) {F : Found} {rs : List FoundRow} {bs : List ℕ} {before rows : List (List ℕ)} (s : Progress (List (List FoundRow))) →
    drop n s.found ≡ F ∷ drop (suc n) s.found → RowsBuilt M F [] (row_actions (location_at M F.location)) rs bs →
    AllBuilt M (suc n) (before ++ (bs ∷ [])) s rows → AllBuilt M n before (record { found = s.found; result = rs ∷ s.result }) rows
unfolding all_rows
node-cons {M} n {F} {rs} {bs} {before} {rows} s e h hs = record {
  valued = record { target = (location_at M F.location).target; rows = h.shares } ∷ hs.valued;
  are = rw e (next_node (record { target = refl; rows = h.are }) hs.are);
  codes = behind before (rows_codes rs h.shares ∷ []) (all_rows s.result hs.valued) (before ++ (bs ∷ [])) rows
      (ap (λ (cs : List ℕ). before ++ (cs ∷ [])) h.codes) hs.codes;
}
