-- Laws of the code that explores: what is placed for an edge, and what each turn of a loop leaves to be explored. Assumes nothing.
use Prim.Native.Nat.{ℕ, suc, ◌+◌, ◌-◌, ◌*◌, ◌≤◌, ◌<◌}
use mathlib.Core.Path.{◌≡◌, refl, sym, ap, ◌∙◌}
use mathlib.Core.Bool.{Bool, true, false, not}
use mathlib.Core.List.{List, [], ◌∷◌, ◌++◌}
use native.Mathlib.Numerals.{add-one}
use native.Mathlib.Omega.{arith}
use lib.ListN.{length, get_or, take, drop, length-append, length-take, drop_of_length-le}
use lib.Seq.{drop-cons, take-length}
use Rattle.zone.specs.Squares.{reset_square, empty?, inside?}
use Rattle.zone.specs.Stores.{zone_at}
use Rattle.zone.specs.declared.zones.Zone.{Zone as Square}
use Rattle.model.specs.Fields.{lands_at, mask_of}
use Rattle.model.specs.Scan.{guards_at}
use Rattle.model.specs.declared.index.IndexedModel.{IndexedModel}
use Rattle.judge.specs.Reaching.{common}
use Rattle.std.specs.Prelude.{Option, Result, Ok, Err}
use Rattle.std.proofs.lemmas.List.{take-take}
use Rattle.answers.specs.declared.Reason.{Reason}
use Rattle.draft.specs.Fronts.{zone_from, front_for}
use Rattle.draft.specs.Nodes.{Keeps, fronts_of, Placing, placed_in}
use Rattle.draft.specs.Exploration.{Graph, graph, go_on, coded, landed_square}
use Rattle.draft.specs.Exploration.{with_successor, successors_from, with_row, rows_from}
use Rattle.draft.specs.Asked.{edges_of}
use Rattle.draft.specs.declared.nodes.Front.{Front}
use Rattle.draft.specs.declared.nodes.Node.{Node}

-- ---- nodes that stay
pub keeps-all : (nodes : List Node) → Keeps nodes nodes
keeps-all nodes = take-length nodes

pub keeps-length : {a : List Node} (b : List Node) → Keeps a b → length a ≤ length b
keeps-length {a} b h = let e = sym (length-take (length a) b) ∙ ap length h in omega arith

pub keeps-more : {a b : List Node} (c : List Node) → Keeps a b → Keeps b c → Keeps a c
keeps-more {a} {b} c h k =
    sym (take-take (length a) (length b) c (keeps-length b h)) ∙ ap (take (length a)) k ∙ h

-- ---- an edge
module _
    (m : IndexedModel) (reach : Square) (w : ℕ) (fs : List Front) {mask to : ℕ} {y i z : Square} {inside : Bool} {f : Option Front}
    (em : mask ≡ mask_of w) (ey : y ≡ reset_square mask reach) (et : to ≡ lands_at w) (ei : i ≡ zone_at m.zones to) (e? : inside ≡ inside? y i)
    (ez : z ≡ landed_square y i) (ef : f ≡ front_for to (zone_from m.index.clocks z)) where
  pub successor-placed : (r : Result Placing Reason) → r ≡ placed_in f fs → go_on r (coded (not inside)) ≡ with_successor m reach w fs
  unfolding with_successor
  successor-placed r er = rw (er, ef, ez, e?, ei, ey, et, em)

-- ---- the edges of an action: before edge k, the rest of them gives what all give
pub record AtEdge (m : IndexedModel) (reach : Square) (ws : List ℕ) (before : List Node) (codes : List ℕ) (nodes : List Node) (now : List ℕ) (k : ℕ) : Type 0 where
  pub keeps : Keeps before nodes
  pub grows : length now ≤ length codes + k
  pub onward : successors_from m reach ws (graph (fronts_of before) codes) ≡ successors_from m reach (drop k ws) (graph (fronts_of nodes) now)

module _ {m : IndexedModel} {reach : Square} {ws : List ℕ} {before : List Node} {codes : List ℕ} {nodes : List Node} {now : List ℕ} {k : ℕ}
    (i : AtEdge m reach ws before codes nodes now k) where
  pub edges-end : length ws ≤ k → Ok (graph (fronts_of nodes) now) ≡ successors_from m reach ws (graph (fronts_of before) codes)
  unfolding successors_from
  edges-end h = sym (i.onward ∙ rw (drop_of_length-le ws h) refl)

  module _ (h : k < length ws) where
    one-edge : (r : Result Placing Reason) → r ≡ with_successor m reach (get_or ws k 0) (fronts_of nodes) →
        go_on r (λ p. successors_from m reach (drop (suc k) ws) (graph p.fronts (now ++ (p.number ∷ [])))) ≡
        successors_from m reach ws (graph (fronts_of before) codes)
    unfolding successors_from
    one-edge r e = sym (i.onward ∙ rw (drop-cons ws k 0 h, ← e))

    pub edge-stops : (r : Reason) → Err r ≡ with_successor m reach (get_or ws k 0) (fronts_of nodes) →
        Err r ≡ successors_from m reach ws (graph (fronts_of before) codes)
    edge-stops r e = one-edge (Err r) e

    pub edge-next : {after : List Node} {c : ℕ} {next : List ℕ} → Keeps nodes after →
        Ok (record { number = c; fronts = fronts_of after }) ≡ with_successor m reach (get_or ws k 0) (fronts_of nodes) →
        next ≡ now ++ (c ∷ []) → AtEdge m reach ws before codes after next (k + 1)
    edge-next {after} {c} {next} stay e put =
        rw (add-one k) (record {
          keeps = keeps-more after i.keeps stay;
          grows = rw put (omega (arith, i.grows, length-append now (c ∷ [])));
          onward = rw put (sym (one-edge (Ok (record { number = c; fronts = fronts_of after })) e));
        })

-- ---- a row
module _ (m : IndexedModel) (waited : Square) (a : ℕ) {reach guard : Square} {empty : Bool}
    (eg : guard ≡ zone_at m.zones (guards_at + a)) (er : reach ≡ common waited guard) (e? : empty ≡ empty? reach) where
  pub row-blocked : (fs : List Front) (codes next : List ℕ) → empty ≡ true → next ≡ codes ++ (255 ∷ []) →
      Ok (graph fs next) ≡ with_row m waited a (graph fs codes)
  unfolding with_row
  row-blocked fs codes next t put = sym (rw (← eg, ← er, ← e?, t, ← put))

  pub row-successors : (d : Graph) → empty ≡ false → successors_from m reach (edges_of m a) d ≡ with_row m waited a d
  unfolding with_row
  row-successors d t = sym (rw (← eg, ← er, ← e?, t))

-- ---- the actions of a location: before action a, the rest of them gives what all give

-- one of those that are left
pub one_left : (m n : ℕ) → n < m → m - n ≡ suc (m - suc n)
one_left m n h = omega arith

pub record AtAction (m : IndexedModel) (waited : Square) (first last : ℕ) (before nodes : List Node) (now : List ℕ) (a : ℕ) : Type 0 where
  pub from : first ≤ a
  pub keeps : Keeps before nodes
  pub grows : length now ≤ (a - first) * 4
  pub onward : rows_from m waited (last - first) first (graph (fronts_of before) []) ≡ rows_from m waited (last - a) a (graph (fronts_of nodes) now)

pub actions_begin : (m : IndexedModel) (waited : Square) (first last : ℕ) (before : List Node) {now : List ℕ} → now ≡ [] →
    AtAction m waited first last before before now first
actions_begin m waited first last before e = rw e (record { from = omega arith; keeps = keeps-all before; grows = omega arith; onward = refl })

module _ {m : IndexedModel} {waited : Square} {first last : ℕ} {before nodes : List Node} {now : List ℕ} {a : ℕ}
    (i : AtAction m waited first last before nodes now a) where
  pub actions-end : last ≤ a → Ok (graph (fronts_of nodes) now) ≡ rows_from m waited (last - first) first (graph (fronts_of before) [])
  unfolding rows_from
  actions-end h = let e : last - a ≡ 0 = omega arith in sym (i.onward ∙ rw e refl)

  module _ (h : a < last) where
    pub action-room : last - first ≤ 32 → length now + 4 ≤ 128
    action-room few = omega (arith, i.from, i.grows)

    one-action : (r : Result Graph Reason) → r ≡ with_row m waited a (graph (fronts_of nodes) now) →
        go_on r (rows_from m waited (last - suc a) (suc a)) ≡ rows_from m waited (last - first) first (graph (fronts_of before) [])
    unfolding rows_from
    one-action r e = sym (i.onward ∙ rw (one_left last a h, ← e))

    pub action-stops : (r : Reason) → Err r ≡ with_row m waited a (graph (fronts_of nodes) now) →
        Err r ≡ rows_from m waited (last - first) first (graph (fronts_of before) [])
    action-stops r e = one-action (Err r) e

    pub action-next : {after : List Node} {next : List ℕ} → Keeps nodes after → length next ≤ length now + 4 →
        Ok (graph (fronts_of after) next) ≡ with_row m waited a (graph (fronts_of nodes) now) → AtAction m waited first last before after next (a + 1)
    action-next {after} {next} stay more e =
        rw (add-one a) (record {
          from = omega (arith, i.from);
          keeps = keeps-more after i.keeps stay;
          grows = omega (arith, i.from, i.grows);
          onward = sym (one-action (Ok (graph (fronts_of after) next)) e);
        })
