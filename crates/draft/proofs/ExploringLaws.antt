-- Exploring by square tables, fronts and codes explores as the definition says: an edge, a row, the rows of a node. Assumes nothing.
use Prim.Native.Nat.{ℕ, suc, ◌≤◌, ◌<◌}
use mathlib.Core.Path.{◌≡◌, refl, sym, subst}
use mathlib.Core.Logic.{inl, inr}
use mathlib.Core.Bool.{Bool, true, false, cond}
use mathlib.Core.List.{List, [], ◌∷◌, ◌++◌, map, append-nil}
use native.Mathlib.Omega.{arith}
use lib.ListN.{get_or, length}
use Rattle.zone.specs.Scale.{Zone}
use Rattle.answers.specs.Checks.{Answer}
use Rattle.std.specs.Prelude.{Ok}
use Rattle.zone.specs.Squares.{universe, reset_square, empty?, with_bound}
use Rattle.zone.specs.Stores.{zone_at}
use Rattle.zone.specs.Reading.{cell_of, with_word, read_from, read_zone, outcome_zone, zone_read}
use Rattle.zone.specs.declared.zones.Zone.{Zone as Square}
use Rattle.model.specs.Fields.{mask_of, lands_at}
use Rattle.model.specs.Model.{Edge, Action, Location, Model, edge_of}
use Rattle.model.specs.States.{location_at}
use Rattle.model.specs.declared.index.IndexedModel.{IndexedModel}
use Rattle.model.specs.Indexed.{Each, Indexed, with_bounds}
use Rattle.model.proofs.ZoneLaws.{All, empty, more, GoodZone}
use Rattle.model.proofs.GoodModel.{GoodModel}
use Rattle.model.proofs.IndexLaws.{location-at}
use Rattle.model.proofs.WellFormed.{FormedEdge, WellFormed}
use Rattle.table.specs.Table.{row_actions}
use Rattle.judge.specs.Reaching.{waited_square}
use Rattle.judge.proofs.RowReach.{row_reach, Reached, reached}
use Rattle.judge.proofs.RowLaws.{all-below, ActionIs, actions-at, actions-count}
use Rattle.drafting.specs.Exploring.{Found, blocked, to_nodes, Progress, done, and_then, no_found, node_for, as_node, successor_for, successors_for, row_for, rows_for}
use Rattle.drafting.specs.Words.{bound_word}
use Rattle.drafting.proofs.BoundingLaws.{own-bounds}
use Rattle.drafting.proofs.WordBack.{AllFit, bound-good, bound-back}
use Rattle.drafting.proofs.ExploreLaws.{Writable, Ready, grown-ready, node-found, row-found}
use Rattle.drafting.proofs.ValuedRows.{no_edge, no_row}
use Rattle.drafting.proofs.KnownRows.{fit-good}
use Rattle.draft.specs.Fronts.{zone_from}
use Rattle.draft.specs.Nodes.{Placing}
use Rattle.draft.specs.Exploration.{graph, go_on, outside?, landed_square, coded, with_successor, successors_from, with_row, rows_from, with_node}
use Rattle.std.specs.Prelude.{Result, Ok}
use Rattle.answers.specs.declared.Reason.{Reason}
use Rattle.draft.specs.Asked.{edges_of}
use Rattle.draft.proofs.EdgeLaws.{edges-read}
use Rattle.draft.proofs.Coding.{front_of, share_codes, rows_codes}
use Rattle.draft.proofs.LimitLaws.{SquareFor}
use Rattle.draft.proofs.SmallestLaws.{zone-bounds, zone_smallest}
use Rattle.draft.proofs.LandedLaws.{landed-square, landed-tells}
use Rattle.draft.proofs.PlacingLaws.{Places, placed, not_placed, placed-right}
use Rattle.draft.proofs.GraphLaws.{Builds, built, Codes, is_coded, not_coded, builds_as, builds-result, builds-then, codes-then, EdgeBuilt, EdgesBuilt, RowBuilt, RowsBuilt}
use Rattle.draft.proofs.GraphLaws.{edge-cons, row_cons}

-- ---- the bounds of a node, read back from its words

read_back : (C : ℕ) → C ≤ 4 → (Z : Zone) → AllFit C Z → (p : ℕ) (z : Square) → read_from C (map bound_word Z) p z ≡ Ok (with_bounds Z z)
unfolding read_from with_bounds with_word
read_back C few [] h p z = refl
read_back C few (b ∷ Z) h p z =
    rw (bound-good C few b h.0, bound-back C few b h.0) (read_back C few Z h.1 (suc p) (with_bound b.i b.j (cell_of b) z))

front-zone : (C : ℕ) → C ≤ 4 → (Z : Zone) → AllFit C Z → {n : ℕ} → n ≡ C → zone_read n (map bound_word Z) ≡ with_bounds Z universe
unfolding read_zone outcome_zone zone_read
front-zone C few Z h e = rw (e, read_back C few Z h 0 universe)

module _ {M : Model} {m : IndexedModel} (x : Indexed M m) (good : GoodModel M) (formed : WellFormed M) where
  few-locations : length M.locations ≤ 16
  few-locations = omega (arith, x.limit, x.locations)

  -- what waiting attains from a node
  abbrev waited : Found → Square
  waited F = waited_square (with_bounds F.zone universe) (zone_at m.zones F.location)

  -- ---- a row of a node
  module _ (F : Found) (w : Writable M F) {a : ℕ} {A : Action} (i : ActionIs M m a A) where
    zone-good : GoodZone F.zone
    zone-good = fit-good M.clocks formed.clocks F.zone w.zone

    abbrev reach : Square
    reach = row_reach x good (as_node F) w.location zone-good i.at i.good

    module _ (filled : empty? reach ≡ false) where
      -- the node of an edge, and its code
      placed-builds : (e : Edge) → FormedEdge M e → (S : Zone) (found : List Found) (p : Result Placing Reason) →
          ((s : Answer (Progress ℕ)) → node_for M.clocks e.to S found s → successor_for M F A e found s) →
          Places (node_for M.clocks e.to S found) p →
          Codes (successor_for M F A e found) (EdgeBuilt M F A e) (go_on p (coded (outside? (reset_square e.mask reach) (zone_at m.zones e.to))))
      placed-builds e f S found _ g (placed Fs n h) =
          is_coded (record { found = Fs; result = n }) _ (g _ h) (record {
            share = record { weight = e.weight; node = n; outside = outside? (reset_square e.mask reach) (zone_at m.zones e.to) };
            is = record {
              weight = refl;
              node = refl;
              outside = landed-tells x good F w.location zone-good i.at i.good filled e f.to;
            };
            code = refl;
          })
      placed-builds e f S found _ g (not_placed r h) = not_coded r (g _ h)

      successor-right : (u : ℕ) → FormedEdge M (edge_of u) → (found : List Found) → Ready M found →
          Codes (successor_for M F A (edge_of u) found) (EdgeBuilt M F A (edge_of u)) (with_successor m reach u (map front_of found))
      unfolding with_successor
      successor-right u f found ready =
          let C : ℕ = M.clocks in
          let y : Square = landed_square (reset_square (mask_of u) reach) (zone_at m.zones (lands_at u)) in
          let squared : SquareFor _ y = landed-square x good F w.location zone-good i.at i.good filled (edge_of u) f.to in
          let Z : Zone = zone_from C y in
          rw x.clocks
          (placed-builds (edge_of u) f Z found _ (λ s h. (Z, zone_smallest C formed.clock formed.clocks squared, h))
          (placed-right formed few-locations (lands_at u) f.to Z (own-bounds C Z (zone-bounds C formed.clocks squared)) found ready))

      successors-right : (us : List ℕ) → All (FormedEdge M) (map edge_of us) → (found : List Found) → Ready M found → (cs : List ℕ) →
          Builds (successors_for M F A (map edge_of us) found) (λ s. EdgesBuilt M F cs A (map edge_of us) s.result)
          (successors_from m reach us (graph (map front_of found) cs))
      unfolding successors_from share_codes
      successors-right [] empty found ready cs =
          built (record { found = found; result = [] }) cs refl (record { shares = []; are = no_edge; codes = sym (append-nil cs) })
      successors-right (u ∷ us) (more f fs) found ready cs =
          codes-then (successor_for M F A (edge_of u) found) (λ s. and_then (successors_for M F A (map edge_of us)) (λ ns. done (s.result ∷ ns)) s.found)
          (λ p. successors_from m reach us (graph p.fronts (cs ++ (p.number ∷ [])))) (successor-right u f found ready)
          (λ s c p q. builds-result (successors_for M F A (map edge_of us) s.found) (λ ns. s.result ∷ ns)
          (successors-right us fs s.found (grown-ready (node-found formed f.to p.0 ready s p.2).grown) (cs ++ (c ∷ [])))
          (λ t ds p' q'. edge-cons q q'))

    row-right : (found : List Found) → Ready M found → (cs : List ℕ) →
        Builds (row_for M F A found) (λ s. RowBuilt M F cs A s.result) (with_row m (waited F) a (graph (map front_of found) cs))
    unfolding with_row
    row-right found ready cs = by (empty? reach) refl
      where
        tells : Reached M (as_node F) A reach
        tells = reached x good (as_node F) w.location zone-good i.at i.good

        by : (c : Bool) → empty? reach ≡ c →
            Builds (row_for M F A found) (λ s. RowBuilt M F cs A s.result)
            (cond c (Ok (graph (map front_of found) (cs ++ (255 ∷ []))))
            (successors_from m reach (edges_of m a) (graph (map front_of found) cs)))
        by true e = built (record { found = found; result = blocked }) _ (inl (tells.blocked-pass e, refl)) refl
        by false e =
            builds_as (λ s h. inr (tells.blocked-fail e, h))
            (builds-result (successors_for M F A A.edges found) to_nodes (successors e) (λ s ds p q. q))
          where
            read : map edge_of (edges_of m a) ≡ A.edges
            read = edges-read i.at i.formed.edges

            successors : empty? reach ≡ false →
                Builds (successors_for M F A A.edges found) (λ s. EdgesBuilt M F cs A A.edges s.result)
                (successors_from m reach (edges_of m a) (graph (map front_of found) cs))
            successors e =
                subst
                (λ (es : List Edge). Builds (successors_for M F A es found) (λ s. EdgesBuilt M F cs A es s.result)
                (successors_from m reach (edges_of m a) (graph (map front_of found) cs)))
                read (successors-right e (edges_of m a) (rw read i.formed.edges) found ready cs)

  -- ---- the rows of a node
  rows_right : (F : Found) → Writable M F → (a : ℕ) (As : List Action) → Each (ActionIs M m) a As → (found : List Found) → Ready M found →
      (cs : List ℕ) →
      Builds (rows_for M F As found) (λ s. RowsBuilt M F cs As s.result)
      (rows_from m (waited F) (length As) a (graph (map front_of found) cs))
  unfolding rows_from Each rows_codes
  rows_right F w a [] h found ready cs =
      built (record { found = found; result = [] }) cs refl (record { shares = []; are = no_row; codes = sym (append-nil cs) })
  rows_right F w a (A ∷ As) h found ready cs =
      builds-then (row_for M F A found) (λ s. and_then (rows_for M F As) (λ rs. done (s.result ∷ rs)) s.found)
      (rows_from m (waited F) (length As) (suc a)) (row-right F w h.0 found ready cs)
      (λ s bs p q. builds-result (rows_for M F As s.found) (λ rs. s.result ∷ rs)
      (rows_right F w (suc a) As h.1 s.found (grown-ready (row-found M formed F A h.0.formed ready s p).grown) bs)
      (λ t ds p' q'. row_cons s.result q q'))

  -- those of its location, none at a target
  pub node-right : (found : List Found) → Ready M found → (n : ℕ) → n < length found →
      Builds (rows_for M (get_or found n no_found) (row_actions (location_at M (get_or found n no_found).location)) found)
      (λ s. RowsBuilt M (get_or found n no_found) [] (row_actions (location_at M (get_or found n no_found).location)) s.result)
      (with_node m (front_of (get_or found n no_found)) (map front_of found))
  unfolding with_node row_actions rows_from Each
  node-right found ready n h =
      rw (
        front-zone M.clocks formed.clocks F.zone w.zone x.clocks,
        (location-at x F.location w.location).target,
        actions-count M m x good formed F.location w.location,
      )
      (by L.target)
    where
      F : Found
      F = get_or found n no_found

      w : Writable M F
      w = all-below no_found n ready.all h

      L : Location
      L = location_at M F.location

      by : (c : Bool) →
          Builds (rows_for M F (cond c [] L.actions) found) (λ s. RowsBuilt M F [] (cond c [] L.actions) s.result)
          (cond c (Ok (graph (map front_of found) []))
          (rows_from m (waited F) (length L.actions) (get_or m.index.actions F.location 0) (graph (map front_of found) [])))
      by true = rows_right F w 0 [] tt found ready []
      by false = rows_right F w _ L.actions (actions-at M m x good formed F.location w.location) found ready []
