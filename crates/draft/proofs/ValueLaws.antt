-- Rounds over nodes and codes are the rounds over the rows found. Assumes nothing.
use Prim.Native.Nat.{ℕ, zero, suc, ◌+◌, ◌-◌, ◌*◌, ◌≤◌, ◌<◌, max}
use mathlib.Core.Path.{◌≡◌, refl, sym, ap, ap₂, subst, ◌∙◌}
use mathlib.Core.Bool.{Bool, true, false, cond}
use mathlib.Core.List.{List, [], ◌∷◌, ◌++◌, map}
use native.Mathlib.Nat as N
use native.Mathlib.Numerals.{add-one}
use native.Mathlib.Omega.{arith}
use borrow.Author.Tests.{ne_eqb, le-ltb}
use lib.Dec.{eqb, ltb}
use lib.ListN.{get_or, length, take, drop, set, replicate, length-append, length-set, length-replicate, get_or-replicate}
use lib.Seq.{drop_at, get_or-take, get_or-set_same, get_or-set_other, length-take-le}
use Rattle.zone.proofs.Bools.{false_true, true_false}
use Rattle.model.specs.Model.{Edge, Action, Location, Model, edge_of}
use Rattle.model.specs.States.{location_at}
use Rattle.model.specs.declared.index.IndexedModel.{IndexedModel}
use Rattle.model.specs.Indexed.{Each, ActionAt, LocationAt, Indexed}
use Rattle.model.proofs.ZoneLaws.{All, empty, more}
use Rattle.model.proofs.WellFormed.{FormedAction, WellFormed}
use Rattle.model.proofs.IndexLaws.{location-at}
use Rattle.table.specs.Table.{row_actions}
use Rattle.judge.proofs.RowLaws.{all-below}
use Rattle.drafting.specs.Exploring.{Found, FoundRow, no_found}
use Rattle.drafting.specs.Words.{whole}
use Rattle.drafting.specs.Rounds.{rounded_up}
use Rattle.drafting.proofs.Shares.{Share, Valued, no_valued, sum_of, largest, round_at, round_each, round, rounds, values_after}
use Rattle.drafting.proofs.ReadBack.{Numbers, RowsWritable}
use Rattle.drafting.proofs.ExploreLaws.{AllFound}
use Rattle.drafting.proofs.ValuedRows.{
  SharesOf,
  no_edge,
  next_edge,
  ShareRows,
  no_row,
  pass_blocked,
  next_row,
  ValuedIs,
  ValuedAll,
  valued-length,
  valued-at,
}
use Rattle.drafting.proofs.DraftTable.{rows_writable}
use Rattle.draft.specs.Exploration.{code_of}
use Rattle.draft.specs.Nodes.{no_node}
use Rattle.draft.specs.Asked.{edges_of}
use Rattle.draft.specs.Values.{value_of, largest_from, value_at, round_from, round_of, rounds_of, values_of}
use Rattle.draft.specs.Values.{sum_of as codes_sum}
use Rattle.draft.specs.declared.nodes.Front.{Front}
use Rattle.draft.specs.declared.nodes.Node.{Node}
use Rattle.draft.proofs.EdgeLaws.{edges-read, edges-many}
use Rattle.draft.proofs.Coding.{front_of, share_codes, rows_codes, Stored}
use Rattle.draft.proofs.StoredLaws.{stored-length, stored-front, stored-rows}

-- 256 values: those of so many nodes first, us, and V from number 64 on
pub record ValuesAre (count : ℕ) (vs us : List ℕ) : Type 0 where
  pub size : length vs ≡ 256
  pub nodes : take count vs ≡ us
  pub past : (n : ℕ) → 64 ≤ n → n < 256 → get_or vs n 0 ≡ whole

-- ---- the value of a node
module _ (count : ℕ) (few : count ≤ 64) (vs us : List ℕ) (values : ValuesAre count vs us) where
  -- a code tells the number of what its edge has in the sum
  code-value : (n : ℕ) (o : Bool) → n < count → value_of vs (code_of n o) ≡ cond o whole (get_or us n 0)
  code-value n true h = values.past (n + 64) (omega arith) (omega arith)
  code-value n false h = rw (← values.nodes) (sym (get_or-take count vs n 0 h))

  module _ {M : Model} {m : IndexedModel} (x : Indexed M m) (F : Found) where
    sum-right : (ws : List ℕ) {A : Action} {ns : List ℕ} {ss : List Share} → SharesOf M F A (map edge_of ws) ns ss → Numbers count ns → (rest : List ℕ) →
        codes_sum vs ws (share_codes ss ++ rest) ≡ sum_of us ss
    unfolding codes_sum sum_of share_codes
    sum-right [] no_edge g rest = refl
    sum-right (w ∷ ws) (next_edge {s = s} {ss = ss} t ts) g rest =
        ap₂ ◌+◌ (ap₂ ◌*◌ (sym t.weight) (code-value s.node s.outside (rw t.node g.0))) (sum-right ws ts g.1 rest)

    codes-length : {A : Action} {es : List Edge} {ns : List ℕ} {ss : List Share} → SharesOf M F A es ns ss → length (share_codes ss) ≡ length es
    unfolding share_codes
    codes-length no_edge = refl
    codes-length (next_edge t ts) = ap suc (codes-length ts)

    -- the first code of a row with successors is that of no A word
    first_code : {A : Action} {es : List Edge} {ns : List ℕ} {ss : List Share} → SharesOf M F A es ns ss → Numbers count ns → 1 ≤ length es →
        (rest : List ℕ) → eqb (get_or (share_codes ss ++ rest) 0 0) 255 ≡ false
    unfolding share_codes
    first_code no_edge g some rest = absurd (N.not-suc-le-zero some)
    first_code (next_edge {s = s} {ss = ss} t ts) g some rest = by s.outside (rw t.node g.0)
      where
        by : (o : Bool) → s.node < count → eqb (code_of s.node o) 255 ≡ false
        by true h = ne_eqb (s.node + 64) 255 (λ e. omega arith)
        by false h = ne_eqb s.node 255 (λ e. omega arith)

    largest-right : {As : List Action} {rs : List FoundRow} {sss : List (List Share)} → ShareRows M F As rs sss → All (FormedAction M) As →
        RowsWritable count As rs → (a best : ℕ) → Each (ActionAt m) a As →
        largest_from vs m (length As) a (rows_codes rs sss) best ≡ max best (largest M.denominator us sss)
    unfolding largest_from largest rows_codes Each
    largest-right no_row empty g a best i = sym (N.max-zero best)
    largest-right (pass_blocked {A} {As} {rs} {sss} t) (more f fs) g a best i = largest-right t fs g.1 (suc a) best i.1
    largest-right (next_row {A} {ns} {ss} {As} {rs} {sss} s t) (more f fs) g a best i =
        rw (first_code s g.0.2 f.some codes, many, enough, later, sum)
        (largest-right t fs g.1 (suc a) (max best (up m.index.denominator)) i.1
        ∙ regroup best (up m.index.denominator) others
        ∙ ap (λ (D : ℕ). max best (max (up D) others)) x.denominator)
      where
        up : ℕ → ℕ
        up D = rounded_up (sum_of us ss) D

        others : ℕ
        others = largest M.denominator us sss

        codes : List ℕ
        codes = rows_codes rs sss

        many : length (edges_of m a) ≡ length A.edges
        many = edges-many i.0 f.edges

        enough : ltb (length (share_codes ss ++ codes)) (length A.edges) ≡ false
        enough = le-ltb (length (share_codes ss ++ codes)) (length A.edges) (omega (arith, length-append (share_codes ss) codes, codes-length s))

        later : drop (length A.edges) (share_codes ss ++ codes) ≡ codes
        later = drop_at (share_codes ss) codes (length A.edges) (codes-length s)

        sum : codes_sum vs (edges_of m a) (share_codes ss ++ codes) ≡ sum_of us ss
        sum = sum-right (edges_of m a) (subst (λ (es : List Edge). SharesOf M F A es ns ss) (sym (edges-read i.0 f.edges)) s) g.0.2 codes

        regroup : (a b c : ℕ) → max (max a b) c ≡ max a (max b c)
        regroup a b c = omega arith

    -- at a location that exists
    value-right : WellFormed M → F.location < length M.locations → (rs : List FoundRow) (q : Valued) → ValuedIs M F rs q →
        RowsWritable count (row_actions (location_at M F.location)) rs → (n : Node) → n.front ≡ front_of F → n.rows.items ≡ rows_codes rs q.rows → (v : ℕ) →
        value_at vs m n v ≡ round_at M.denominator us q v
    unfolding value_at round_at row_actions
    value-right formed there rs q valued g n e f v =
        rw (ap (λ (f : Front). f.location) e, f) (by L.target q.target valued.target here.target valued.rows g)
      where
        L : Location
        L = location_at M F.location

        here : LocationAt m F.location L
        here = location-at x F.location there

        first : ℕ
        first = get_or m.index.actions F.location 0

        number : get_or m.index.actions (F.location + 1) 0 - first ≡ length L.actions
        number = let ends = here.ends in rw (add-one F.location) (omega arith)

        after : ℕ
        after = largest_from vs m (get_or m.index.actions (F.location + 1) 0 - first) first (rows_codes rs q.rows) 0

        by : (c d : Bool) → d ≡ c → get_or m.index.targets F.location false ≡ c → ShareRows M F (cond c [] L.actions) rs q.rows →
            RowsWritable count (cond c [] L.actions) rs → cond (get_or m.index.targets F.location false) v after ≡ cond d v (largest M.denominator us q.rows)
        by true true e k t g = rw k
        by true false e k t g = false_true e
        by false true e k t g = true_false e
        by false false e k t g =
            rw (k, number) (largest-right t (formed.actions F.location) g first 0 here.actions ∙ N.zero-max (largest M.denominator us q.rows))

-- ---- a round
module _ (m : IndexedModel) (vs : List ℕ) where
  pub round-length : (nodes : List Node) (k : ℕ) (us : List ℕ) → length (round_from m vs nodes k us) ≡ length us
  unfolding round_from
  round-length [] k us = refl
  round-length (n ∷ ns) k us = round-length ns (suc k) _ ∙ length-set us k _

  -- the values before number k and behind the nodes stay
  round-before : (nodes : List Node) (k : ℕ) (us : List ℕ) (i : ℕ) → i < k → get_or (round_from m vs nodes k us) i 0 ≡ get_or us i 0
  unfolding round_from
  round-before [] k us i h = refl
  round-before (n ∷ ns) k us i h = round-before ns (suc k) _ i (omega arith) ∙ get_or-set_other us k i _ 0 (λ e. omega arith)

  round-past : (nodes : List Node) (k : ℕ) (us : List ℕ) (i : ℕ) → k + length nodes ≤ i → get_or (round_from m vs nodes k us) i 0 ≡ get_or us i 0
  unfolding round_from
  round-past [] k us i h = refl
  round-past (n ∷ ns) k us i h = round-past ns (suc k) _ i (omega arith) ∙ get_or-set_other us k i _ 0 (λ e. omega arith)

  round-node : (nodes : List Node) (k : ℕ) (us : List ℕ) → k + length nodes ≤ length us → (i : ℕ) → i < length nodes →
      get_or (round_from m vs nodes k us) (k + i) 0 ≡ value_at vs m (get_or nodes i no_node) (get_or vs (k + i) 0)
  unfolding round_from
  round-node [] k us g i h = absurd (N.not-suc-le-zero h)
  round-node (n ∷ ns) k us g zero h =
      rw (N.add-zero k) (round-before ns (suc k) _ k (omega arith) ∙ get_or-set_same us k (value_at vs m n (get_or vs k 0)) 0 (omega arith))
  round-node (n ∷ ns) k us g (suc i) h =
      let size = length-set us k (value_at vs m n (get_or vs k 0)) in
      rw (N.add-suc k i, ← N.suc-add k i) (round-node ns (suc k) (set us k (value_at vs m n (get_or vs k 0))) (omega arith) i (omega arith))

-- values that are replaced one by one
each_right : (D : ℕ) (vs : List ℕ) (qs : List Valued) (us ws : List ℕ) → length us ≡ length qs → length ws ≡ length qs →
    ((i : ℕ) → i < length qs → get_or ws i 0 ≡ round_at D vs (get_or qs i no_valued) (get_or us i 0)) → ws ≡ round_each D vs qs us
unfolding round_each
each_right D vs [] us [] e f h = refl
each_right D vs [] us (w ∷ ws) e f h = absurd (omega arith)
each_right D vs (q ∷ qs) [] ws e f h = absurd (omega arith)
each_right D vs (q ∷ qs) (u ∷ us) [] e f h = absurd (omega arith)
each_right D vs (q ∷ qs) (u ∷ us) (w ∷ ws) e f h =
    ap₂ ◌∷◌ (h 0 (omega arith)) (each_right D vs qs us ws (N.suc_inj e) (N.suc_inj f) (λ i l. h (suc i) (omega arith)))

take_replicate : (n k v : ℕ) → n ≤ k → take n (replicate k v) ≡ replicate n v
take_replicate zero k v h = refl
take_replicate (suc n) zero v h = absurd (N.not-suc-le-zero h)
take_replicate (suc n) (suc k) v h = ap (λ (vs : List ℕ). v ∷ vs) (take_replicate n k v (N.le_of_suc-le-suc h))

-- ---- rounds
module _ {M : Model} {m : IndexedModel} (x : Indexed M m) (formed : WellFormed M) {Fs : List Found} {rows : List (List FoundRow)}
    (found : AllFound M Fs rows) {qs : List Valued} (valued : ValuedAll M Fs rows qs) {nodes : List Node} (stored : Stored Fs rows qs nodes) where
  many : length nodes ≡ length Fs
  many = stored-length valued stored

  few : length nodes ≤ 64
  few = rw many found.ready.few

  enough : {vs us : List ℕ} → ValuesAre (length nodes) vs us → length nodes ≤ length vs
  enough values = let size = values.size in let f = few in omega arith

  after-right : {vs us : List ℕ} → ValuesAre (length nodes) vs us → (n : ℕ) → n < length Fs →
      value_at vs m (get_or nodes n no_node) (get_or vs n 0) ≡ round_at M.denominator us (get_or qs n no_valued) (get_or vs n 0)
  after-right {vs} {us} values n l =
      value-right (length nodes) few vs us values x F formed (all-below no_found n found.ready.all l).location (get_or rows n []) (get_or qs n no_valued)
      (valued-at valued n l) (rw many (rows_writable formed found n l)) (get_or nodes n no_node) (stored-front valued stored n l)
      (stored-rows valued stored n l) (get_or vs n 0)
    where
      F : Found
      F = get_or Fs n no_found

  round-right : {vs us : List ℕ} → ValuesAre (length nodes) vs us → ValuesAre (length nodes) (round_of m nodes vs) (round M.denominator qs us)
  unfolding round
  round-right {vs} {us} values = record {
    size = round-length m vs nodes 0 vs ∙ values.size;
    nodes = each_right M.denominator us qs us (take count ws) (ap length (sym values.nodes) ∙ length-take-le count vs (enough values) ∙ same)
        (length-take-le count ws (rw (round-length m vs nodes 0 vs) (enough values)) ∙ same) each;
    past = λ n low high. round-past m vs nodes 0 vs n (rw (N.zero-add count) (N.le_trans few low)) ∙ values.past n low high;
  }
    where
      count : ℕ
      count = length nodes

      ws : List ℕ
      ws = round_of m nodes vs

      same : count ≡ length qs
      same = many ∙ sym (valued-length valued)

      each : (i : ℕ) → i < length qs → get_or (take count ws) i 0 ≡ round_at M.denominator us (get_or qs i no_valued) (get_or us i 0)
      each i l =
          let c : i < count = rw same l in
          get_or-take count ws i 0 c
          ∙ (rw (N.zero-add i) at (round-node m vs nodes 0 vs (rw (N.zero-add count) (enough values)) i c))
          ∙ after-right values i (rw many at c)
          ∙ ap (round_at M.denominator us (get_or qs i no_valued)) (sym (get_or-take count vs i 0 c) ∙ ap (λ (vs : List ℕ). get_or vs i 0) values.nodes)

  rounds-right : (n : ℕ) {vs us : List ℕ} → ValuesAre (length nodes) vs us →
      ValuesAre (length nodes) (rounds_of m nodes n vs) (rounds M.denominator qs n us)
  unfolding rounds_of rounds
  rounds-right zero values = values
  rounds-right (suc n) values = rounds-right n (round-right values)

  -- the values after n rounds
  pub values-are : (n : ℕ) → ValuesAre (length nodes) (values_of m nodes n) (values_after M.denominator qs n)
  unfolding values_of values_after
  values-are n = rounds-right n first
    where
      first : ValuesAre (length nodes) (replicate 256 whole) (replicate (length qs) whole)
      first = record {
        size = length-replicate 256 whole;
        nodes = take_replicate (length nodes) 256 whole (N.le_trans few (omega arith))
            ∙ ap (λ (k : ℕ). replicate k whole) (many ∙ sym (valued-length valued));
        past = λ n low high. get_or-replicate 256 n whole 0 high;
      }

  pub values-right : (n : ℕ) → (length (values_of m nodes n) ≡ 256) × (take (length Fs) (values_of m nodes n) ≡ values_after M.denominator qs n)
  values-right n = ((values-are n).size, rw many at (values-are n).nodes)
