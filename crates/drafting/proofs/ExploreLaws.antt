-- What exploring finds: its nodes can be written, its rows are right for them, and the first of them holds the start zone. Assumes nothing.
use Prim.Native.Nat.{ℕ, zero, suc, ◌+◌, ◌≤◌, ◌<◌, zero-le}
use mathlib.Core.Path.{◌≡◌, refl, sym, ap, subst, ◌∙◌}
use mathlib.Core.Logic.{inl, inr}
use mathlib.Core.Bool.{Bool, true, false, cond}
use mathlib.Core.List.{List, [], ◌∷◌, ◌++◌, append_assoc, append-nil}
use native.Mathlib.Nat as N
use native.Mathlib.Omega.{arith}
use lib.Dec.{T, leb, leb→le, ltb→lt}
use lib.IntN.{nat_abs}
use lib.ListN.{get_or, length, drop, length-append, get_or-append, drop_of_length-le}
use lib.Seq.{drop-cons, get_or-append_seam}
use Rattle.zone.specs.Scale.{Zone, Region, within, Empty, Inside}
use Rattle.zone.specs.Words.{bound_of}
use Rattle.answers.specs.Checks.{Answer, refused, accepted, First}
use Rattle.zone.proofs.Bools.{both}
use Rattle.answers.proofs.CheckLaws.{first_holds}
use Rattle.model.specs.Model.{Edge, Action, Model}
use Rattle.model.specs.States.{location_at}
use Rattle.model.proofs.ZoneLaws.{All, empty, more}
use Rattle.model.proofs.WellFormed.{FormedEdge, FormedAction, WellFormed}
use Rattle.table.specs.Table.{row_actions}
use Rattle.acceptance.specs.Acceptance.{Reach, landings_inside, Pairwise}
use Rattle.drafting.specs.Bounding.{Pair, pairs, AllTightened, empty_zone, BoundsOf}
use Rattle.drafting.specs.Exploring.{
  Found,
  FoundRow,
  blocked,
  to_nodes,
  Progress,
  done,
  on_from,
  and_then,
  no_found,
  narrow?,
  new_checks,
  node_for,
  as_node,
  successor_for,
  successors_for,
  row_for,
  rows_for,
  nodes_from,
  start_zone,
  exploring,
}
use Rattle.drafting.proofs.BoundingLaws.{inside-trans, all_hold, PairsOver, pairs-over, own-bounds}
use Rattle.drafting.proofs.WordBack.{AllFit}

-- ---- an acceptance comes from acceptances
accepted-inj : {A : Type 0} {a b : A} → ◌≡◌ {A = Answer A} (accepted a) (accepted b) → a ≡ b
accepted-inj e = cc e

pub then-parts : {A B : Type 0} (first : Answer A → Type 0) (next : A → Answer B → Type 0) (b : B) → on_from first next (accepted b) →
    (a : A) × first (accepted a) × next a (accepted b)
then-parts first next b (inl h) = h
then-parts first next b (inr h) = let z : ◌≡◌ {A = ℕ} 0 1 = cc h.3 in absurd (omega arith)

-- ---- the nodes found

-- a node that can be written: its location exists, words can hold its bounds, and these are all tightened
pub record Writable (M : Model) (F : Found) : Type 0 where
  pub location : F.location < length M.locations
  pub zone : AllFit M.clocks F.zone
  pub own : BoundsOf M.clocks (within F.zone) F.zone

-- what is found grows at its end, and stays writable
pub record Grown (M : Model) (found later : List Found) : Type 0 where
  pub more : List Found
  pub grown : later ≡ found ++ more
  pub few : length later ≤ 64
  pub all : All (Writable M) later

pub record Ready (M : Model) (found : List Found) : Type 0 where
  pub few : length found ≤ 64
  pub all : All (Writable M) found

pub grown-ready : {M : Model} {found later : List Found} → Grown M found later → Ready M later
grown-ready g = record { few = g.few; all = g.all }

grown-same : {M : Model} {found : List Found} → Ready M found → Grown M found found
grown-same {found = found} r = record { more = []; grown = sym (append-nil found); few = r.few; all = r.all }

pub grown-trans : {M : Model} {a b c : List Found} → Grown M a b → Grown M b c → Grown M a c
grown-trans {a = a} f g = record {
  more = f.more ++ g.more;
  grown = g.grown ∙ ap (λ (xs : List Found). xs ++ g.more) f.grown ∙ append_assoc a f.more g.more;
  few = g.few;
  all = g.all;
}

-- the nodes found before stay
pub grown-length : {M : Model} {found later : List Found} → Grown M found later → length found ≤ length later
grown-length {found = found} g = rw (g.grown, length-append found g.more) (N.le-add_right (length found) (length g.more))

pub grown-at : {M : Model} {found later : List Found} → Grown M found later → (n : ℕ) → n < length found → get_or later n no_found ≡ get_or found n no_found
grown-at {found = found} g n h = ap (λ (xs : List Found). get_or xs n no_found) g.grown ∙ get_or-append found g.more no_found n h

all_snoc : {M : Model} (xs : List Found) (x : Found) → All (Writable M) xs → Writable M x → All (Writable M) (xs ++ (x ∷ []))
all_snoc [] x empty h = more h empty
all_snoc (y ∷ ys) x (more g gs) h = more g (all_snoc ys x gs h)

-- what is found grows, and P holds of it with the result
pub record Yields {A : Type 0} (M : Model) (found : List Found) (P : List Found → A → Type 0) (s : Progress A) : Type 0 where
  pub grown : Grown M found s.found
  pub right : P s.found s.result

yields : {A : Type 0} {M : Model} {found later : List Found} {P : List Found → A → Type 0} {a : A} (s : Progress A) → done a later (accepted s) →
    Grown M found later → P later a → Yields M found P s
yields {M = M} {found = found} {P = P} s e g p = subst (Yields M found P) (sym (accepted-inj e)) (record { grown = g; right = p })

-- ---- bounds that words can hold
fits : (R : Region) (C : ℕ) (ps : List Pair) (Z : Zone) → PairsOver C ps → AllTightened R ps Z → T (narrow? Z) → AllFit C Z
unfolding narrow?
fits R C [] [] o a t = tt
fits R C [] (b ∷ Z) o a t = absurd a
fits R C (p ∷ ps) [] o a t = tt
fits R C (p ∷ ps) (b ∷ Z) o (inl a) t = fits R C ps (b ∷ Z) o.3 a.1 t
fits R C (p ∷ ps) (b ∷ Z) o (inr a) t =
    let (small, rest) = both (leb (nat_abs b.d) 4095) (narrow? Z) t in (
      record {
        first = subst (λ n. n ≤ C) (sym a.0) o.0;
        second = subst (λ n. n ≤ C) (sym a.1) o.1;
        differ = λ e. o.2 (sym a.0 ∙ e ∙ a.1);
        small = leb→le (nat_abs b.d) 4095 small;
      },
      fits R C ps Z o.3 a.3 rest,
    )

empty_zone-fits : (C : ℕ) → 1 ≤ C → AllFit C empty_zone
unfolding bound_of
empty_zone-fits C h = (record { first = h; second = zero-le; differ = λ e. absurd (omega arith); small = leb→le 1 4095 tt }, tt)

pub bounds-fit : (R : Region) (C : ℕ) → 1 ≤ C → (Z : Zone) → BoundsOf C R Z → T (narrow? Z) → AllFit C Z
bounds-fit R C h Z (inl b) t = subst (AllFit C) (sym b.1) (empty_zone-fits C h)
bounds-fit R C h Z (inr b) t = fits R C (pairs C) Z (pairs-over C) b.1 t

bounds-hold : (R : Region) (C : ℕ) (Z : Zone) → BoundsOf C R Z → Inside R (within Z)
bounds-hold R C Z (inl b) = record { at = λ k k₁ v r. absurd (b.0.at k k₁ v r) }
bounds-hold R C Z (inr b) = all_hold R (pairs C) Z b.1

-- ---- a zone's node

-- the node number n has the location l and holds R
pub record Holder (found : List Found) (l : ℕ) (R : Region) (n : ℕ) : Type 0 where
  pub there : n < length found
  pub location : (get_or found n no_found).location ≡ l
  pub inside : Inside R (within (get_or found n no_found).zone)

holder-grown : {M : Model} {found later : List Found} → Grown M found later → {l : ℕ} {R : Region} {n : ℕ} → Holder found l R n → Holder later l R n
holder-grown {found = found} {later = later} g {l} {R} {n} h = record {
  there = N.lt_of_lt_of_le h.there (grown-length g);
  location = ap (λ (F : Found). F.location) same ∙ h.location;
  inside = subst (λ (F : Found). Inside R (within F.zone)) (sym same) h.inside;
}
  where
    same : get_or later n no_found ≡ get_or found n no_found
    same = grown-at g n h.there

-- with 64 nodes there is no new one, whatever its bounds: 58 comes before 59
pub full : {A : Type 0} (found : List Found) (Z : Zone) (P : A → Type 0) (answer : Answer A) → length found ≡ 64 → First (new_checks found Z) P answer →
    answer ≡ refused 58 0
unfolding new_checks
full found Z P answer e (inl h) = let less = ltb→lt (length found) 64 h.0 in absurd (omega arith)
full found Z P answer e (inr h) = h.1

pub node-found : {M : Model} → WellFormed M → {l : ℕ} → l < length M.locations → (S : Zone) {found : List Found} → Ready M found →
    (s : Progress ℕ) → node_for M.clocks l S found (accepted s) → Yields M found (λ later. Holder later l (within S)) s
unfolding new_checks
node-found formed hl S r s (inl h) =
    yields s h.3 (grown-same r) (record { there = h.1.there; location = h.1.location; inside = h.1.same.out })
node-found {M} formed {l} hl S {found} r s (inr h) =
    let Z : Zone = h.1.0 in
    let checks = first_holds (new_checks found Z)
    (λ t. t ≡ record { found = found ++ (record { location = l; zone = Z } ∷ []); result = length found }) s h.1.2 in
    put Z h.1.1 (ltb→lt (length found) 64 checks.0.0) checks.0.1.0 (ap accepted checks.1)
  where
    put : (Z : Zone) → BoundsOf M.clocks (within S) Z → length found < 64 → T (narrow? Z) →
        done (length found) (found ++ (record { location = l; zone = Z } ∷ [])) (accepted s) → Yields M found (λ later. Holder later l (within S)) s
    put Z b less t e =
        let F : Found = record { location = l; zone = Z } in
        let size : length (found ++ (F ∷ [])) ≡ length found + 1 = length-append found (F ∷ []) in
        let last : get_or (found ++ (F ∷ [])) (length found) no_found ≡ F = get_or-append_seam found F [] no_found in
        yields s e
        (record {
          more = F ∷ [];
          grown = refl;
          few = omega arith;
          all = all_snoc found F r.all (record {
            location = hl;
            zone = bounds-fit (within S) M.clocks formed.clock Z b t;
            own = own-bounds M.clocks Z b;
          });
        })
        (record {
          there = omega arith;
          location = ap (λ (F : Found). F.location) last;
          inside = subst (λ (F : Found). Inside (within S) (within F.zone)) (sym last) (bounds-hold (within S) M.clocks Z b);
        })

-- ---- what is right of rows
module _ (M : Model) where
  -- the node of an edge has its location, and holds its landings inside
  abbrev pub SuccessorGood : List Found → Found → Action → Edge → ℕ → Type 0
  SuccessorGood found F A e n = Holder found e.to (landings_inside M (as_node F) A e) n

  abbrev pub RowGood : List Found → Found → Action → FoundRow → Type 0
  RowGood found F A blocked = Empty (Reach M (as_node F) A)
  RowGood found F A (to_nodes ns) = Pairwise (SuccessorGood found F A) A.edges ns

  -- one for each action that has a row
  abbrev pub RowsGood : List Found → Found → List FoundRow → Type 0
  RowsGood found F rs = Pairwise (RowGood found F) (row_actions (location_at M F.location)) rs

  -- what is found in the end: the start node, and rows for every node
  pub record AllFound (found : List Found) (rows : List (List FoundRow)) : Type 0 where
    pub ready : Ready M found
    pub start : Holder found M.start (within (start_zone M)) 0
    pub each : Pairwise (RowsGood found) found rows

  -- it stays right
  successors-grown : {found later : List Found} → Grown M found later → (F : Found) (A : Action) (es : List Edge) (ns : List ℕ) →
      Pairwise (SuccessorGood found F A) es ns → Pairwise (SuccessorGood later F A) es ns
  successors-grown g F A [] [] h = tt
  successors-grown g F A [] (n ∷ ns) h = h
  successors-grown g F A (e ∷ es) [] h = h
  successors-grown g F A (e ∷ es) (n ∷ ns) h = (holder-grown g h.0, successors-grown g F A es ns h.1)

  row-grown : {found later : List Found} → Grown M found later → (F : Found) (A : Action) (r : FoundRow) → RowGood found F A r → RowGood later F A r
  row-grown g F A blocked h = h
  row-grown g F A (to_nodes ns) h = successors-grown g F A A.edges ns h

  rows_grown : {found later : List Found} → Grown M found later → (F : Found) (As : List Action) (rs : List FoundRow) →
      Pairwise (RowGood found F) As rs → Pairwise (RowGood later F) As rs
  rows_grown g F [] [] h = tt
  rows_grown g F [] (r ∷ rs) h = h
  rows_grown g F (A ∷ As) [] h = h
  rows_grown g F (A ∷ As) (r ∷ rs) h = (row-grown g F A r h.0, rows_grown g F As rs h.1)

-- ---- exploring
pub rows-formed : {M : Model} → WellFormed M → (l : ℕ) → All (FormedAction M) (row_actions (location_at M l))
unfolding row_actions
rows-formed {M} formed l = by (location_at M l).target
  where
    by : (c : Bool) → All (FormedAction M) (cond c [] (location_at M l).actions)
    by true = empty
    by false = formed.actions l

module _ (M : Model) (formed : WellFormed M) where
  pub successors-found : (F : Found) (A : Action) (es : List Edge) → All (FormedEdge M) es → {found : List Found} → Ready M found →
      (s : Progress (List ℕ)) → successors_for M F A es found (accepted s) →
      Yields M found (λ later. Pairwise (SuccessorGood M later F A) es) s
  successors-found F A [] empty r s h = yields s h (grown-same r) tt
  successors-found F A (e ∷ es) (more f fs) {found} r s h =
      let one = then-parts (successor_for M F A e found) (λ t. and_then (successors_for M F A es) (λ ns. done (t.result ∷ ns)) t.found) s h in
      let t : Progress ℕ = one.0 in
      let rest = then-parts (successors_for M F A es t.found) (λ u. done (t.result ∷ u.result) u.found) s one.2 in
      let first = node-found formed f.to one.1.0 r t one.1.2 in
      let held : SuccessorGood M t.found F A e t.result = record {
        there = first.right.there;
        location = first.right.location;
        inside = inside-trans one.1.1.holds first.right.inside;
      } in
      let others = successors-found F A es fs (grown-ready first.grown) rest.0 rest.1 in
      yields s rest.2 (grown-trans first.grown others.grown) (holder-grown others.grown held, others.right)

  pub row-found : (F : Found) (A : Action) → FormedAction M A → {found : List Found} → Ready M found → (s : Progress FoundRow) →
      row_for M F A found (accepted s) → Yields M found (λ later. RowGood M later F A) s
  row-found F A f r s (inl h) = yields s h.1 (grown-same r) h.0
  row-found F A f {found} r s (inr h) =
      let one = then-parts (successors_for M F A A.edges found) (λ t. done (to_nodes t.result) t.found) s h.1 in
      let edges = successors-found F A A.edges f.edges r one.0 one.1 in
      yields s one.2 edges.grown edges.right

  pub rows-found : (F : Found) (As : List Action) → All (FormedAction M) As → {found : List Found} → Ready M found → (s : Progress (List FoundRow)) →
      rows_for M F As found (accepted s) → Yields M found (λ later. Pairwise (RowGood M later F) As) s
  rows-found F [] empty r s h = yields s h (grown-same r) tt
  rows-found F (A ∷ As) (more f fs) {found} r s h =
      let one = then-parts (row_for M F A found) (λ t. and_then (rows_for M F As) (λ rs. done (t.result ∷ rs)) t.found) s h in
      let t : Progress FoundRow = one.0 in
      let rest = then-parts (rows_for M F As t.found) (λ u. done (t.result ∷ u.result) u.found) s one.2 in
      let first = row-found F A f r t one.1 in
      let others = rows-found F As fs (grown-ready first.grown) rest.0 rest.1 in
      yields s rest.2 (grown-trans first.grown others.grown) (row-grown M others.grown F A t.result first.right, others.right)

  -- the nodes from number n on have their rows
  pub nodes-found : (m n : ℕ) → 64 ≤ m + n → {found : List Found} → Ready M found → (s : Progress (List (List FoundRow))) →
      nodes_from M m n found (accepted s) → Yields M found (λ later. Pairwise (RowsGood M later) (drop n later)) s
  nodes-found zero n e {found} r s h =
      let over : length found ≤ n = let g = r.few in omega arith in
      yields s h (grown-same r) (rw (drop_of_length-le found over) tt)
  nodes-found (suc m) n e {found} r s (inl h) = yields s h.1 (grown-same r) (rw (drop_of_length-le found h.0) tt)
  nodes-found (suc m) n e {found} r s (inr h) =
      let F : Found = get_or found n no_found in
      let As : List Action = row_actions (location_at M F.location) in
      let one = then-parts (rows_for M F As found) (λ t. and_then (nodes_from M m (suc n)) (λ rest. done (t.result ∷ rest)) t.found) s h.1 in
      let t : Progress (List FoundRow) = one.0 in
      let rest = then-parts (nodes_from M m (suc n) t.found) (λ u. done (t.result ∷ u.result) u.found) s one.2 in
      let first = rows-found F As (rows-formed formed F.location) r t one.1 in
      let others = nodes-found m (suc n) (omega arith) (grown-ready first.grown) rest.0 rest.1 in
      let later : List Found = rest.0.found in
      let all : Grown M found later = grown-trans first.grown others.grown in
      let stays : get_or later n no_found ≡ F = grown-at all n h.0 in
      yields s rest.2 all
      (rw (drop-cons later n no_found (N.lt_of_lt_of_le h.0 (grown-length all))) (
        subst (λ (G : Found). RowsGood M later G t.result) (sym stays) (rows_grown M others.grown F As t.result first.right),
        others.right,
      ))

  pub exploring-found : (s : Progress (List (List FoundRow))) → exploring M [] (accepted s) → AllFound M s.found s.result
  exploring-found s h =
      let one = then-parts (node_for M.clocks M.start (start_zone M) []) (λ t. nodes_from M 64 0 t.found) s h in
      let t : Progress ℕ = one.0 in
      let nothing : Ready M [] = record { few = zero-le; all = empty } in
      let first = node-found formed formed.start (start_zone M) nothing t one.1 in
      let rest = nodes-found 64 0 (omega arith) (grown-ready first.grown) s one.2 in
      record {
        ready = grown-ready rest.grown;
        start = holder-grown rest.grown (zeroth t one.1 first.right);
        each = rest.right;
      }
    where
      zeroth : (t : Progress ℕ) → node_for M.clocks M.start (start_zone M) [] (accepted t) →
          Holder t.found M.start (within (start_zone M)) t.result → Holder t.found M.start (within (start_zone M)) 0
      zeroth t (inl g) h = absurd (N.not-suc-le-zero g.1.there)
      zeroth t (inr g) h =
          subst (Holder t.found M.start (within (start_zone M)))
          (ap (λ (s : Progress ℕ). s.result) (first_holds (new_checks [] g.1.0) _ t g.1.2).1) h
