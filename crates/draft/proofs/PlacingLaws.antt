-- The node that a front finds or adds is the one that valuations ask for. Assumes nothing.
use Prim.Native.Nat.{ℕ, zero, suc, ◌+◌, ◌≤◌, ◌<◌, zero-le, suc-le-suc}
use mathlib.Core.Path.{◌≡◌, refl, sym, ap, ap₂, subst, ◌∙◌}
use mathlib.Core.Logic.{inl, inr}
use mathlib.Core.Bool.{Bool, true, false, cond}
use mathlib.Core.List.{List, [], ◌∷◌, ◌++◌, map, map-append}
use native.Mathlib.Nat as N
use native.Mathlib.Omega.{arith}
use borrow.Author.Tests.{le-leb, eqb-true, eq-eqb}
use lib.Dec.{ltb, eqb}
use lib.IntN.{nat_abs}
use lib.ListN.{get_or, length, length-map}
use Rattle.zone.specs.Scale.{Zone, within}
use Rattle.zone.specs.Words.{zone_of}
use Rattle.answers.specs.Checks.{Answer, refused, accepted, test, First}
use Rattle.zone.proofs.Bools.{true_false, left_true, right_true}
use Rattle.model.specs.Model.{Model}
use Rattle.model.proofs.WellFormed.{WellFormed}
use Rattle.judge.proofs.RowLaws.{all-below}
use Rattle.drafting.specs.Bounding.{BoundsOf}
use Rattle.drafting.specs.Exploring.{Found, Progress, no_found, Known, narrow?, new_checks, node_for}
use Rattle.drafting.specs.Words.{bound_word}
use Rattle.drafting.proofs.BoundingLaws.{same_refl, bounds-one}
use Rattle.drafting.proofs.WordBack.{AllFit, zone-back}
use Rattle.drafting.proofs.ExploreLaws.{Writable, Ready, bounds-fit}
use Rattle.std.specs.Prelude.{Option, Some, None, Result, Ok, Err, bytes_eq}
use Rattle.std.specs.List.{position_from}
use Rattle.std.proofs.lemmas.Slice.Eq.{bytes_eq-Decides}
use Rattle.answers.specs.Refusals.{number}
use Rattle.answers.specs.declared.Reason.{Reason}
use Rattle.answers.specs.declared.Reason.TheVariants as reason
use Rattle.draft.specs.Fronts.{front, front_for}
use Rattle.draft.specs.Nodes.{same_front?, known_in, Placing, new_node, added_to, known_or, placed_in}
use Rattle.draft.specs.declared.nodes.Front.{Front}
use Rattle.draft.proofs.Coding.{front_of}
use Rattle.std.proofs.lemmas.List.{get_or-map}

-- ---- fronts are told apart
same→ : (g f : Front) → same_front? g f ≡ true → g ≡ f
same→ g f e =
    ap₂ front (eqb-true g.location f.location (left_true (eqb g.location f.location) (bytes_eq g.bounds.items f.bounds.items) e))
    ((bytes_eq-Decides g.bounds.items f.bounds.items).0 (right_true (eqb g.location f.location) (bytes_eq g.bounds.items f.bounds.items) e))

→same : (f : Front) → same_front? f f ≡ true
→same f = rw (eq-eqb f.location f.location refl, (bytes_eq-Decides f.bounds.items f.bounds.items).1 refl) refl

-- ---- looking a front up
module _ (f : Front) where
  -- what is said of the nodes numbered from n on
  abbrev Says : ℕ → List Front → Option ℕ → Type 0
  Says n fs None = (i : ℕ) → i < length fs → get_or fs i (front 0 []) ≡ f → ⊥
  Says n fs (Some m) =
      (i : ℕ) × (m ≡ n + i) × (i < length fs) × (get_or fs i (front 0 []) ≡ f) × ((j : ℕ) → j < i → get_or fs j (front 0 []) ≡ f → ⊥)

  looks-up : (n : ℕ) (fs : List Front) → Says n fs (position_from (λ g. same_front? g f) n fs)
  looks-up n [] = λ i h e. absurd (N.not-suc-le-zero h)
  looks-up n (g ∷ fs) = by (same_front? g f) refl (position_from (λ g. same_front? g f) (n + 1) fs) (looks-up (n + 1) fs)
    where
      first : same_front? g f ≡ false → g ≡ f → ⊥
      first c e = true_false (sym (subst (λ g. same_front? g f ≡ true) (sym e) (→same f)) ∙ c)

      by : (c : Bool) → same_front? g f ≡ c → (o : Option ℕ) → Says (n + 1) fs o → Says n (g ∷ fs) (cond c (Some n) o)
      by true c o s = (0, sym (N.add-zero n), suc-le-suc zero-le, same→ g f c, λ j h e. absurd (N.not-suc-le-zero h))
      by false c None s = at
        where
          at : (i : ℕ) → i < suc (length fs) → get_or (g ∷ fs) i (front 0 []) ≡ f → ⊥
          at zero h e = first c e
          at (suc i) h e = s i (N.le_of_suc-le-suc h) e
      by false c (Some m) s = (suc s.0, (let q = s.1 in omega arith), suc-le-suc s.2, s.3, before)
        where
          before : (j : ℕ) → j < suc s.0 → get_or (g ∷ fs) j (front 0 []) ≡ f → ⊥
          before zero h e = first c e
          before (suc j) h e = s.4 j (N.le_of_suc-le-suc h) e

-- ---- the nodes found, by their fronts

-- bounds that words can hold are narrow
fit-narrow : (C : ℕ) (Z : Zone) → AllFit C Z → narrow? Z ≡ true
unfolding narrow?
fit-narrow C [] h = refl
fit-narrow C (b ∷ Z) h = rw (le-leb (nat_abs b.d) 4095 h.0.small, fit-narrow C Z h.1)

-- ---- what placing comes to: the node that the definition P gives, or its refusal
pub data Places (P : Answer (Progress ℕ) → Type 0) : Result Placing Reason → Type 0 where
  placed : (Fs : List Found) (n : ℕ) → P (accepted (record { found = Fs; result = n })) →
      Places P (Ok (record { number = n; fronts = map front_of Fs }))
  not_placed : (r : Reason) → P (refused (number r) 0) → Places P (Err r)

-- a new node
added-right : (C l : ℕ) (S Z : Zone) (found : List Found) → BoundsOf C (within S) Z → ((n : ℕ) → Known found l S n → ⊥) →
    Places (node_for C l S found) (added_to (front_for l Z) (map front_of found))
unfolding added_to front_for new_checks number
added-right C l S Z found b new =
    rw (length-map found front_of) (by (ltb (length found) 64) (narrow? Z) (λ a h. inr (new, (Z, b, h))))
  where
    G : Found
    G = record { location = l; zone = Z }

    step : Progress ℕ
    step = record { found = found ++ (G ∷ []); result = length found }

    by : (c d : Bool) → ((a : Answer (Progress ℕ)) → First (test 58 0 c ∷ test 59 0 d ∷ []) (λ s. s ≡ step) a → node_for C l S found a) →
        Places (node_for C l S found)
        (cond c (new_node (cond d (Some (front_of G)) None) (map front_of found)) (Err reason.TooManyNodes))
    by true true f =
        subst (λ (fs : List Front). Places (node_for C l S found) (Ok (record { number = length (map front_of found); fronts = fs })))
        (map-append front_of found (G ∷ []))
        (rw (length-map found front_of) (placed (found ++ (G ∷ [])) (length found) (f _ (inl (tt, inl (tt, refl))))))
    by true false f = not_placed reason.BoundTooFar (f _ (inl (tt, inr ((λ t. t), refl))))
    by false d f = not_placed reason.TooManyNodes (f _ (inr ((λ t. t), refl)))

-- the first node
pub placed_first : (C l : ℕ) (S Z : Zone) → BoundsOf C (within S) Z → Places (node_for C l S []) (placed_in (front_for l Z) [])
unfolding placed_in known_or front_for
placed_first C l S Z b = by (narrow? Z) (added-right C l S Z [] b (λ n k. N.not-suc-le-zero k.there))
  where
    front_if : Bool → Option Front
    front_if c = cond c (Some (front l (map bound_word Z))) None

    by : (c : Bool) → Places (node_for C l S []) (added_to (front_if c) []) → Places (node_for C l S []) (placed_in (front_if c) [])
    by true h = h
    by false h = h

-- ---- a zone with its own bounds, at a location, where some nodes are found
module _ {M : Model} (formed : WellFormed M) (few : length M.locations ≤ 16) (l : ℕ) (hl : l < length M.locations) (Z : Zone)
    (own : BoundsOf M.clocks (within Z) Z) (found : List Found) (ready : Ready M found) where
  abbrev G : Found
  G = record { location = l; zone = Z }

  -- a known node has the same bounds
  known-zone : (n : ℕ) → Known found l Z n → (get_or found n no_found).zone ≡ Z
  known-zone n k = bounds-one M.clocks (get_or found n no_found).zone Z k.same (all-below no_found n ready.all k.there).own own

  known-words : (n : ℕ) → Known found l Z n → get_or (map front_of found) n (front 0 []) ≡ front_of G
  known-words n k = get_or-map front_of found n no_found (front 0 []) k.there ∙ ap front_of (made (get_or found n no_found) k.location (known-zone n k))
    where
      made : (F : Found) → F.location ≡ l → F.zone ≡ Z → F ≡ G
      made F e f = rw (← e, ← f) refl

  words-known : narrow? Z ≡ true → (n : ℕ) → n < length found → get_or (map front_of found) n (front 0 []) ≡ front_of G → Known found l Z n
  words-known t n h e = record { there = h; location = location; same = rw zone (same_refl (within Z)) }
    where
      F : Found
      F = get_or found n no_found

      w : Writable M F
      w = all-below no_found n ready.all h

      words : front_of F ≡ front_of G
      words = sym (get_or-map front_of found n no_found (front 0 []) h) ∙ e

      location : F.location ≡ l
      location = ap (λ (f : Front). f.location) words

      zone : F.zone ≡ Z
      zone =
          sym (zone-back M.clocks formed.clocks F.zone w.zone) ∙ ap (λ (f : Front). zone_of f.bounds.items) words
          ∙ zone-back M.clocks formed.clocks Z (bounds-fit (within Z) M.clocks formed.clock Z own (rw t tt))

  known-right : (o : Option ℕ) → Says (front_of G) 0 (map front_of found) o → narrow? Z ≡ true →
      Places (node_for M.clocks l Z found) (known_or o (front_of G) (map front_of found))
  unfolding known_or front_for
  known-right None s t =
      let new = added-right M.clocks l Z Z found own (λ n k. s n (rw (length-map found front_of) k.there) (known-words n k)) in
      rw t at new
  known-right (Some m) s t =
      let is : m ≡ s.0 = s.1 ∙ N.zero-add s.0 in
      rw is
      (placed found s.0
      (inl (s.0, words-known t s.0 (rw (length-map found front_of) at s.2) s.3, (λ j h k. s.4 j h (known-words j k)), refl)))

  pub placed-right : Places (node_for M.clocks l Z found) (placed_in (front_for l Z) (map front_of found))
  unfolding placed_in front_for
  placed-right = by (narrow? Z) refl
    where
      by : (c : Bool) → narrow? Z ≡ c →
          Places (node_for M.clocks l Z found) (placed_in (cond c (Some (front_of G)) None) (map front_of found))
      by true e = known-right (known_in (front_of G) (map front_of found)) (looks-up (front_of G) 0 (map front_of found)) e
      by false e =
          rw e at
          (added-right M.clocks l Z Z found own
          (λ n k. true_false
          (sym (fit-narrow M.clocks Z (subst (AllFit M.clocks) (known-zone n k) (all-below no_found n ready.all k.there).zone)) ∙ e)))
