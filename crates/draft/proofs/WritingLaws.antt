-- Words put into a list, part by part; and how many words a draft has. Assumes nothing.
use Prim.Native.Nat.{ℕ, suc, ◌+◌, ◌-◌, ◌≤◌}
use mathlib.Core.Path.{◌≡◌, refl, sym, ap, ap₂, ◌∙◌}
use mathlib.Core.Logic.{◌⊎◌, inl, inr}
use mathlib.Core.List.{List, [], ◌∷◌, ◌++◌, append_assoc}
use native.Mathlib.Nat as N
use native.Mathlib.Omega.{arith}
use lib.ListN.{set, take, drop, length, length-set, length-drop, length-append, length-map}
use borrow.Rule.Slice.PartMut.{put_mid}
use Rattle.std.proofs.Common.{rules}
use Rattle.std.proofs.lemmas.List.{append-nil, drop_all, take_all, take_more_set, set_split, drop-set-lt, nil_from_length, places}
use Rattle.std.proofs.lemmas.List.Sums.{sum_by-cons}
use Rattle.std.proofs.lemmas.Slice.{take-put_mid, drop-put_mid}
use Rattle.drafting.specs.Words.{word}
use Rattle.draft.specs.Writing.{row_word, node_text, nodes_text, draft_text, node_size, nodes_size}
use Rattle.draft.specs.declared.nodes.Node.{Node}

-- ---- a node

-- a part up to the end
put_end : (xs ys : List ℕ) (a : ℕ) → put_mid a (length xs - a) xs ys ≡ take a xs ++ ys
put_end xs ys a = rw (drop_all (length xs - a) (drop a xs) (omega (arith, length-drop a xs)), append-nil ys) refl

-- a first word, the part bs of n words, a word and the part ws up to the end
pub node_put : (L bs ws : List ℕ) (n w v : ℕ) → length L ≡ n + 2 + length ws → length bs ≡ n →
    let X : List ℕ = set (put_mid 1 (1 + n - 1) (set L 0 w) bs) (1 + n) v in
    put_mid (1 + n + 1) (length X - (1 + n + 1)) X ws ≡ w ∷ (bs ++ (v ∷ ws))
node_put L bs ws n w v h e =
    let Y : List ℕ = set L 0 w in
    let X : List ℕ = put_mid 1 (1 + n - 1) Y bs in
    let first : take 1 Y ≡ w ∷ [] = take_more_set L 0 w (omega arith) in
    let bounds : take (1 + n) X ≡ take 1 Y ++ bs = take-put_mid 1 (1 + n - 1) Y bs (1 + n) (omega arith) (omega (arith, length-set L 0 w)) in
    let size : length X ≡ length L = search (rules, places) in
    let value : take (1 + n + 1) (set X (1 + n) v) ≡ take (1 + n) X ++ v ∷ [] = take_more_set X (1 + n) v (omega arith) in
    put_end (set X (1 + n) v) ws (1 + n + 1) ∙ rw (value, bounds, first) (append_assoc (w ∷ bs) (v ∷ []) ws)

pub node-length : (n : Node) (v : ℕ) → length (node_text n v) ≡ node_size n
unfolding node_text
node-length n v = let bounds = length-append n.front.bounds.items in let rows = length-map n.rows.items row_word in simp (length-append, length-map) (omega arith)

-- ---- nodes

module _ (nodes : List Node) (vs : List ℕ) where
  -- all but the nodes ns are put, into the first words up to `at`; the values of ns are the first of us
  pub record Put (words : List ℕ) (at : ℕ) (ns : List Node) (us : List ℕ) : Type 0 where
    pub text : take at words ++ nodes_text ns us ≡ nodes_text nodes vs
    pub size : at + nodes_size ns ≡ nodes_size nodes
    pub few : length ns ≤ length us

  pub put_none : (words : List ℕ) → length nodes ≤ length vs → Put words 0 nodes vs
  put_none words h = record { text = refl; size = N.zero-add (nodes_size nodes); few = h }

  module _ {words : List ℕ} {at : ℕ} {ns : List Node} {us : List ℕ} (p : Put words at ns us) where
    -- the next node, n, has room
    pub room_more : {n : Node} {rest : List Node} → ns ≡ n ∷ rest → at + node_size n ≤ nodes_size nodes
    room_more {n} {rest} e = let size = rw (e, sum_by-cons node_size n rest) at p.size in omega arith

    pub put_more : {n : Node} {rest : List Node} {v : ℕ} {others : List ℕ} → ns ≡ n ∷ rest → us ≡ v ∷ others → length words ≡ nodes_size nodes →
        (text : List ℕ) → text ≡ node_text n v → Put (put_mid at (at + node_size n - at) words text) (at + node_size n) rest others
    unfolding nodes_text
    put_more {n} {rest} {v} {others} e f l text is =
        let room = room_more e in
        let text_size : length text ≡ node_size n = ap length is ∙ node-length n v in
        let put : take (at + node_size n) (put_mid at (at + node_size n - at) words text) ≡ take at words ++ text =
        take-put_mid at (at + node_size n - at) words text (at + node_size n) (omega arith) (omega arith) in
        let all = rw (e, f) at p.text in
        let size = rw (e, sum_by-cons node_size n rest) at p.size in
        let few = rw (e, f) at p.few in
        record {
          text = rw (put, is) (append_assoc (take at words) (node_text n v) (nodes_text rest others) ∙ all);
          size = omega arith;
          few = omega arith;
        }

    pub put_all : (ns ≡ []) ⊎ (us ≡ []) → length words ≡ nodes_size nodes → words ≡ nodes_text nodes vs
    unfolding nodes_text
    put_all h l =
        let none : ns ≡ [] = by h p.few in
        let size = rw none at p.size in
        let text = rw (none, append-nil (take at words), take_all at words (omega arith)) at p.text in
        text
      where
        by : (ns ≡ []) ⊎ (us ≡ []) → length ns ≤ length us → ns ≡ []
        by (inl e) h = e
        by (inr e) h = nil_from_length ns (omega (arith, rw e at h))

-- ---- a draft: its first word, the words ws and its last word, at the front of what is lent
pub draft_put : (L ws : List ℕ) (size a b : ℕ) → size ≡ 2 + length ws → size ≤ length L →
    let text : List ℕ = a ∷ (ws ++ (b ∷ [])) in
    set (put_mid 1 (size - 1 - 1) (set L 0 a) ws) (size - 1) b ≡ text ++ drop (length text) L
draft_put L ws size a b e h =
    let Y : List ℕ = set L 0 a in
    let X : List ℕ = put_mid 1 (size - 1 - 1) Y ws in
    let room : length X ≡ length L = search (rules, places) in
    let one : suc (size - 1) ≡ size = omega arith in
    let first : take 1 Y ≡ a ∷ [] = take_more_set L 0 a (omega arith) in
    let before : take (size - 1) X ≡ take 1 Y ++ ws = take-put_mid 1 (size - 1 - 1) Y ws (size - 1) (omega arith) (omega (arith, length-set L 0 a)) in
    let behind : drop size X ≡ drop size L =
    drop-put_mid 1 (size - 1 - 1) Y ws size (omega arith) (omega (arith, length-set L 0 a)) (omega arith) ∙ drop-set-lt size L 0 a (omega arith) in
    let all : length (a ∷ (ws ++ (b ∷ []))) ≡ size = omega (arith, length-append ws (b ∷ [])) in
    set_split X (size - 1) b (omega arith)
    ∙ ap₂ (λ (xs ys : List ℕ). xs ++ (b ∷ ys)) (before ∙ ap (λ (xs : List ℕ). xs ++ ws) first) (ap (λ (n : ℕ). drop n X) one ∙ behind)
    ∙ sym (append_assoc (a ∷ ws) (b ∷ []) (drop size L))
    ∙ ap (λ (n : ℕ). (a ∷ (ws ++ (b ∷ []))) ++ drop n L) (sym all)

-- ---- how many words a draft has
nodes-length : (nodes : List Node) (vs : List ℕ) → length nodes ≤ length vs → length (nodes_text nodes vs) ≡ nodes_size nodes
unfolding nodes_text
nodes-length [] vs h = refl
nodes-length (n ∷ ns) [] h = absurd (omega arith)
nodes-length (n ∷ ns) (v ∷ vs) h =
    let rest = nodes-length ns vs (N.le_of_suc-le-suc h) in
    let node = node-length n v in
    rw (length-append (node_text n v) (nodes_text ns vs), sum_by-cons node_size n ns) (omega arith)

pub text-length : (nodes : List Node) (vs : List ℕ) → length nodes ≤ length vs → length (draft_text nodes vs) ≡ 2 + nodes_size nodes
unfolding draft_text
text-length nodes vs h = let size = nodes-length nodes vs h in omega (arith, length-append (nodes_text nodes vs) (word 12 0 ∷ []))
