-- Document 02, card 3: what holds of every list of submissions from a fresh board. A slot shows its last accepted one; what that certified bounds every
-- scheduler; and 54 never comes from the board itself. Assumes nothing.
use Prim.Native.Nat.{ℕ, suc, ◌<◌, ◌≤◌, ◌-◌}
use native.Mathlib.Omega.{arith}
use mathlib.Core.Path.{◌≡◌, refl, sym, ap, subst, ◌∙◌}
use mathlib.Core.Logic.{inl, inr}
use mathlib.Core.Bool.{Bool, true, false, not, cond, ◌&&◌}
use mathlib.Core.List.{List, [], ◌∷◌, ◌++◌}
use mathlib.Core.Option.{Option, none, some}
use lib.Dec.{T, eqb, eqb→eq, eqb_refl, ltb, lt→ltb, leb, leb→le, le→leb}
use lib.ListN.{length, set, length-set}
use lib.Seq.{get_or-set_same, get_or-set_other}
use Rattle.answers.specs.Checks.{Answer, refused, accepted, Check, test, First}
use Rattle.zone.proofs.Bools.{by-test, and}
use Rattle.answers.proofs.CheckLaws.{AllHold}
use Rattle.model.specs.Model.{model_of}
use Rattle.acceptance.specs.declared.certificate.Certificate.{Certificate}
use Rattle.acceptance.specs.Judging.{Judged}
use Rattle.acceptance.specs.Schedulers.{BoundsEvery}
use Rattle.acceptance.proofs.Exact.{promised}
use Rattle.slots.specs.declared.Slot.{Slot}
use Rattle.slots.specs.Slots.{vacant, holding, slot_at}
use Rattle.board.specs.declared.submissions.Ledger.{Ledger}
use Rattle.board.specs.declared.submissions.Submitted.{Submitted}
use Rattle.board.specs.declared.ranking.Ranking.{Ranking}
use Rattle.board.specs.Board.{could_give?, good_slot?, every?, all_good?, good_slots?, good_ledger?, spend, Board, board}
use Rattle.board.specs.Submissions.{Submission, Turn, submitted, in_range?, board_checks, Then, Says, put_of, written, judged?, ledger_after, Does}
use Rattle.board.specs.Ranking.{InRank}
use Rattle.board.specs.Replies.{ranking_of, Submits, Ranks}
use Rattle.board.specs.History.{Fresh, History, start, then, Grant, last_after, last_of, Shows, ShowsLast, Bounded, BoundsHeld}
use Rattle.board.proofs.Tests.{first_of, second-of, or_left}
use Rattle.board.proofs.GivenLaws.{judged-fits}
use Rattle.board.proofs.SlotLaws.{every_set}

-- ---- an accepted submission

-- it passed the checks before the judge
pub then-accepted : {A : Type 0} (cs : List Check) (P : Answer A → Type 0) (x : A) → Then cs P (accepted x) → AllHold cs × P (accepted x)
then-accepted [] P x h = (tt, h)
then-accepted (c ∷ cs) P x (inl h) = let r = then-accepted cs P x h.1 in ((h.0, r.0), r.1)
then-accepted (c ∷ cs) P x (inr h) = let z : ◌≡◌ {A = ℕ} 0 1 = cc h.1 in absurd (omega arith)

module _ (B : Board) (s : Submission) (c : Certificate) (h : Says B (submitted s (accepted c))) where
  pub in_range : T (in_range? B s)
  in_range = (then-accepted (board_checks B s) (Judged s.model s.table) c h).0.0

  pub judged : Judged s.model s.table (accepted c)
  judged = (then-accepted (board_checks B s) (Judged s.model s.table) c h).1

-- ---- a submission more

-- what a call does to a board goes on with the history that led to it
pub goes_on : {B last : Board} {ts : List Turn} (s : Submission) (r : Submitted) (ss : List Slot) → History B ts last → (h : Submits last s r ss) →
    History B (ts ++ (submitted s h.said ∷ [])) (board ss r.ledger)
goes_on s r ss start h = then h.does start
goes_on s r ss (then d hs) h = then d (goes_on s r ss hs h)

-- ---- what a slot shows

apart : (m n : ℕ) → eqb m n ≡ false → n ≡ m → ⊥
apart m n e f = subst T e (subst (λ (k : ℕ). T (eqb m k)) (sym f) (eqb_refl m))

-- after one turn
turned : (B after : Board) (t : Turn) → Does B t after → (n : ℕ) → n < length B.slots → (g : Option Grant) → Shows g (slot_at B.slots n) →
    Shows (last_after n g t) (slot_at after.slots n)
unfolding last_after put_of written
turned B after (submitted s (refused m p)) h n l g k = subst (λ (ss : List Slot). Shows g (slot_at ss n)) (sym h.slots) k
turned B after (submitted s (accepted c)) h n l g k =
    subst (λ (ss : List Slot). Shows (cond (eqb s.slot n) (some (record { made = s; certificate = c })) g) (slot_at ss n)) (sym h.slots)
    (by-test (λ (x : Option Grant). Shows x (slot_at (set B.slots s.slot new) n)) (eqb s.slot n)
    (some (record { made = s; certificate = c })) g here there)
  where
    new : Slot
    new = holding s.team c.b c.whole

    here : eqb s.slot n ≡ true → slot_at (set B.slots s.slot new) n ≡ new
    here e = ap (λ (i : ℕ). slot_at (set B.slots i new) n) (eqb→eq s.slot n (subst T (sym e) tt)) ∙ get_or-set_same B.slots n new vacant l

    there : eqb s.slot n ≡ false → Shows g (slot_at (set B.slots s.slot new) n)
    there e = subst (Shows g) (sym (get_or-set_other B.slots s.slot n new vacant (apart s.slot n e))) k

same_length : (B after : Board) (t : Turn) → Does B t after → length after.slots ≡ length B.slots
unfolding put_of written
same_length B after (submitted s (refused m p)) h = ap length h.slots
same_length B after (submitted s (accepted c)) h = ap length h.slots ∙ length-set B.slots s.slot (holding s.team c.b c.whole)

-- after a list of them
shows-on : {B last : Board} {ts : List Turn} → History B ts last → (n : ℕ) → n < length B.slots → (g : Option Grant) → Shows g (slot_at B.slots n) →
    Shows (last_of n g ts) (slot_at last.slots n)
unfolding last_of
shows-on start n l g k = k
shows-on (then {B} {after} {last} {t} {ts} h hs) n l g k =
    shows-on hs n (subst (λ (i : ℕ). n < i) (sym (same_length B after t h)) l) (last_after n g t) (turned B after t h n l g k)

pub shows-last : {B last : Board} {ts : List Turn} → Fresh B → History B ts last → ShowsLast ts last
shows-last f h = record { shows = λ n l. shows-on h n (subst (λ (i : ℕ). n < i) (sym f.sixteen) l) none (f.vacant n l) }

-- ---- the bound over every scheduler

abbrev BoundsGrant : Option Grant → Type 0
BoundsGrant none = Unit {0}
BoundsGrant (some g) = BoundsEvery (model_of g.made.model) g.certificate.b g.certificate.whole

bounded-turn : (B after : Board) (t : Turn) → Does B t after → (n : ℕ) (g : Option Grant) → BoundsGrant g → BoundsGrant (last_after n g t)
unfolding last_after
bounded-turn B after (submitted s (refused m p)) h n g k = k
bounded-turn B after (submitted s (accepted c)) h n g k =
    by-test BoundsGrant (eqb s.slot n) (some (record { made = s; certificate = c })) g (λ e. promised s.model s.table (accepted c)
    (judged B s c h.says))
    (λ e. k)

bounded-on : {B last : Board} {ts : List Turn} → History B ts last → (n : ℕ) (g : Option Grant) → BoundsGrant g → BoundsGrant (last_of n g ts)
unfolding last_of
bounded-on start n g k = k
bounded-on (then {B} {after} {last} {t} {ts} h hs) n g k = bounded-on hs n (last_after n g t) (bounded-turn B after t h n g k)

pub bounds-held : {B last : Board} {ts : List Turn} → Fresh B → History B ts last → BoundsHeld ts last
bounds-held {B} {last} {ts} f h = record { held = λ n l t. by n (last_of n none ts) ((shows-last f h).shows n l) (bounded-on h n none tt) refl t }
  where
    by : (n : ℕ) (g : Option Grant) → Shows g (slot_at last.slots n) → BoundsGrant g → last_of n none ts ≡ g → T (slot_at last.slots n).held →
        Bounded ts n (slot_at last.slots n)
    by n none k b e t = absurd (subst T k t)
    by n (some g) k b e t =
        record { grant = g; last = e; bounds = subst (λ (x : Slot). BoundsEvery (model_of g.made.model) x.b x.whole) (sym k) b }

-- ---- 54 never comes from the board itself

pub record InRange (B : Board) : Type 0 where
  pub slots : T (good_slots? B.slots)
  pub ledger : T (good_ledger? B.ledger)

-- the slots
slots-stay : (B : Board) (t : Turn) → Says B t → T (good_slots? B.slots) → T (good_slots? (written B.slots (put_of t)))
unfolding put_of written
slots-stay B (submitted s (refused n p)) h g = g
slots-stay B (submitted s (accepted c)) h g =
    and (eqb (length (set B.slots s.slot new)) 16) (all_good? (set B.slots s.slot new))
    (subst (λ (k : ℕ). T (eqb k 16)) (sym (length-set B.slots s.slot new)) (first_of (eqb (length B.slots) 16) (all_good? B.slots) g))
    (every_set (λ (x : Slot). good_slot? x) B.slots s.slot new (second-of (eqb (length B.slots) 16) (all_good? B.slots) g)
    (and (leb s.team 7) (could_give? c.b c.whole) team (judged-fits s.model s.table c (judged B s c h))))
  where
    new : Slot
    new = holding s.team c.b c.whole

    team : T (leb s.team 7)
    team =
        first_of (leb s.team 7) (ltb s.slot 16) (second-of (good_ledger? B.ledger) (leb s.team 7 && ltb s.slot 16)
        (second-of (good_slots? B.slots) (good_ledger? B.ledger && (leb s.team 7 && ltb s.slot 16)) (in_range B s c h)))

-- the allowance
ledger-stays : (B : Board) (t : Turn) → T (good_ledger? B.ledger) → T (good_ledger? (ledger_after B t))
unfolding ledger_after
ledger-stays B (submitted s a) g = by-test (λ (l : Ledger). T (good_ledger? l)) (judged? B s) (spend B.ledger) B.ledger (λ e. less) (λ e. g)
  where
    less : T (good_ledger? (spend B.ledger))
    less = let m : B.ledger.allowance ≤ 100 = leb→le B.ledger.allowance 100 g in le→leb (B.ledger.allowance - 1) 100 (omega arith)

stays : {B last : Board} {ts : List Turn} → History B ts last → InRange B → InRange last
stays start g = g
stays (then {B} {after} {last} {t} {ts} h hs) g =
    stays hs (record {
      slots = subst (λ (ss : List Slot). T (good_slots? ss)) (sym h.slots) (slots-stay B t h.says g.slots);
      ledger = subst (λ (l : Ledger). T (good_ledger? l)) (sym h.ledger) (ledger-stays B t g.ledger);
    })

vacant-good : (ss : List Slot) → ((n : ℕ) → n < length ss → (slot_at ss n).held ≡ false) → T (all_good? ss)
unfolding every?
vacant-good [] h = tt
vacant-good (x ∷ ss) h =
    and (good_slot? x) (all_good? ss) (or_left (not x.held) (leb x.team 7 && could_give? x.b x.whole)
    (subst (λ (b : Bool). T (not b)) (sym (h 0 (omega arith))) tt))
    (vacant-good ss (λ n l. h (suc n) (omega arith)))

fresh : {B : Board} → Fresh B → InRange B
fresh {B} f = record {
  slots = and (eqb (length B.slots) 16) (all_good? B.slots) (subst (λ (n : ℕ). T (eqb n 16)) (sym f.sixteen) tt)
      (vacant-good B.slots (λ n l. f.vacant n (subst (λ (k : ℕ). n < k) f.sixteen l)));
  ledger = subst (λ (n : ℕ). T (leb n 100)) (sym f.allowance) tt;
}

-- so ranking never refuses
pub rank_in_range : {B last : Board} {ts : List Turn} → Fresh B → History B ts last → (r : Ranking) → Ranks last.slots r → r.number ≡ 0
unfolding ranking_of
rank_in_range {B} {last} f h r k = ap (λ (x : Ranking). x.number) k.replies ∙ by k.said k.ranked.says
  where
    by : (a : Answer (List ℕ)) → First (test 54 0 (good_slots? last.slots) ∷ []) (InRank last.slots) a → (ranking_of a).number ≡ 0
    by (accepted ns) s = refl
    by (refused n p) (inl s) = absurd s.1
    by (refused n p) (inr s) = absurd (s.0 (stays h (fresh f)).slots)

-- and a submission passes its check where its own team and slot are in range
pub own_in_range : {B last : Board} {ts : List Turn} → Fresh B → History B ts last → (s : Submission) → s.team ≤ 7 → s.slot < 16 → T (in_range? last s)
own_in_range {B} {last} f h s team slot =
    let g : InRange last = stays h (fresh f) in
    and (good_slots? last.slots) (good_ledger? last.ledger && (leb s.team 7 && ltb s.slot 16)) g.slots
    (and (good_ledger? last.ledger) (leb s.team 7 && ltb s.slot 16) g.ledger
    (and (leb s.team 7) (ltb s.slot 16) (le→leb s.team 7 team) (lt→ltb s.slot 16 slot)))
