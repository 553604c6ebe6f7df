-- What a submission comes to, check by check, at every board whose slots were read. Assumes nothing.
use Prim.Native.Nat.{ℕ, ◌<◌}
use native.Mathlib.Omega.{arith}
use mathlib.Core.Path.{◌≡◌, refl, sym, ap, subst, ◌∙◌}
use mathlib.Core.Logic.{inl, inr}
use mathlib.Core.Bool.{Bool, true, false, cond, ◌&&◌}
use mathlib.Core.List.{List}
use lib.Dec.{T, eqb, ltb, ltb→lt, lt→ltb, leb}
use lib.ListN.{length, set}
use Rattle.std.specs.Prelude.{Option, None, Some, Result, Ok, Err}
use Rattle.answers.specs.Checks.{Answer, refused, accepted, First}
use Rattle.answers.specs.Refusals.{number, answer_of}
use Rattle.answers.specs.declared.Reason.{Reason}
use Rattle.answers.specs.declared.Reason.TheVariants.{BoardOutOfRange, AllowanceSpent, SlotHeldByOther}
use Rattle.answers.specs.declared.Refusal.{Refusal}
use Rattle.answers.proofs.CheckLaws.{AllHold, first_holds, same_refusal}
use Rattle.answers.proofs.RefusalLaws.{not-zero}
use Rattle.zone.proofs.Bools.{true_false}
use Rattle.acceptance.specs.declared.certificate.Certificate.{Certificate}
use Rattle.acceptance.specs.Judging.{Judged, BoundsSchedulers}
use Rattle.slots.specs.declared.Slot.{Slot}
use Rattle.slots.specs.Slots.{slot_at}
use Rattle.slots.specs.Loading.{Loads}
use Rattle.board.specs.declared.submissions.Ledger.{Ledger}
use Rattle.board.specs.declared.submissions.Request.{Request}
use Rattle.board.specs.declared.submissions.Reply.{Reply}
use Rattle.board.specs.declared.submissions.Decision.{Decision}
use Rattle.board.specs.declared.submissions.Placed.{Placed}
use Rattle.board.specs.Board.{all_good?, good_slots?, good_ledger?, spend, board}
use Rattle.board.specs.Submissions.{Submission, submitted, in_range?, unspent?, may_write?, may_take?, Says, Put, leaves, puts, put_of, written, judged?}
use Rattle.board.specs.Submissions.{ledger_after}
use Rattle.board.specs.Replies.{submission, reply_of, Accepting, Submits}
use Rattle.board.specs.Deciding.{read_slots, good_lent?, lent_in_range?, lent_checks, Writes, put_for, ComesTo, Decides}
use Rattle.board.proofs.Tests.{first_of, second-of, some-fails, all_hold}

-- what was read is in range where what was lent is
pub as_good : (ss : List Slot) (lent : Result (List Slot) ℕ) → Loads ss lent → good_lent? lent ≡ good_slots? ss
as_good ss lent h = ap good_lent? h ∙ gate (eqb (length ss) 16)
  where
    gate : (b : Bool) → good_lent? (cond b (Ok ss) (Err (length ss))) ≡ (b && all_good? ss)
    gate true = refl
    gate false = refl

-- and then it is the same
pub as_read : (ss : List Slot) (lent : Result (List Slot) ℕ) → Loads ss lent → T (good_lent? lent) → read_slots lent ≡ ss
as_read ss lent h t = by (eqb (length ss) 16) h
  where
    by : (b : Bool) → lent ≡ cond b (Ok ss) (Err (length ss)) → read_slots lent ≡ ss
    by true e = ap read_slots e
    by false e = absurd (subst (λ (o : Result (List Slot) ℕ). T (good_lent? o)) e t)

-- a refusal with place 0
pub refuses : {A : Type 0} (r : Refusal) (reason : Reason) → r.reason ≡ reason → r.place ≡ 0 →
    ◌≡◌ {A = Answer A} (answer_of (Err r)) (refused (number reason) 0)
unfolding answer_of
refuses r reason e p = rw (e, p) refl

-- what is left, or 54 to 56
abbrev pub Admits : Ledger → Request → Result (List Slot) ℕ → Answer Ledger → Type 0
Admits l q lent answer = First (lent_checks lent l q) (λ left. left ≡ spend l) answer

module _ (l : Ledger) (q : Request) (lent : Result (List Slot) ℕ) where
  pub refuses_read : (r : Refusal) (n : ℕ) → lent ≡ Err n → r.reason ≡ BoardOutOfRange → r.place ≡ 0 → Admits l q lent (answer_of (Err r))
  unfolding number
  refuses_read r n is e p = rw is (inr ((λ t. t), refuses r BoardOutOfRange e p))

  module _ (slots : List Slot) (is : lent ≡ Ok slots) where
    pub refuses_range : (r : Refusal) → r.reason ≡ BoardOutOfRange → r.place ≡ 0 → false ≡ lent_in_range? (Ok slots) l q →
        Admits l q lent (answer_of (Err r))
    unfolding number
    refuses_range r e p h = rw is (inr ((λ t. subst T (sym h) t), refuses r BoardOutOfRange e p))

    pub refuses_spent : (r : Refusal) → r.reason ≡ AllowanceSpent → r.place ≡ 0 → true ≡ lent_in_range? (Ok slots) l q → l.allowance ≡ 0 →
        Admits l q lent (answer_of (Err r))
    unfolding number
    refuses_spent r e p t z =
        rw is (inl (subst T t tt, inr ((λ u. let m : 0 < l.allowance = ltb→lt 0 l.allowance u in omega (arith, z)), refuses r AllowanceSpent e p)))

    pub refuses_held : (r : Refusal) → r.reason ≡ SlotHeldByOther → r.place ≡ 0 → true ≡ lent_in_range? (Ok slots) l q → 0 < l.allowance →
        false ≡ may_write? q.team (slot_at slots q.slot) → Admits l q lent (answer_of (Err r))
    unfolding number
    refuses_held r e p t u w =
        rw is (inl (subst T t tt, inl (lt→ltb 0 l.allowance u, inr ((λ m. subst T (sym w) m), refuses r SlotHeldByOther e p))))

    pub admits_all : true ≡ lent_in_range? (Ok slots) l q → 0 < l.allowance → true ≡ may_write? q.team (slot_at slots q.slot) →
        Admits l q lent (answer_of (Ok (spend l)))
    unfolding answer_of
    admits_all t u w = rw is (inl (subst T t tt, inl (lt→ltb 0 l.allowance u, inl (subst T w tt, refl))))

pub ruleset admitting = (refuses_read, refuses_range, refuses_spent, refuses_held, admits_all)

-- the number 0 says that it is an acceptance
accepting : (a : Result Certificate Refusal) → (reply_of (answer_of a)).number ≡ 0 → Accepting (answer_of a)
unfolding reply_of answer_of
accepting (Ok c) e = tt
accepting (Err r) e = true_false (sym (ap (λ n. eqb n 0) e) ∙ not-zero r.reason)

module _ (lent : Result (List Slot) ℕ) (l : Ledger) (q : Request) (model table : List ℕ) where
  abbrev s : Submission
  s = submission q model table

  -- what 54 asks besides the slots
  abbrev own : Bool
  own = good_ledger? l && (leb q.team 7 && ltb q.slot 16)

  module _ (ss : List Slot) (h : Loads ss lent) where
    ranged : lent_in_range? lent l q ≡ in_range? (board ss l) s
    ranged = ap (λ (good : Bool). good && own) (as_good ss lent h)

    named : T (lent_in_range? lent l q) → may_write? q.team (slot_at (read_slots lent) q.slot) ≡ may_take? (board ss l) s
    named t = ap (λ (x : List Slot). may_write? q.team (slot_at x q.slot)) (as_read ss lent h (first_of (good_lent? lent) own t))

  same-put : (a : Answer Certificate) → put_for q a ≡ put_of (submitted s a)
  unfolding put_for put_of
  same-put (refused n p) = refl
  same-put (accepted c) = refl

  decides : (a : Result Certificate Refusal) (left : Ledger) (r : Decision) → ComesTo q (answer_of a) left r → BoundsSchedulers model (answer_of a) →
      ((ss : List Slot) → Loads ss lent → Says (board ss l) (submitted s (answer_of a))) →
      ((ss : List Slot) → Loads ss lent → left ≡ ledger_after (board ss l) (submitted s (answer_of a))) → Decides lent l s r
  decides a left r c bounds says ledger = record {
    said = answer_of a;
    replies = c.reply;
    accepts = λ e. accepting a (sym (ap (λ (x : Reply). x.number) c.reply) ∙ e);
    writes = subst (λ (p : Put). Writes p r.write) (same-put (answer_of a)) c.writes;
    bounds = bounds;
    says = says;
    ledger = λ ss h. c.ledger ∙ ledger ss h;
  }

  -- 54 to 56
  pub stops : (P : Ledger → Type 0) (r : Refusal) (d : Decision) → First (lent_checks lent l q) P (answer_of (Err r)) →
      ComesTo q (answer_of (Err r)) l d → Decides lent l s d
  unfolding answer_of ledger_after
  stops P r d f c = decides (Err r) l d c tt (λ ss h. says ss h f)
      (λ ss h. some-fails (in_range? (board ss l) s) (unspent? (board ss l)) (may_take? (board ss l) s) (spend l) l (not-judged ss h f))
    where
      says : (ss : List Slot) → Loads ss lent → First (lent_checks lent l q) P (refused (number r.reason) r.place) →
          Says (board ss l) (submitted s (refused (number r.reason) r.place))
      says ss h (inr x) = inr ((λ t. x.0 (subst T (sym (ranged ss h)) t)), same_refusal _ _ _ _ x.1)
      says ss h (inl (t, inr x)) = inl (subst T (ranged ss h) t, inr (x.0, same_refusal _ _ _ _ x.1))
      says ss h (inl (t, inl (u, inr x))) = inl (subst T (ranged ss h) t, inl (u, inr ((λ w. x.0 (subst T (sym (named ss h t)) w)), same_refusal _ _ _ _ x.1)))
      says ss h (inl (t, inl (u, inl (w, x)))) = absurd x

      not-judged : (ss : List Slot) → Loads ss lent → First (lent_checks lent l q) P (refused (number r.reason) r.place) →
          T (judged? (board ss l) s) → ⊥
      not-judged ss h (inr x) j = x.0 (subst T (sym (ranged ss h)) (first_of (in_range? (board ss l) s) _ j))
      not-judged ss h (inl (t, inr x)) j = x.0 (first_of (unspent? (board ss l)) _ (second-of (in_range? (board ss l) s) _ j))
      not-judged ss h (inl (t, inl (u, inr x))) j =
          x.0 (subst T (sym (named ss h t)) (second-of (unspent? (board ss l)) _ (second-of (in_range? (board ss l) s) _ j)))
      not-judged ss h (inl (t, inl (u, inl (w, x)))) j = absurd x

  -- none of them
  admits : (left : Ledger) → First (lent_checks lent l q) (λ x. x ≡ spend l) (answer_of {A = Ledger} (Ok left)) →
      AllHold (lent_checks lent l q) × (left ≡ spend l)
  unfolding answer_of
  admits left f = first_holds (lent_checks lent l q) (λ x. x ≡ spend l) left f

  -- the judge's answer
  pub reaches : (left : Ledger) (a : Result Certificate Refusal) (d : Decision) →
      First (lent_checks lent l q) (λ x. x ≡ spend l) (answer_of {A = Ledger} (Ok left)) → Judged model table (answer_of a) →
      BoundsSchedulers model (answer_of a) → ComesTo q (answer_of a) left d → Decides lent l s d
  unfolding ledger_after
  reaches left a d f judged bounds c =
      let g = admits left f in
      decides a left d c bounds
      (λ ss h. inl (subst T (ranged ss h) g.0.0, inl (g.0.1.0, inl (subst T (named ss h g.0.0) g.0.1.1.0, judged))))
      (λ ss h. g.1 ∙ all_hold (in_range? (board ss l) s) (unspent? (board ss l)) (may_take? (board ss l) s) (spend l) l
      (subst T (ranged ss h) g.0.0) g.0.1.0 (subst T (named ss h g.0.0) g.0.1.1.0))

-- ---- what a decision makes of the board

-- a slot put at its place, or none
abbrev pub placed : List Slot → Option Placed → List Slot
placed ss None = ss
placed ss (Some w) = set ss w.at w.slot

wrote : (ss : List Slot) (w : Option Placed) (x : Put) → Writes x w → placed ss w ≡ written ss x
unfolding written
wrote ss w leaves h = ap (placed ss) h
wrote ss w (puts n x) h = ap (placed ss) h

pub submits : (l : Ledger) (s : Submission) (ss after : List Slot) (lent : Result (List Slot) ℕ) (d : Decision) → Loads ss lent → Decides lent l s d →
    after ≡ placed ss d.write → Submits (board ss l) s d.submitted after
submits l s ss after lent d h k e = record {
  said = k.said;
  replies = k.replies;
  accepts = k.accepts;
  does = record { says = k.says ss h; slots = e ∙ wrote ss d.write (put_of (submitted s k.said)) k.writes; ledger = k.ledger ss h };
  bounds = k.bounds;
}
