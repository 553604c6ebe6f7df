-- What the words of a draft come to: the judge accepts them, the fraction bounds every scheduler, more rounds never give a larger one, and without
-- rounds it is 1. Assumes nothing.
use Prim.Native.Nat.{ℕ, ◌*◌, ◌≤◌, min}
use mathlib.Core.Path.{◌≡◌, refl, sym, ap, subst, ◌∙◌}
use mathlib.Core.List.{List, [], ◌∷◌}
use native.Mathlib.Nat.{mul-le-mul_right}
use native.Mathlib.Omega.{arith}
use lib.Dec.{leb}
use lib.ListN.{get_or, length, take, drop, replicate, length-replicate, get_or-replicate}
use lib.Seq.{take-append_seam}
use Rattle.answers.specs.Checks.{Answer, refused, accepted, test}
use Rattle.answers.proofs.CheckLaws.{first-all, first_holds}
use Rattle.model.specs.Model.{Model, model_of}
use Rattle.model.specs.Reading.{model_checks, counts_of, ReadModel}
use Rattle.model.specs.declared.read.Counts.{Counts}
use Rattle.model.proofs.WellFormed.{WellFormed, accepted-formed}
use Rattle.table.specs.Table.{Table, node_at, table_of}
use Rattle.table.specs.Reading.{read_checks}
use Rattle.acceptance.specs.Acceptance.{certified}
use Rattle.acceptance.specs.Judging.{Judged, certificate_of}
use Rattle.acceptance.specs.declared.certificate.Certificate.{Certificate}
use Rattle.acceptance.proofs.Exact.{certified-judged, judged-only, promised}
use Rattle.drafting.specs.Exploring.{Found, FoundRow, Progress, on_from, exploring}
use Rattle.drafting.specs.Words.{whole, words_of}
use Rattle.drafting.specs.Rounds.{Rounds}
use Rattle.drafting.specs.Drafting.{Ends, Drafts, length_of, lent_after, Drafted, CertifiedDraft, CertifiesWritten}
use Rattle.drafting.proofs.Shares.{Valued, rounds, values_after}
use Rattle.drafting.proofs.RoundLaws.{all_limited, rounds-below}
use Rattle.drafting.proofs.OneDraft.{exploring-one}
use Rattle.drafting.proofs.ExploreLaws.{then-parts, AllFound, exploring-found}
use Rattle.drafting.proofs.ValuedRows.{ValuedAll, valued-length, weighed}
use Rattle.drafting.proofs.KnownRows.{all-valued, few-locations}
use Rattle.drafting.proofs.DraftTable.{whole_is, start_is, value-is, passes}
use Rattle.drafting.proofs.DraftRounds.{rounds-same}
use Rattle.drafting.proofs.DraftAccepted.{after-size, after_limited, rounds_accept}

-- ---- the parts of a good draft

-- the words of what is found, with the values after the rounds
abbrev pub Wrote : Model → ℕ → List ℕ → Progress (List (List FoundRow)) → Type 0
Wrote M rounds words t =
    (vs : List ℕ) × Rounds M t.found t.result (min rounds 1000) (replicate (length t.found) whole) vs
    × (words ≡ words_of t.found vs t.result)

pub record GoodDraft (model : List ℕ) (rounds : ℕ) (words : List ℕ) : Type 0 where
  pub reads : ReadModel model (accepted (counts_of model))
  pub progress : Progress (List (List FoundRow))
  pub explores : exploring (model_of model) [] (accepted progress)
  pub wrote : Wrote (model_of model) rounds words progress

pub good-draft : {model : List ℕ} {rounds room : ℕ} {words : List ℕ} → Drafts model rounds room (accepted words) → GoodDraft model rounds words
good-draft {model} {rounds} {room} {words} d =
    let M : Model = model_of model in
    let first = then-parts (ReadModel model) (λ counts. on_from (exploring M []) (Ends M rounds room)) words d.says in
    let next = then-parts (exploring M []) (Ends M rounds room) words first.2 in
    let t : Progress (List (List FoundRow)) = next.0 in
    let vs : List ℕ = next.2.0 in
    let last = first_holds (test 60 0 (leb (length (words_of t.found vs t.result)) room) ∷ []) (λ ws. ws ≡ words_of t.found vs t.result)
    words next.2.2 in
    record {
      reads = subst (λ (c : Counts). ReadModel model (accepted c))
          (first_holds (model_checks model) (λ counts. counts ≡ counts_of model) first.0 first.1.says).1 first.1;
      progress = t;
      explores = next.1;
      wrote = (vs, next.2.1, last.1);
    }

-- ---- from what exploring finds
module _ (model : List ℕ) (reads : ReadModel model (accepted (counts_of model))) (t : Progress (List (List FoundRow)))
    (explores : exploring (model_of model) [] (accepted t)) where
  abbrev M : Model
  M = model_of model

  abbrev Fs : List Found
  Fs = t.found

  abbrev rows : List (List FoundRow)
  rows = t.result

  formed : WellFormed M
  formed = accepted-formed model (counts_of model) reads

  locations : length M.locations ≤ 16
  locations = few-locations model (counts_of model) reads

  found : AllFound M Fs rows
  found = exploring-found M formed t explores

  known : (qs : List Valued) × ValuedAll M Fs rows qs
  known = all-valued model (counts_of model) reads Fs rows found

  abbrev qs : List Valued
  qs = known.0

  abbrev values : ℕ → List ℕ
  values n = values_after M.denominator qs n

  abbrev words_after : ℕ → List ℕ
  words_after n = words_of Fs (values n) rows

  -- the words of every good draft are these
  values-are : (n : ℕ) (vs : List ℕ) → Rounds M Fs rows n (replicate (length Fs) whole) vs → vs ≡ values n
  unfolding values_after
  values-are n vs h =
      rounds-same M formed locations Fs rows found qs known.1 n (replicate (length Fs) whole) vs (length-replicate (length Fs) whole)
      (all_limited (length Fs)) h
      ∙ ap (λ (m : ℕ). rounds M.denominator qs n (replicate m whole)) (sym (valued-length known.1))

  words_are : {n room : ℕ} {words : List ℕ} → Drafts model n room (accepted words) → words ≡ words_after (min n 1000)
  words_are {n} {room} {words} d =
      let g = good-draft d in
      let same : g.progress ≡ t = cc (exploring-one M [] (accepted g.progress) (accepted t) g.explores explores) in
      let wrote : Wrote M n words t = subst (Wrote M n words) same g.wrote in
      wrote.2 ∙ ap (λ (vs : List ℕ). words_of Fs vs rows) (values-are (min n 1000) wrote.0 wrote.1)

  module _ (n : ℕ) where
    abbrev W : Table
    W = table_of M (words_after n)

    size : length (values n) ≡ length Fs
    size = after-size M formed locations Fs rows found qs known.1 n

    judged-after : Judged model (words_after n) (accepted (certificate_of W))
    judged-after = certified-judged model (words_after n) (certificate_of W) (record {
      model_reads = reads;
      table_reads =
          first-all (read_checks M (words_after n)) (λ (_ : Unit {0}). Unit {0}) tt
          (passes M formed locations Fs rows found (values n) size (after_limited M formed locations Fs rows found qs known.1 n)) tt;
      accepts = rounds_accept M formed locations Fs rows found qs known.1 n;
      values = refl;
    })

    -- b is the value of the first node, and V the draft's
    b-after : (certificate_of W).b ≡ get_or (values n) 0 0
    unfolding certificate_of certified
    b-after =
        let limited = after_limited M formed locations Fs rows found qs known.1 n in
        ap (λ (m : ℕ). (node_at W m).value) (start_is M formed locations Fs rows found (values n) size limited)
        ∙ value-is M formed locations Fs rows found (values n) size limited 0

    whole-after : (certificate_of W).whole ≡ whole
    unfolding certificate_of
    whole-after = whole_is M formed locations Fs rows found (values n) size (after_limited M formed locations Fs rows found qs known.1 n)

    certified-after : CertifiedDraft model (words_after n)
    certified-after = record {
      certificate = certificate_of W;
      judged = judged-after;
      is_whole = whole-after;
      bounds = promised model (words_after n) (accepted (certificate_of W)) judged-after;
    }

  -- what the judge certifies for the words of a good draft
  certificate-is : {n room : ℕ} {words : List ℕ} → Drafts model n room (accepted words) → {c : Certificate} → Judged model words (accepted c) →
      c ≡ certificate_of (W (min n 1000))
  certificate-is {n} d {c} j =
      let k : ℕ = min n 1000 in
      cc (judged-only model (words_after k) (accepted c) (accepted (certificate_of (W k)))
      (subst (λ (ws : List ℕ). Judged model ws (accepted c)) (words_are d) j) (judged-after k))

  b-is : {n room : ℕ} {words : List ℕ} → Drafts model n room (accepted words) → {c : Certificate} → Judged model words (accepted c) →
      c.b ≡ get_or (values (min n 1000)) 0 0
  b-is {n} d j = ap (λ (c : Certificate). c.b) (certificate-is d j) ∙ b-after (min n 1000)

  V-is : {n room : ℕ} {words : List ℕ} → Drafts model n room (accepted words) → {c : Certificate} → Judged model words (accepted c) →
      c.whole ≡ whole
  V-is {n} d j = ap (λ (c : Certificate). c.whole) (certificate-is d j) ∙ whole-after (min n 1000)

  b-less : (r s : ℕ) → r ≤ s → get_or (values s) 0 0 ≤ get_or (values r) 0 0
  b-less r s l = (rounds-below M.denominator qs (weighed formed known.1) r s l).at 0

  b-first : get_or (values 0) 0 0 ≡ whole
  unfolding values_after rounds
  b-first = get_or-replicate (length qs) 0 whole 0 (rw (valued-length known.1) found.start.there)

-- ---- every table written is accepted
pub judged : {model : List ℕ} {rounds room : ℕ} {words : List ℕ} → Drafts model rounds room (accepted words) → CertifiedDraft model words
judged {model} {rounds} d =
    let g = good-draft d in
    subst (CertifiedDraft model) (sym (words_are model g.reads g.progress g.explores d))
    (certified-after model g.reads g.progress g.explores (min rounds 1000))

-- ---- more rounds never give a larger fraction: b/V of the more is at most b/V of the fewer
pub more-rounds : {model ws us : List ℕ} {r s room space : ℕ} → r ≤ s → Drafts model r room (accepted ws) → Drafts model s space (accepted us) →
    {c d : Certificate} → Judged model ws (accepted c) → Judged model us (accepted d) → d.b * c.whole ≤ c.b * d.whole
more-rounds {model} {r = r} {s = s} l few many {c} {d} jc jd =
    let g = good-draft few in
    let before = b-is model g.reads g.progress g.explores few jc in
    let behind = b-is model g.reads g.progress g.explores many jd in
    let less : min r 1000 ≤ min s 1000 = omega arith in
    let b : d.b ≤ c.b = rw (before, behind) (b-less model g.reads g.progress g.explores (min r 1000) (min s 1000) less) in
    let Vc = V-is model g.reads g.progress g.explores few jc in
    let Vd = V-is model g.reads g.progress g.explores many jd in
    rw (Vc, Vd) (mul-le-mul_right whole b)

-- without rounds the fraction is 1
pub zero-rounds : {model words : List ℕ} {room : ℕ} → Drafts model 0 room (accepted words) → {c : Certificate} → Judged model words (accepted c) →
    c.b ≡ c.whole
zero-rounds {model} d j =
    let g = good-draft d in
    b-is model g.reads g.progress g.explores d j ∙ b-first model g.reads g.progress g.explores
    ∙ sym (V-is model g.reads g.progress g.explores d j)

-- ---- the call

-- the table written stands at the front of the lent words
pub written : {model lent after : List ℕ} {rounds n : ℕ} → Drafted model rounds lent (accepted n) after →
    Drafts model rounds (length lent) (accepted (take n after))
unfolding length_of lent_after
written {model} {lent} {after} {rounds} {n} h = by h.draft h.drafts h.answers h.writes
  where
    by : (draft : Answer (List ℕ)) → Drafts model rounds (length lent) draft → accepted n ≡ length_of draft → after ≡ lent_after draft lent →
        Drafts model rounds (length lent) (accepted (take n after))
    by (refused number place) d e f = let z : ◌≡◌ {A = ℕ} 0 1 = cc e in absurd (omega arith)
    by (accepted words) d e f =
        let size : n ≡ length words = cc e in
        let front : take n after ≡ words = rw (size, f) (take-append_seam words (drop (length words) lent)) in
        rw front d

pub drafted-certifies : {model lent after : List ℕ} {rounds : ℕ} (answer : Answer ℕ) → Drafted model rounds lent answer after →
    CertifiesWritten model answer after
drafted-certifies (refused number place) h = tt
drafted-certifies (accepted n) h = judged (written h)
