-- The cases of document 01 marked *, as one statement about the definitions, and cases of cuts (document 02, card 1) and of landings outside (card 4)
-- as two others: computed by the algorithms, whose answers are proved. Assumes nothing.
use Prim.Native.Nat.{ℕ}
use mathlib.Core.Path.{◌≡◌, refl, subst}
use mathlib.Core.Bool.{true, false}
use mathlib.Core.List.{List, [], ◌∷◌, ◌++◌}
use lib.ListN.{set, take, drop}
use Rattle.zone.specs.Moves.{masked?}
use Rattle.zone.specs.Words.{bound_of, bound_fields?}
use Rattle.answers.specs.Checks.{Answer, refused, accepted}
use Rattle.answers.specs.Refusals.{number, answer_of}
use Rattle.zone.specs.Questions.{AskedEmpty, AskedInside}
use Rattle.zone.specs.Cells.{tighter?, tighter_of, sum, negated, negative?}
use Rattle.zone.specs.Squares.{list_of, with_bound, passed_below, source, all?, empty?, inside?}
use Rattle.zone.specs.Reading.{with_word}
use Rattle.zone.specs.Parts.{holding_square, rest_square}
use Rattle.zone.proofs.Cases.{zone-cases}
use Rattle.model.specs.Kinds.{among, kind_of}
use Rattle.model.specs.TableKinds.{table_kind_of}
use Rattle.model.specs.Grammar.{follows, table_follows, numbered?, may_follow?, follows?, table_follows?}
use Rattle.model.specs.Scan.{checked, checked_end, seen_with_kind, seen_with}
use Rattle.model.proofs.Answering.{read_behind}
use Rattle.model.specs.Index.{kept_with_kind, kept_with, closed, scanned, missing_of, start_square, whole_read}
use Rattle.table.specs.Scan as scan
use Rattle.table.specs.Index as index
use Rattle.pass.specs.Steps as pass
use Rattle.acceptance.specs.Judging.{Judged}
use Rattle.judge.specs.Reaching.{common, waited_square}
use Rattle.judge.specs.Landing.{landings_share, successor_share}
use Rattle.judge.specs.Steps.{and_then}
use Rattle.judge.specs.Cutting.{part_checked, cut_checked}
use Rattle.judge.specs.Walk.{successors_from, rows_from, rows_checked, node_checked, nodes_from}
use Rattle.judge.specs.Deciding.{start_verdict}
use Rattle.acceptance.specs.declared.certificate.Certificate.{Certificate}
use Rattle.acceptance.proofs.CountLaws.{timeline, closing}
use Rattle.judge.proofs.Computing.{judged, computed, computes}

-- T; M is `timeline`
abbrev table : List ℕ
table =
    0x7000000A ∷ 0x80000000 ∷ 0x51001000 ∷ 0x90000001 ∷ 0xB0000001 ∷ 0xB0000002 ∷ 0x81000000 ∷ 0x90000000 ∷ 0x82000000 ∷ 0x9000000A ∷ 0xC0000000 ∷
    []

-- T's two B words replaced by one A word
abbrev blocked_table : List ℕ
blocked_table = take 4 table ++ (0xA0000000 ∷ drop 6 table)

-- M with the clock above 3 for its guard
abbrev above : List ℕ
above = set timeline 4 0x50180FFD

-- a bound put after T's word 6
abbrev bounded_table : ℕ → List ℕ
bounded_table w = take 7 table ++ (w ∷ drop 7 table)

-- `ACCEPTED 1 10 3`
abbrev accepts : Answer Certificate
accepts = accepted (record { b = 1; whole = 10; nodes = 3 })

-- T with its start node cut where the clock is at most 1: node 1 has that part and node 2 every valuation, both the rows that node 0 had
abbrev cut_table : List ℕ
cut_table =
    0x7000000A ∷ 0x80000000 ∷ 0x90000001 ∷ 0xD1001001 ∷ 0xB0000001 ∷ 0xB0000002 ∷ 0x80000000 ∷ 0x51001001 ∷ 0x90000001 ∷ 0xB0000003 ∷
    0xB0000004 ∷ 0x80000000 ∷ 0x90000001 ∷ 0xB0000003 ∷ 0xB0000004 ∷ 0x81000000 ∷ 0x90000000 ∷ 0x82000000 ∷ 0x9000000A ∷ 0xC0000000 ∷ []

-- `ACCEPTED 1 10 5`
abbrev accepts_cut : Answer Certificate
accepts_cut = accepted (record { b = 1; whole = 10; nodes = 5 })

-- `ACCEPTED 10 10 3`
abbrev accepts_whole : Answer Certificate
accepts_whole = accepted (record { b = 10; whole = 10; nodes = 3 })

answers :
    (answer_of (computed timeline table) ≡ accepts) ×
    (answer_of (computed timeline (set table 3 0x90000000)) ≡ refused 19 4) ×
    (answer_of (computed timeline (set table 9 0x90000009)) ≡ refused 15 9) ×
    (answer_of (computed timeline blocked_table) ≡ refused 16 4) ×
    (answer_of (computed above blocked_table) ≡ accepts) ×
    (answer_of (computed (set timeline 6 0x40020002) table) ≡ refused 4 7) ×
    (answer_of (computed timeline (bounded_table 0x51001002)) ≡ refused 18 4) ×
    (answer_of (computed timeline (bounded_table 0x51001003)) ≡ accepts) ×
    (answer_of (computed timeline cut_table) ≡ accepts_cut) ×
    (answer_of (computed timeline (set cut_table 5 0xB0000000)) ≡ refused 51 5) ×
    (answer_of (computed timeline (set cut_table 8 0x90000002)) ≡ refused 52 4) ×
    (answer_of (computed timeline (set (set cut_table 4 0xB0000002) 5 0xB0000001)) ≡ refused 53 5) ×
    (answer_of (computed timeline (set cut_table 7 0x51081001)) ≡ refused 53 4) ×
    (answer_of (computed timeline (set cut_table 3 0xD0101001)) ≡ refused 12 3) ×
    (answer_of (computed timeline (set cut_table 5 0xA0000000)) ≡ refused 11 5) ×
    (answer_of (computed closing table) ≡ refused 19 4) ×
    (answer_of (computed closing (set table 3 0x9000000A)) ≡ accepts_whole) ×
    (answer_of (computed closing (set (bounded_table 0x51001002) 3 0x9000000A)) ≡ accepts_whole) ×
    (answer_of (computed closing (set (bounded_table 0x51081002) 3 0x9000000A)) ≡ refused 18 4) ×
    (answer_of (computed (set closing 8 0x51001001) blocked_table) ≡ refused 16 4)
unfolding
    masked? bound_of bound_fields? tighter? tighter_of sum negative? list_of with_bound passed_below source all? empty? inside?
    among kind_of table_kind_of follows table_follows numbered? may_follow? follows? table_follows?
    checked checked_end seen_with_kind seen_with kept_with_kind kept_with closed scanned missing_of start_square
    whole_read read_behind scan.checked
    scan.checked_end scan.first_row scan.end_row scan.rows_at scan.edges_at scan.row_size scan.size_at scan.seen_with_kind scan.seen_with
    index.kept_with_kind index.kept_with index.scanned index.unless_missing index.and_numbers index.read_of pass.unless_refused pass.pass_end
    pass.pass_from common waited_square landings_share successor_share and_then successors_from rows_from rows_checked negated with_word
    holding_square rest_square part_checked cut_checked node_checked nodes_from start_verdict answer_of number judged computed
answers = (
  refl,
  refl,
  refl,
  refl,
  refl,
  refl,
  refl,
  refl,
  refl,
  refl,
  refl,
  refl,
  refl,
  refl,
  refl,
  refl,
  refl,
  refl,
  refl,
  refl,
)

-- what is computed is the answer
answered : (words list : List ℕ) (a : Answer Certificate) → answer_of (computed words list) ≡ a → Judged words list a
answered words list a e = subst (Judged words list) e (computes words list)

-- C = 2: clock 1 at most 3, clock 2 - clock 1 at most 2, lies inside clock 2 at most 5; not inside at most 4. Clock above 2 and below 3: not empty
pub cases :
    Judged timeline table accepts ×
    Judged timeline (set table 3 0x90000000) (refused 19 4) ×
    Judged timeline (set table 9 0x90000009) (refused 15 9) ×
    Judged timeline blocked_table (refused 16 4) ×
    Judged above blocked_table accepts ×
    Judged (set timeline 6 0x40020002) table (refused 4 7) ×
    Judged timeline (bounded_table 0x51001002) (refused 18 4) ×
    Judged timeline (bounded_table 0x51001003) accepts ×
    AskedInside 2 (0x51001003 ∷ 0x52101002 ∷ []) (0x52001005 ∷ []) (accepted true) ×
    AskedInside 2 (0x51001003 ∷ 0x52101002 ∷ []) (0x52001004 ∷ []) (accepted false) ×
    AskedEmpty 1 (0x50180FFE ∷ 0x51081003 ∷ []) (accepted false)
cases = (
  answered _ _ _ answers.0,
  answered _ _ _ answers.1,
  answered _ _ _ answers.2,
  answered _ _ _ answers.3,
  answered _ _ _ answers.4,
  answered _ _ _ answers.5,
  answered _ _ _ answers.6,
  answered _ _ _ answers.7,
  zone-cases.0,
  zone-cases.1,
  zone-cases.2,
)

-- own number; larger value; parts exchanged; a part that reaches the bound, outside by strictness alone; j not 0; A behind D
pub cut-cases :
    Judged timeline cut_table accepts_cut ×
    Judged timeline (set cut_table 5 0xB0000000) (refused 51 5) ×
    Judged timeline (set cut_table 8 0x90000002) (refused 52 4) ×
    Judged timeline (set (set cut_table 4 0xB0000002) 5 0xB0000001) (refused 53 5) ×
    Judged timeline (set cut_table 7 0x51081001) (refused 53 4) ×
    Judged timeline (set cut_table 3 0xD0101001) (refused 12 3) ×
    Judged timeline (set cut_table 5 0xA0000000) (refused 11 5)
cut-cases = (
  answered _ _ _ answers.8,
  answered _ _ _ answers.9,
  answered _ _ _ answers.10,
  answered _ _ _ answers.11,
  answered _ _ _ answers.12,
  answered _ _ _ answers.13,
  answered _ _ _ answers.14,
)

-- M with the invariant "clock at most 2" at location 1, where the action may be taken until three: the edge of weight 9 can land outside. T, accepted
-- before with 1/10, is refused; the value 10 is accepted, also where node 1 has that bound and so holds the landings inside alone, but not where its
-- bound is strict. With "clock at most 1" at location 1 every landing is outside, and the row, blocked before, no longer is
pub outside-cases :
    Judged closing table (refused 19 4) ×
    Judged closing (set table 3 0x9000000A) accepts_whole ×
    Judged closing (set (bounded_table 0x51001002) 3 0x9000000A) accepts_whole ×
    Judged closing (set (bounded_table 0x51081002) 3 0x9000000A) (refused 18 4) ×
    Judged (set closing 8 0x51001001) blocked_table (refused 16 4)
outside-cases = (
  answered _ _ _ answers.15,
  answered _ _ _ answers.16,
  answered _ _ _ answers.17,
  answered _ _ _ answers.18,
  answered _ _ _ answers.19,
)
