-- Document 02, card 3, "a fraction that no table could give": the fractions b/V that tables give are those with V from 1 to 268,435,455 and b at
-- most V. Assumes nothing.
use Prim.Native.Nat.{ℕ, ◌+◌, ◌*◌, ◌≤◌}
use mathlib.Core.Path.{◌≡◌, refl}
use mathlib.Core.Bool.{false}
use mathlib.Core.List.{List, [], ◌∷◌}
use native.Mathlib.Omega.{arith}
use lib.Dec.{le→leb}
use Rattle.zone.specs.Scale.{in?, within}
use Rattle.zone.specs.Words.{bits, kind, zone_of}
use Rattle.answers.specs.Checks.{accepted}
use Rattle.answers.proofs.CheckLaws.{AllHold, all_join, first-all}
use Rattle.model.specs.Kinds.{among, kind_of}
use Rattle.model.specs.TableKinds.{table_kind_of}
use Rattle.model.specs.Before.{opener_from, count_of, index_of}
use Rattle.model.specs.Grammar.{follows, table_follows, numbered?, may_follow?, follows?, table_follows?}
use Rattle.model.specs.Model.{Model, parts_with, parts_of, model_of}
use Rattle.model.specs.States.{location_at, HasStart}
use Rattle.model.specs.Reading.{word_checks, words_checks, edge_checks, model_checks}
use Rattle.table.specs.Fields.{whole_of, value_of}
use Rattle.table.specs.Table.{rows_body, Table, node_at, rows_of, leading_bounds, row_actions, body_of, node_of, nodes_of, table_of}
use Rattle.table.specs.Reading as reading
use Rattle.table.specs.Reading.{last_location, edge_counts, all_due, due_with, due, rows_allow?, number_checks, read_checks}
use Rattle.acceptance.specs.Acceptance.{certified}
use Rattle.acceptance.specs.Judging.{rows_checks, body_checks, node_checks, nodes_checks, start_checks, table_checks, judge_checks}
use Rattle.acceptance.specs.Judging.{certificate_of, Judged, Certifies}
use Rattle.acceptance.specs.declared.certificate.Certificate.{Certificate}
use Rattle.acceptance.proofs.CountLaws.{certified-most}
use Rattle.acceptance.proofs.Exact.{certifies}

-- ---- what a table gives is such a fraction

-- V is the 28 bits of a word
whole-most : (M : Model) (table : List ℕ) → (table_of M table).whole ≤ 268435455
unfolding table_of
whole-most M table = omega arith

pub given-fits : (model table : List ℕ) (c : Certificate) → Judged model table (accepted c) →
    (1 ≤ c.whole) × ((c.whole ≤ 268435455) × (c.b ≤ c.whole))
unfolding certificate_of
given-fits model table c j =
    let g : Certifies model table c = certifies model table c j in
    let M : Model = model_of model in
    rw g.values (g.accepts.whole, (whole-most M table, certified-most M (table_of M table) g.accepts))

-- ---- each such fraction is given: by the table of one node for the model of one location without actions

abbrev pub alone_model : List ℕ
alone_model = 0x11100001 ∷ 0x20000000 ∷ 0x60000000 ∷ []

abbrev pub alone_table : ℕ → ℕ → List ℕ
alone_table b whole = (0x70000000 + whole) ∷ 0x80000000 ∷ (0x90000000 + b) ∷ 0xC0000000 ∷ []

-- a word of the kind k with n in its other bits
word_fields : (k n : ℕ) → k ≤ 15 → n ≤ 268435455 → (kind (k * 0x10000000 + n) ≡ k) × (bits 27 0 (k * 0x10000000 + n) ≡ n)
word_fields k n l m = (omega arith, omega arith)

-- the model and the table that these words hold
abbrev M : Model
M = record {
  clocks = 1;
  denominator = 1;
  locations = record { target = false; invariant = []; actions = [] } ∷ [];
  start = 0;
  start_bounds = [];
}

abbrev W : ℕ → ℕ → Table
W b whole = record {
  whole = whole;
  nodes = record { location = 0; zone = []; value = b; place = 2; body = rows_body [] } ∷ [];
  start = 0;
  place = 3;
}

model_is : model_of alone_model ≡ M
unfolding among kind_of parts_with parts_of model_of
model_is = refl

starts : HasStart M
unfolding location_at within in?
starts = record {
  scale = 1;
  positive = omega arith;
  state = record { location = 0; valuation = λ i. 0 };
  starts = record { location = refl; state = record { exists = omega arith; invariant = tt }; bounds = tt };
}

-- ---- the checks of the three parts

model-holds : AllHold (model_checks alone_model)
unfolding among kind_of opener_from count_of follows numbered? may_follow? follows? word_checks words_checks edge_checks model_checks
model-holds = rw model_is (tt, (tt, (tt, (tt, (tt, (tt, (tt, (tt, (tt, (tt, (tt, (tt, (tt, (tt, (tt, (tt, (starts, tt)))))))))))))))))

table-holds : (b whole : ℕ) → AllHold (table_checks M (W b whole))
unfolding location_at node_at within in? rows_checks body_checks node_checks nodes_checks start_checks table_checks
table-holds b whole = (refl, (record { at = λ k positive v start. tt }, tt))

-- the table's words, of which the head and the value are known by their fields
module _ (b whole head value : ℕ) (head-fields : (kind head ≡ 7) × (whole_of head ≡ whole))
    (value-fields : (kind value ≡ 9) × (value_of value ≡ b)) where
  abbrev words : List ℕ
  words = head ∷ 0x80000000 ∷ value ∷ 0xC0000000 ∷ []

  table_is : table_of M words ≡ W b whole
  unfolding zone_of index_of location_at rows_of leading_bounds row_actions body_of node_of nodes_of table_of
  table_is = rw (head-fields.0, head-fields.1, value-fields.0, value-fields.1)

  read-holds : 1 ≤ whole → b ≤ whole → AllHold (read_checks M words)
  unfolding
      among table_kind_of opener_from count_of table_follows numbered? may_follow? table_follows? location_at row_actions last_location edge_counts
      all_due due_with due rows_allow? reading.word_checks reading.words_checks number_checks read_checks
  read-holds some fits =
      let head-good = le→leb 1 whole some in
      let value-good = le→leb b whole fits in
      rw (head-fields.0, head-fields.1, value-fields.0, value-fields.1)
      (tt, (head-good, (tt, (tt, (tt, (tt, (tt, (value-good, (tt, (tt, (tt, (tt, (tt, (tt, (tt, (tt, (tt, tt)))))))))))))))))

  alone-judged : 1 ≤ whole → b ≤ whole → Judged alone_model words (accepted (record { b = b; whole = whole; nodes = 1 }))
  unfolding node_at certified judge_checks certificate_of
  alone-judged some fits = record {
    says =
        first-all (judge_checks alone_model words) _ _
        (all_join (model_checks alone_model) _ model-holds
        (rw model_is (all_join (read_checks M words) _ (read-holds some fits) (rw table_is (table-holds b whole)))))
        (rw (model_is, table_is));
  }

pub fits-given : (b whole : ℕ) → 1 ≤ whole → whole ≤ 268435455 → b ≤ whole →
    Judged alone_model (alone_table b whole) (accepted (record { b = b; whole = whole; nodes = 1 }))
fits-given b whole some most fits =
    alone-judged b whole _ _ (word_fields 7 whole (omega arith) most) (word_fields 9 b (omega arith) (omega arith)) some fits
