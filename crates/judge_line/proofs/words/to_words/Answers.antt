-- All of the fours have been turned.
use Rattle.std.proofs.Common.{◌≡◌, ◌/◌, ◌≤◌, length, take, map, sym, ap, ◌∙◌, arith}
use Rattle.std.specs.Int.{w32, from_be_bytes}
use lib.Seq.{take_all}
use Rattle.judge_line.proofs.WordLaws.{words_are}
use Rattle.judge_line.proofs.words.to_words.Goals as goal

pub returns : goal.returns
returns c =
    let k : c.loop-k.k ≡ length c.args.bytes.now / 4 = omega arith in
    let all : length c.as_chunks.result.0.now ≤ c.loop-k.k = omega arith in
    ap (λ n. take n c.loop-k.words) (sym k) ∙ c.loop-k.invariant ∙ ap (map (from_be_bytes w32)) (take_all _ _ all ∙ c.as_chunks.ensures.front) ∙ words_are c.args.bytes.now
