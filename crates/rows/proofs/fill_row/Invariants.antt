use Rattle.std.proofs.Common.{◌≡◌, ◌*◌, ◌++◌, drop, replicate}
use Rattle.words.specs.Bits.{holds, tally}
use Rattle.rows.proofs.fill_row.Given as goal

-- the first words are written, and the bits that they had are counted
abbrev pub invariant-loop-word : goal.invariant-loop-word
invariant-loop-word l = record {
  written : l.row ≡ replicate l.word-index l.fill ++ drop l.word-index l.initial.row;
  counted : l.members ≡ tally (holds l.initial.row) 0 (64 * l.word-index);
}
