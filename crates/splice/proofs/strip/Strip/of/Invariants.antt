use Rattle.std.proofs.Common.{◌≡◌, ℕ, ◌<◌, ◌≤◌, None, Some, length, slice_index_or}
use Rattle.splice.specs.Strips.{column_mark}
use Rattle.splice.proofs.strip.Strip.of.Given as goal

-- the columns so far show what they should, and those behind them nothing
abbrev pub invariant-loop-column : goal.invariant-loop-column
invariant-loop-column l = record {
  wide : length l.marks ≡ 64;
  marks : (j : ℕ) → j < l.column → slice_index_or l.marks j None ≡ Some (column_mark l.columns.samples l.words j);
  long : (j : ℕ) → l.column ≤ j → slice_index_or l.marks j None ≡ None;
}
