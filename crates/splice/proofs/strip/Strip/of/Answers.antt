-- One column more shows what it should, and the marks of the others stay.
use Rattle.std.proofs.Common.{ℕ, ◌<◌, ◌≢◌, ◌∙◌, Option, Some, None, length, replicate, ap, inl, inr, below_more, arith}
use Rattle.std.proofs.lemmas.Bool.{cases_lt}
use Rattle.std.proofs.lemmas.List.{length-set, get_or-set_same, get_or-set_other, get_or-replicate, get_or_past, length-replicate}
use Rattle.splice.specs.declared.strip.Mark.{Mark}
use Rattle.splice.proofs.Columns.{tiled}
use Rattle.splice.proofs.strip.Strip.of.Goals as goal

pub loop-column-init : goal.loop-column-init
loop-column-init c = record {
  wide = length-replicate {A = Option Mark} 64 None;
  marks = λ j h. absurd (omega arith);
  long = λ j h. elim (cases_lt j 64) [
    | inl l ↦ get_or-replicate 64 j None None l
    | inr l ↦ get_or_past (replicate 64 None) j None (omega (arith, length-replicate {A = Option Mark} 64 None))
  ];
}

pub loop-column-preserved : goal.loop-column-preserved
loop-column-preserved c = record {
  wide = length-set _ _ _ ∙ c.loop-column.invariant.wide;
  marks = below_more _ _
      (λ j h. let ne : j ≢ c.loop-column.column = omega arith in rw get_or-set_other (c.loop-column.invariant.marks j h))
      (let lt : c.loop-column.column < length c.loop-column.marks = omega (arith, c.loop-column.invariant.wide) in rw get_or-set_same (ap Some c.mark.ensures));
  long = λ j h. let ne : j ≢ c.loop-column.column = omega arith in rw get_or-set_other (c.loop-column.invariant.long j (omega arith));
}

pub returns-clause-tiled : goal.returns-clause-tiled
returns-clause-tiled c = tiled c.args.episode.now.samples
