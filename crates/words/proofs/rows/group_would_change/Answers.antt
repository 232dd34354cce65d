-- A word that would change leaves a bit in `changed`, and only such a word does.
use Rattle.std.proofs.Common.{not, get_or, sym, refl, ap, ◌∙◌, inl, inr, arith}
use Rattle.std.proofs.lemmas.Bool.{cases_Bool, cases_eq, eq-eqb, ne_eqb}
use Rattle.words.specs.Rows.{modifies}
use Rattle.words.proofs.Updating.{alike_more, alike_less, alike_unchanged, unchanged_alike}
use Rattle.words.proofs.rows.group_would_change.Goals as goal

pub loop-k-preserved : goal.loop-k-preserved
loop-k-preserved g c =
    let t = g.O.Operator.table c.args.op.now in
    let us = c.args.lhs.now in
    let vs = c.args.rhs.now in
    let k = c.loop-k.k in
    let old = get_or us k 0 in
    let operand = get_or vs k 0 in (
      alike_more t us vs 0 k c.loop-k.changed old operand c.apply.result refl refl (omega arith) (omega arith) c.apply.ensures.bits (omega arith) c.loop-k.invariant.0,
      alike_less t us vs 0 k c.loop-k.changed old operand c.apply.result refl refl (omega arith) (omega arith) c.apply.ensures.bits (omega arith) c.loop-k.invariant.1,
    )

pub returns : goal.returns
returns g c =
    let t = g.O.Operator.table c.args.op.now in
    let us = c.args.lhs.now in
    let vs = c.args.rhs.now in
    elim (cases_eq c.loop-k.changed 0) [
      | inl e ↦ ap not (eq-eqb c.loop-k.changed 0 e) ∙ sym (alike_unchanged t us vs (λ i l h. c.loop-k.invariant.0 e i l (omega arith)))
      | inr ne ↦ ap not (ne_eqb c.loop-k.changed 0 ne) ∙ elim (cases_Bool (modifies t us vs)) [
        | inl e ↦ sym e
        | inr e ↦ absurd (ne (c.loop-k.invariant.1 (λ i l h. unchanged_alike t us vs e i l (omega arith))))
      ]
    ]
