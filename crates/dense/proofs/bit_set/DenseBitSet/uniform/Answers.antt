-- The words are cleared, which makes an empty set of them, and then filled where that is asked.
use Rattle.std.proofs.Common.{◌≡◌, ◌++◌, drop, replicate, vec_items, vec_len, refl, sym, ap, ◌∙◌, rules, arith}
use Rattle.std.proofs.lemmas.Bool.{le-leb}
use Rattle.words.specs.Bits.{words_for}
use Rattle.rows.proofs.Lent.{lent_becomes, becomes_behind, blank_behind}
use Rattle.rows.proofs.Loops.{becomes_members}
use Rattle.rows.proofs.RowWords.{blank_fit, blank_clean, blank_members}
use Rattle.rows.proofs.Tabs.{tab_const}
use Rattle.dense.proofs.bit_set.DenseBitSet.uniform.Goals as goal

pub invariant_of-result : goal.invariant_of-result
invariant_of-result c =
    let n = c.args.domain_size in
    let cleared = c.clear_words.ensures.items ∙ ap (λ w. replicate w 0 ++ drop w (vec_items c.args.memory)) c.num_words-n.ensures in
    record {
      small = search rules;
      enough = omega (arith, c.clear_words.ensures.len, c.len.ensures, c.if-len-n.false, c.num_words-n.ensures);
      fit = blank_fit n _ _ cleared;
      clean = blank_clean n _ _ cleared;
    }

pub returns-then-not-full : goal.returns-then-not-full
returns-then-not-full c =
    let n = c.args.domain_size in
    let cleared = c.clear_words.ensures.items ∙ ap (λ w. replicate w 0 ++ drop w (vec_items c.args.memory)) c.num_words-n.ensures in
    record {
      enough = le-leb (words_for n) (vec_len c.args.memory) (omega (arith, c.len.ensures, c.if-len-n.false, c.num_words-n.ensures));
      domain = refl;
      members = blank_members n _ _ cleared ∙ ap (λ b. replicate n b) (sym c.if-not-full.true);
      rule = refl;
      spare = blank_behind (words_for n) (vec_items c.clear_words.new.words) (vec_items c.args.memory) cleared;
    }

pub fill_row-requires : goal.fill_row-requires
fill_row-requires c =
    let e : c.deref_mut.result.now ≡ replicate (words_for c.args.domain_size) 0 ++ drop (words_for c.args.domain_size) (vec_items c.args.memory) =
    c.deref_mut.ensures.value ∙ c.clear_words.ensures.items ∙ ap (λ w. replicate w 0 ++ drop w (vec_items c.args.memory)) c.num_words-n.ensures in
    record { enough = omega (arith, c.deref_mut.ensures.len, c.clear_words.ensures.len, c.len.ensures, c.num_words-n.ensures); clean = blank_clean c.args.domain_size _ _ e }

pub returns : goal.returns
returns c =
    let n = c.args.domain_size in
    let b = lent_becomes c.clear_words.new.words c.deref_mut.result.now c.fill_row.new.own c.deref_mut.ensures.value _ (λ _. c.args.full) _ _ (λ i h. refl) c.fill_row.ensures in
    let cleared = c.clear_words.ensures.items ∙ ap (λ w. replicate w 0 ++ drop w (vec_items c.args.memory)) c.num_words-n.ensures in
    record {
      enough = le-leb (words_for n) (vec_len c.args.memory) (omega (arith, c.len.ensures, c.num_words-n.ensures));
      domain = refl;
      members = becomes_members _ _ _ _ _ b ∙ tab_const c.args.full n;
      rule = refl;
      spare = becomes_behind _ n _ _ _ b ∙ blank_behind (words_for n) (vec_items c.clear_words.new.words) (vec_items c.args.memory) cleared;
    }
