-- That a dense set keeps the laws of a mask. Nothing here is cited by a contract.
use Rattle.std.proofs.Common.{◌≡◌, ℕ, ◌≤◌, Bool, true, false, length, replicate, vec_items, sym, refl, ◌∙◌, arith}
use Rattle.std.specs.Vec.{with_items}
use Rattle.std.proofs.lemmas.List.{length-replicate, get_or-replicate}
use Rattle.std.proofs.lemmas.Bool.{lt-ltb, le-ltb}
use Rattle.words.specs.Bits.{holds, words_for}
use Rattle.rows.specs.Members.{Clean}
use Rattle.rows.proofs.Tabs.{tab_is, length-tab}
use Rattle.rows.proofs.RowWords.{run_row, run_fit, holds_run, row_seen, row_shown}
use Rattle.mask.specs.Kinds.{Lawful}
use Rattle.dense.specs.Sets.{dense_kind}
use Rattle.dense.specs.declared.bit_set.DenseBitSet.{DenseBitSet}

pub within : (s : DenseBitSet) → words_for s.domain_size ≤ length (vec_items s.words)
within s = omega (arith, s.enough, s.words.ok.0)

-- past the domain no bit of such a row is set
first_clean : (s : DenseBitSet) (m : ℕ) → m ≤ s.domain_size → Clean s.domain_size (with_items s.words (run_row m (words_for s.domain_size))).items
first_clean s m h i l k = holds_run s.domain_size s.words.len m s.words.items s.enough i k ∙ le-ltb i m (omega arith)

-- the mask with the first m bits set
abbrev first : (s : DenseBitSet) (m : ℕ) → m ≤ s.domain_size → DenseBitSet
first s m h =
    record {
      domain_size = s.domain_size;
      small = s.small;
      words = with_items s.words (run_row m (words_for s.domain_size));
      enough = s.enough;
      fit = run_fit s.domain_size s.words.len m s.words.items s.enough;
      clean = first_clean s m h;
    }

-- of each set's domain there are an empty and a full one
pub spanned : (s : DenseBitSet) (b : Bool) → (e : DenseBitSet) × (dense_kind.domain e ≡ dense_kind.domain s) × (dense_kind.rule e ≡ dense_kind.rule s) × (dense_kind.members e ≡ replicate (dense_kind.domain s) b)
spanned s true = (
  first s s.domain_size (omega arith),
  refl,
  refl,
  sym (tab_is (holds (vec_items (first s s.domain_size (omega arith)).words)) (replicate s.domain_size true) s.domain_size (length-replicate s.domain_size true) (λ i l.
      get_or-replicate s.domain_size i true false l ∙ sym (holds_run s.domain_size s.words.len s.domain_size s.words.items s.enough i (omega arith) ∙ lt-ltb i s.domain_size l))),
)
spanned s false = (
  first s 0 (omega arith),
  refl,
  refl,
  sym (tab_is (holds (vec_items (first s 0 (omega arith)).words)) (replicate s.domain_size false) s.domain_size (length-replicate s.domain_size false) (λ i l.
      get_or-replicate s.domain_size i false false l ∙ sym (holds_run s.domain_size s.words.len 0 s.words.items s.enough i (omega arith) ∙ le-ltb i 0 (omega arith)))),
)

pub lawful : Lawful dense_kind
lawful =
    record {
      long = λ s. length-tab (holds (vec_items s.words)) s.domain_size;
      held = λ s. refl;
      empty = λ s. refl;
      full = λ s. refl;
      seen = λ a b e. row_seen a.domain_size b.domain_size (vec_items a.words) (vec_items b.words) e;
      shown = λ a b p e. row_shown a.domain_size b.domain_size (vec_items a.words) (vec_items b.words) (within a) (within b) a.fit b.fit a.clean b.clean p e;
      spans = spanned;
    }
