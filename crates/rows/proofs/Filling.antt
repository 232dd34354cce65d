-- A row whose bits below the domain are all written alike.
use Rattle.std.proofs.Common.{◌≡◌, ℕ, zero, suc, ◌+◌, ◌-◌, ◌*◌, ◌/◌, ◌%◌, ◌^◌, ◌<◌, ◌≤◌, Bool, true, false, not, ◌&&◌, ◌||◌, eqb, ltb, List, ◌++◌, length, get_or, take, drop, replicate, sym, refl, ap, ◌∙◌, ap₂, inl, inr, zero-add, rules, arith}
use lib.Count.{ones}
use Rattle.std.proofs.Math.Bool.{and-true}
use Rattle.std.proofs.lemmas.List.{places, length-replicate, get_or-replicate}
use Rattle.std.proofs.lemmas.Bool.{cases_eq, eq-eqb, ne_eqb, lt-ltb, le-ltb, and_right}
use Rattle.words.specs.Bits.{bit, holds, one, tally, words_for}
use Rattle.words.specs.Rows.{Rewritten, trimmed, enters}
use Rattle.words.proofs.Bitwise.{ones_tally}
use Rattle.words.proofs.Tallies.{tally_add, tally_same, tally_trim, tally_none}
use Rattle.words.proofs.RowBits.{holds_word}
use Rattle.rows.specs.Members.{gain, Becomes, Clean, IsRow}
use Rattle.rows.proofs.RowWords.{holds-take, front_long, front_in, front_out}
use Rattle.rows.proofs.Tabs.{enters_none, tally_cap}

-- of n indices each passes a test or does not
tally_not : (p : ℕ → Bool) (a n : ℕ) → tally (λ i. not (p i)) a n + tally p a n ≡ n
unfolding tally
tally_not p a zero = refl
tally_not p a (suc n) = omega (arith, one_not (p a), tally_not p (a + 1) n)
  where
    one_not : (b : Bool) → one (not b) + one b ≡ 1
    one_not true = refl
    one_not false = refl

enters_true : (b : Bool) → enters b true ≡ not b
enters_true true = refl
enters_true false = refl

module _ (n : ℕ) (own new : List ℕ) (on : Bool) (row : IsRow n own) (long : length new ≡ words_for n)
    (bits : (i : ℕ) → i < 64 * words_for n → holds new i ≡ (on && ltb i n)) (fit : (k : ℕ) → k < words_for n → get_or new k 0 < 2 ^ 64) where
  abbrev w : ℕ
  w = words_for n

  at : (i : ℕ) → i < 64 * w → holds (new ++ drop w own) i ≡ (on && ltb i n)
  unfolding holds
  at i h = ap (λ x. bit x (i % 64)) (front_in own new w row.enough long (i / 64) (omega arith)) ∙ bits i h

  below : (i : ℕ) → i < n → holds (new ++ drop w own) i ≡ on
  below i h = at i (omega arith) ∙ ap (λ x. on && x) (lt-ltb i n h) ∙ and-true on

  -- the row with its words in place of the first
  alike : (came went : ℕ) → came ≡ tally (λ i. enters (holds own i) on) 0 n → went ≡ tally (λ i. enters on (holds own i)) 0 n → Becomes (λ _. on) n own (new ++ drop w own) (came, went)
  unfolding gain
  alike came went ec ew = record {
    long = front_long own new w row.enough long;
    bits = below;
    clean = λ i l h. at i h ∙ ap (λ x. on && x) (le-ltb i n l) ∙ and_right on false refl;
    fit = λ k h. rw (front_in own new w row.enough long k h) (fit k h);
    spare = λ k h. front_out own new w row.enough long k h;
    came = ec ∙ tally_same (λ i. enters (holds own i) on) (λ i. enters (holds own i) (holds (new ++ drop w own) i)) 0 0 n (λ i h. rw zero-add (ap (enters (holds own i)) (sym (below i h))));
    went = ew ∙ tally_same (λ i. enters on (holds own i)) (λ i. enters (holds (new ++ drop w own) i) (holds own i)) 0 0 n (λ i h. rw zero-add (ap (λ x. enters x (holds own i)) (sym (below i h))));
  }

-- the words of the row are all `fill`, and the last is cut at the domain
module _ (n : ℕ) (own new : List ℕ) (on : Bool) (fill : ℕ) (row : IsRow n own) (bits : (k : ℕ) → k < 64 → bit fill k ≡ on) (small : fill < 2 ^ 64)
    (r : Rewritten (trimmed (n % 64) (replicate (words_for n) fill)) (replicate (words_for n) fill) new) where
  inside : (i : ℕ) → i < 64 * words_for n → holds new i ≡ (on && ltb i n)
  unfolding trimmed holds
  inside i h =
      let w = words_for n in
      let l : i / 64 < w = omega arith in
      r.bits i
      ∙ ap₂ (λ x y. x && (eqb (n % 64) 0 || ltb i (64 * (y - 1) + n % 64)))
      (ap (λ x. bit x (i % 64)) (get_or-replicate w (i / 64) fill 0 l) ∙ bits (i % 64) (omega arith)) (length-replicate w fill)
      ∙ elim (cases_eq (n % 64) 0) [
        | inl e ↦ ap (λ x. on && (x || ltb i (64 * (w - 1) + n % 64))) (eq-eqb (n % 64) 0 e) ∙ ap (λ x. on && x) (sym (lt-ltb i n (omega arith)))
        | inr ne ↦ (let s : 64 * (w - 1) + n % 64 ≡ n = omega arith in ap₂ (λ x y. on && (x || ltb i y)) (ne_eqb (n % 64) 0 ne) s)
      ]

  written : (came went : ℕ) → came ≡ tally (λ i. enters (holds own i) on) 0 n → went ≡ tally (λ i. enters on (holds own i)) 0 n → Becomes (λ _. on) n own (new ++ drop (words_for n) own) (came, went)
  written = alike n own new on row (r.long ∙ length-replicate (words_for n) fill) inside (λ k h. r.fit k (rw get_or-replicate small))

  pub filled : on ≡ true → Becomes (λ _. on) n own (new ++ drop (words_for n) own) (n - tally (holds own) 0 n, 0)
  filled e =
      written (n - tally (holds own) 0 n) 0
      (let s = tally_same (λ i. not (holds own i)) (λ i. enters (holds own i) on) 0 0 n (λ i h. sym (ap (enters (holds own (0 + i))) e ∙ enters_true (holds own (0 + i)))) in omega (arith, tally_not (holds own) 0 n, s))
      (sym (tally_none _ 0 n (λ i h. ap (λ x. enters x (holds own (0 + i))) e)))

  pub cleared : on ≡ false → Becomes (λ _. on) n own (new ++ drop (words_for n) own) (0, tally (holds own) 0 n)
  cleared e =
      written 0 (tally (holds own) 0 n)
      (sym (tally_none _ 0 n (λ i h. ap (enters (holds own (0 + i))) e ∙ enters_none (holds own (0 + i)))))
      (tally_same (holds own) (λ i. enters on (holds own i)) 0 0 n (λ i h. sym (ap (λ x. enters x (holds own (0 + i))) e)))

-- ---- counting the set bits, word by word

pub tally_word : (ws : List ℕ) (j : ℕ) → get_or ws j 0 < 2 ^ 64 → tally (holds ws) 0 (64 * (j + 1)) ≡ tally (holds ws) 0 (64 * j) + ones (get_or ws j 0)
tally_word ws j h =
    let e : 64 * (j + 1) ≡ 64 * j + 64 = omega arith in
    ap (tally (holds ws) 0) e ∙ tally_add (holds ws) 0 (64 * j) 64
    ∙ ap (λ x. tally (holds ws) 0 (64 * j) + x)
    (tally_same (holds ws) (bit (get_or ws j 0)) (0 + 64 * j) 0 64 (λ k l. rw (zero-add, zero-add) (holds_word ws j k l)) ∙ sym (ones_tally 64 (get_or ws j 0) h))

-- the set bits of the first words of a clean row lie below the domain
pub first_below : (n m : ℕ) (ws : List ℕ) → Clean n ws → m ≤ words_for n → tally (holds (take (words_for n) ws)) 0 (64 * m) ≤ n
first_below n m ws clean h = tally_cap (holds (take (words_for n) ws)) n (64 * m) (λ i l k. holds-take (words_for n) i ws (omega arith) ∙ clean i l (omega arith))

pub all_below : (n : ℕ) (ws : List ℕ) → Clean n ws → tally (holds (take (words_for n) ws)) 0 (64 * words_for n) ≡ tally (holds ws) 0 n
all_below n ws clean =
    tally_same (holds (take (words_for n) ws)) (holds ws) 0 0 (64 * words_for n) (λ i h. rw zero-add (holds-take (words_for n) i ws h)) ∙ tally_trim (holds ws) n (64 * words_for n) (omega arith) clean

-- one word more is counted, of a row whose words before it are written
module _ (n i x fill : ℕ) (own row : List ℕ) (written : row ≡ replicate i fill ++ drop i (take (words_for n) own)) (counted : x ≡ tally (holds (take (words_for n) own)) 0 (64 * i))
    (small : get_or row i 0 < 2 ^ 64) where
  next_word : get_or row i 0 ≡ get_or (take (words_for n) own) i 0
  next_word = ap (λ ws. get_or ws i 0) written ∙ search (rules, places)

  pub next_count : x + ones (get_or row i 0) ≡ tally (holds (take (words_for n) own)) 0 (64 * (i + 1))
  next_count =
      let s : get_or (take (words_for n) own) i 0 < 2 ^ 64 = rw (sym next_word) small in
      ap₂ (λ a b. a + ones b) counted next_word ∙ sym (tally_word (take (words_for n) own) i s)

  pub next_below : Clean n own → i < words_for n → x + ones (get_or row i 0) ≤ n
  next_below clean h = omega (arith, next_count, first_below n (i + 1) own clean (omega arith))
