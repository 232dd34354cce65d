-- What operators do to single bits, in the words of their tables.
use Rattle.std.proofs.Common.{◌≡◌, ℕ, ◌-◌, ◌^◌, ◌<◌, Bool, true, false, not, ◌&&◌, ◌||◌, refl, ap, ◌∙◌}
use lib.Bits.{bit_and, bit_or}
use Rattle.std.proofs.Math.Bool.{or-false}
use Rattle.words.specs.Bits.{bit}
use Rattle.words.specs.declared.table.Table.{Table}
use Rattle.words.specs.Tables.{look, and_table, or_table, complemented}
use Rattle.words.proofs.Bitwise.{bit-bit_and, bit-bit_or, bit_not}

both : (x y : Bool) → (x && y) ≡ look and_table x y
both true true = refl
both true false = refl
both false true = refl
both false false = refl

either : (x y : Bool) → (x || y) ≡ look or_table x y
either true true = refl
either true false = refl
either false true = refl
either false false = refl

turned : (t : Table) (x y : Bool) → look t x (not y) ≡ look (complemented t) x y
turned t true true = refl
turned t true false = refl
turned t false true = refl
turned t false false = refl

pub bit_of_and : (own operand k : ℕ) → bit (bit_and own operand) k ≡ look and_table (bit own k) (bit operand k)
bit_of_and own operand k = bit-bit_and own operand k ∙ both (bit own k) (bit operand k)

pub bit_of_or : (own operand k : ℕ) → bit (bit_or own operand) k ≡ look or_table (bit own k) (bit operand k)
bit_of_or own operand k = bit-bit_or own operand k ∙ either (bit own k) (bit operand k)

pub look_of_complement : (t : Table) (x : Bool) (w k : ℕ) → w < 2 ^ 64 → k < 64 → look t x (bit (2 ^ 64 - 1 - w) k) ≡ look (complemented t) x (bit w k)
look_of_complement t x w k h l = ap (look t x) (bit_not 64 w k h l) ∙ turned t x (bit w k)

through : (t : Table) (x y : Bool) → ((not x && ((not y && t.neither) || (y && t.operand_only))) || (x && ((not y && t.own_only) || (y && t.both)))) ≡ look t x y
through t true true = refl
through t true false = or-false t.own_only
through t false true = or-false t.operand_only
through t false false = or-false (t.neither || false) ∙ or-false t.neither

-- the four spread bits of a table are each let through at one pair of bits
pub bit_of_table : (t : Table) (own operand n o w b k : ℕ) → own < 2 ^ 64 → operand < 2 ^ 64 → k < 64 → bit n k ≡ t.neither → bit o k ≡ t.operand_only → bit w k ≡ t.own_only → bit b k ≡ t.both
    → bit (bit_or (bit_and (2 ^ 64 - 1 - own) (bit_or (bit_and (2 ^ 64 - 1 - operand) n) (bit_and operand o))) (bit_and own (bit_or (bit_and (2 ^ 64 - 1 - operand) w) (bit_and operand b)))) k ≡ look t (bit own k) (bit operand k)
bit_of_table t own operand n o w b k h l k' en eo ew eb =
    let x = bit_not 64 own k h k' in
    let y = bit_not 64 operand k l k' in
    simp (bit-bit_or, bit-bit_and, x, y, en, eo, ew, eb) (through t (bit own k) (bit operand k))
