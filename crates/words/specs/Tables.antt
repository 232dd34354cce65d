-- Word operators by their tables.
--   look           a table's bit for (own bit, operand's bit)
--   Applied        every bit of a result is the table's for the same bit of both words, and depends on nothing else
--   or_table, and_table, second_table, subtract_table, union_not_table   the tables that masks are combined by
--   complemented   the table of a layer that complements the operand's bit and hands both on
use Rattle.std.specs.Prelude.{ℕ, Bool, true, false}
use Rattle.words.specs.declared.table.Table.{Table}
use Rattle.words.specs.Bits.{bit, HasBits}

abbrev pub look : Table → Bool → Bool → Bool
look t false false = t.neither
look t false true = t.operand_only
look t true false = t.own_only
look t true true = t.both

abbrev pub Applied : Table → ℕ → ℕ → ℕ → Type 0
Applied t own operand result = HasBits result (λ k. look t (bit own k) (bit operand k))

abbrev pub or_table : Table
or_table = record { neither = false; operand_only = true; own_only = true; both = true }

abbrev pub and_table : Table
and_table = record { neither = false; operand_only = false; own_only = false; both = true }

abbrev pub second_table : Table
second_table = record { neither = false; operand_only = true; own_only = false; both = true }

abbrev pub complemented : Table → Table
complemented t = record { neither = t.operand_only; operand_only = t.neither; own_only = t.both; both = t.own_only }

abbrev pub subtract_table : Table
subtract_table = record { neither = false; operand_only = false; own_only = true; both = false }

abbrev pub union_not_table : Table
union_not_table = record { neither = true; operand_only = false; own_only = true; both = true }
