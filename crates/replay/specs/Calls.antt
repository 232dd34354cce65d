-- What calls do to a mask, by the machine.
--   moved     a change as a move of the machine
--   table_of  the table of a combination
use Rattle.mask.specs.Machine.{Move, insert, remove, clear, insert_all}
use Rattle.words.specs.declared.table.Table.{Table}
use Rattle.words.specs.Tables.{or_table, and_table, second_table, subtract_table, union_not_table}
use Rattle.replay.specs.declared.calls.Change.{Change}
use Rattle.replay.specs.declared.calls.Change.TheVariants.{Insert, Remove, Clear, InsertAll}
use Rattle.replay.specs.declared.calls.Combination.{Combination}
use Rattle.replay.specs.declared.calls.Combination.TheVariants.{Union, Intersect, Subtract, UnionNot, CloneFrom, Tabled}

abbrev pub moved : Change → Move
moved (Insert i) = insert i
moved (Remove i) = remove i
moved Clear = clear
moved InsertAll = insert_all

abbrev pub table_of : Combination → Table
table_of Union = or_table
table_of Intersect = and_table
table_of Subtract = subtract_table
table_of UnionNot = union_not_table
table_of CloneFrom = second_table
table_of (Tabled t) = t
