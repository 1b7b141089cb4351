-- Where the demands of jobs are stored.
use Rattle.std.specs.Prelude.{ℕ, List}
use Rattle.mq_asked.specs.declared.asked.Place.{Place}
use Rattle.mq_asked.specs.declared.asked.Place.TheVariants.{Column, Listed}

-- the numbers stored there
abbrev pub numbers_in : Place → List ℕ
numbers_in (Column column) = column.now
numbers_in (Listed numbers) = numbers.value
