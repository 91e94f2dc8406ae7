-- The operations of a file, on what a reader and the tables hold.
use Rattle.sequence.specs.Machines.{Machine, of, settled}
use Rattle.reader.specs.Holding.{Holding, operate, settle_held}

-- what each operation does
unfoldable pub desk : Machine Holding
desk h (of v) = operate h v
desk h settled = settle_held h
